-- A code for fields, by which proofs tell them apart.
use Rattle.std.specs.Prelude.{ℕ, suc, ◌≡◌, Bool, List, refl}
use Rattle.std.specs.Coded.{Coded, coded×, coded_ℕ, coded_bool, coded_list}
use base.Stored.{Gv, gnil, gnum, gcons}
use Rattle.std.proofs.Common.{ap, arith}
use Rattle.cy_text.specs.Fields.{Fields, Held, Nothing, And, Whole, Literal, Word, Quote, Message}
use Rattle.cy_text.specs.declared.tree.Span.{Span}

abbrev pub number_code : Coded (Bool × ℕ)
number_code = coded× coded_bool coded_ℕ

abbrev pub text_code : Coded (List ℕ)
text_code = coded_list coded_ℕ

abbrev pub word_code : Coded (Bool × List ℕ)
word_code = coded× coded_bool text_code

abbrev pub label_code : Coded (List ℕ × (ℕ × ℕ))
label_code = coded× text_code (coded× coded_ℕ coded_ℕ)

abbrev pub label_of : List ℕ → Span → List ℕ × (ℕ × ℕ)
label_of name span = (name, (span.start, span.end))

-- A pair's parts, and a kind's number.
abbrev pub first : Gv → Gv
first gnil = gnil
first (gnum n) = gnil
first (gcons a b) = a

abbrev pub second : Gv → Gv
second gnil = gnil
second (gnum n) = gnil
second (gcons a b) = b

abbrev pub kind : Gv → ℕ
kind gnil = 0
kind (gnum n) = 1
kind (gcons gnil b) = 2
kind (gcons (gnum n) b) = suc (suc (suc n))
kind (gcons (gcons a c) b) = 2

abbrev mutual
  pub code_fields : Fields → Gv
  code_fields Nothing = gnil
  code_fields (And before name span held) = gcons (gnum 0) (gcons (code_fields before)
      (gcons (label_code.code (label_of name span)) (code_held held)))

  pub code_held : Held → Gv
  code_held (Whole negative size) = gcons (gnum 0) (number_code.code (negative, size))
  code_held (Literal text) = gcons (gnum 1) (text_code.code text)
  code_held (Word negative text) = gcons (gnum 2) (word_code.code (negative, text))
  code_held (Quote bytes) = gcons (gnum 3) (text_code.code bytes)
  code_held (Message fields) = gcons (gnum 4) (code_fields fields)

pub inj_label : (n m : List ℕ) (s t : Span) → label_code.code (label_of n s) ≡ label_code.code
    (label_of m t) → label_of n s ≡ label_of m t
inj_label n m s t p = label_code.inj (label_of n s) (label_of m t) p

mutual
  pub inj_fields : (x y : Fields) → code_fields x ≡ code_fields y → x ≡ y
  inj_fields Nothing Nothing p = refl
  inj_fields (And b n s h) (And c m t k) p = λ i.
      And (inj_fields b c (ap (λ g. first (second g)) p) i)
      ((inj_label n m s t (ap (λ g. first (second (second g))) p) i).0)
      (record {
        start = (inj_label n m s t (ap (λ g. first (second (second g))) p) i).1.0;
        end = (inj_label n m s t (ap (λ g. first (second (second g))) p) i).1.1;
      })
      (inj_held h k (ap (λ g. second (second (second g))) p) i)
  inj_fields Nothing (And c m t k) p = absurd (omega (arith, ap kind p))
  inj_fields (And b n s h) Nothing p = absurd (omega (arith, ap kind p))

  pub inj_held : (x y : Held) → code_held x ≡ code_held y → x ≡ y
  inj_held (Whole n s) (Whole m t) p = ap (λ (e : Bool × ℕ). Whole e.0 e.1)
      (number_code.inj (n, s) (m, t) (ap second p))
  inj_held (Literal a) (Literal b) p = ap Literal (text_code.inj a b (ap second p))
  inj_held (Word n a) (Word m b) p = ap (λ (e : Bool × List ℕ). Word e.0 e.1)
      (word_code.inj (n, a) (m, b) (ap second p))
  inj_held (Quote a) (Quote b) p = ap Quote (text_code.inj a b (ap second p))
  inj_held (Message a) (Message b) p = ap Message (inj_fields a b (ap second p))
  inj_held x y p = absurd (omega (arith, ap kind p))

abbrev pub fields_code : Coded Fields
fields_code = record { code = code_fields; inj = inj_fields }
