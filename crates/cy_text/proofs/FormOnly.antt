-- Nothing but what the grammar has is read.
use Rattle.std.proofs.Common.{ℕ, ◌≡◌, ◌≤◌, List, [], ◌∷◌, ◌++◌, true, false, Result, Ok, Err, refl, ap, sym, subst, ◌∙◌}
use Rattle.cy_text.specs.Fields.{Fields, Quote}
use Rattle.cy_text.specs.Strings.{and_then}
use Rattle.cy_text.specs.Tokens.{Tokens, Next, End, Faulty, tokens_of}
use Rattle.cy_text.specs.Form.{Building, Reading, reading, after_token, placed, all_closed, ends_value, finish, read, read_text, unread}
use Rattle.cy_text.specs.Grammar.{followed, depth_of, IsFields, none, IsTextOf}
use Rattle.cy_text.specs.Places.{with_place, fields_of_text}
use Rattle.cy_text.specs.declared.token.Lexeme.{Lexeme}
use Rattle.cy_text.specs.declared.expected.Frame.{Frame}
use Rattle.cy_text.specs.declared.expected.Place.{Place}
use Rattle.cy_text.specs.declared.expected.Place.TheVariants as place
use Rattle.cy_text.specs.declared.expected.Expected.{Expected}
use Rattle.cy_text.specs.declared.expected.Expected.TheVariants as expect
use Rattle.cy_text.specs.declared.error.TextError.{TextError}
use Rattle.cy_text.specs.declared.fault.Fault.{Fault}
use Rattle.cy_text.proofs.Runs.{run, run_one, run_behind}
use Rattle.cy_text.proofs.FormReads.{read_low, form_read}
use Rattle.cy_text.proofs.Prefixes.{Inside, PrefixOf, Prefix}
use Rattle.cy_text.proofs.PrefixSteps.{quote_placed, step_prefix}
use Rattle.cy_text.specs.Cuts.{IsCut}
use Rattle.cy_text.proofs.CutText.{read_is_cut}

module _ (ts : List Lexeme) (at : ℕ) (all : Fields) where
  closed_form : (frames : List Frame) (fields : Fields) → Inside frames fields ts → all_closed (record { frames = frames; fields = fields }) at ≡ Ok all → IsFields ts all
  unfolding all_closed
  closed_form [] fields f e = let same : fields ≡ all = cc in subst (λ (fs : Fields). IsFields ts fs) same f
  closed_form (frame ∷ frames) fields f e = absurd (cc)

  ends_form : (b : Building) (name : List ℕ) (start end : ℕ) (bytes : List ℕ) (p : Place) → Prefix (placed b (record { name = name; start = start; place = p }) end (Quote bytes)) ts
      → ends_value (placed b (record { name = name; start = start; place = p }) end (Quote bytes)) at ≡ Ok all → IsFields ts all
  unfolding ends_value placed
  ends_form b name start end bytes place.Field h e = closed_form b.frames _ h.now e
  ends_form b name start end bytes place.Item h e = absurd (cc)
  ends_form b name start end bytes place.MessageItem h e = absurd (cc)

  pub finish_form : (b : Building) (next : Expected) → PrefixOf b next ts → finish (reading b next) at ≡ Ok all → IsFields ts all
  unfolding finish
  finish_form b (expect.Field true) h e = closed_form b.frames b.fields h.now e
  finish_form b (expect.Field false) h e = closed_form b.frames b.fields h e
  finish_form b (expect.Strings slot bytes end) h e = ends_form b slot.name slot.start end bytes slot.place (quote_placed b ts (record { start = 0; end = 0 }) unread slot bytes end h) e
  finish_form b next h e = absurd (cc)

-- One more token in front.
pub followed_more : (ts : List Lexeme) (l : Lexeme) (more : Tokens) → followed (ts ++ l ∷ []) more ≡ followed ts (Next l more)
followed_more [] l more = refl
followed_more (t ∷ ts) l more = ap (Next t) (followed_more ts l more)

pub run_more : (r n m : Reading) (ts : List Lexeme) (l : Lexeme) → run r ts ≡ Ok n → after_token n l ≡ Ok m → run r (ts ++ l ∷ []) ≡ Ok m
run_more r n m ts l e f = run_behind r n ts (l ∷ []) e ∙ run_one n m l f

-- The fields of a text, and that they are its grammar's.
pub record Found (whole : Tokens) (fields : Fields) : Type 0 where
  pub tokens : List Lexeme
  pub end : ℕ
  pub same : whole ≡ followed tokens (End end)
  pub form : IsFields tokens fields
  pub low : depth_of fields ≤ 64

found : (whole : Tokens) (all : Fields) (tokens : Tokens) (r : Reading) (ts : List Lexeme) → whole ≡ followed ts tokens → Prefix r ts → run unread ts ≡ Ok r → read r tokens ≡ Ok all → Found whole all
unfolding read
found whole all (Next l more) r ts same h ran e = elim (after_token r l) as (λ o. after_token r l ≡ o → and_then o (λ n. read n more) ≡ Ok all → Found whole all) [
  | Ok n ↦ λ s d. found whole all more n (ts ++ l ∷ []) (same ∙ sym (followed_more ts l more)) (step_prefix r ts l n h s) (run_more unread r n ts l ran s) d
  | Err f ↦ λ s d. absurd (cc)
] refl e
found whole all (End at) r ts same h ran e =
    let f : IsFields ts all = finish_form ts at all r.building r.next h e in
    record { tokens = ts; end = at; same = same; form = f; low = read_low ts all r f ran }
found whole all (Faulty fault) r ts same h ran e = absurd (cc)

with_place_ok : (text : List ℕ) (o : Result Fields Fault) (all : Fields) → with_place text o ≡ Ok all → o ≡ Ok all
with_place_ok text (Ok fields) all e = let same : fields ≡ all = cc in ap Ok same
with_place_ok text (Err fault) all e = absurd (cc)

pub read_form : (text : List ℕ) (fields : Fields) → fields_of_text text ≡ Ok fields → IsTextOf text fields
unfolding read_text
read_form text fields e =
    let p = found (tokens_of text) fields (tokens_of text) unread [] refl none refl (with_place_ok text (read_text text) fields e) in
    record { tokens = p.tokens; end = p.end; cut = subst (IsCut 0 text) p.same (read_is_cut text); form = p.form; depth = p.low }

pub refused : (text : List ℕ) (error : TextError) → fields_of_text text ≡ Err error → (fields : Fields) → IsTextOf text fields → ⊥
refused text error e fields form = let d : fields_of_text text ≡ Ok fields = form_read text fields form in cc
