-- Runs of bytes of a kind, and what stands behind the digits of a number.
use Rattle.std.proofs.Common.{ℕ, ◌≡◌, ◌<◌, List, [], ◌∷◌, ◌++◌, length, length-append, Bool, true, false, cond, ◌⊎◌, inl, inr, refl, ap, sym, ◌∙◌, subst, arith, append_assoc}
use Rattle.std.proofs.lemmas.Grind.{common_steps}
use Rattle.std.proofs.lemmas.Bool.{false≢true}
use Rattle.std.proofs.lemmas.Bool.Decides.{nat_tests}
use Rattle.std.proofs.Math.Seq.{drop-append_seam}
use Rattle.std.specs.List.{prefix_len}
use Rattle.cy_text.specs.Letters.{is_digit, is_word, starts}
use Rattle.cy_text.specs.Numbers.{either, exponent_len, tail_len}
use Rattle.cy_text.specs.Pieces.{AreAll, IsRun, IsExponent, unsigned, signed, IsTail, bare, suffix, exponent, both}

pub by_cases : {X : Type 0} (P : X → Type 0) (c : Bool) (x y : X) → (c ≡ true → P x) → (c ≡ false → P y) → P (cond c x y)
by_cases P true x y f g = f refl
by_cases P false x y f g = g refl

pub either_way : {P : Type 0} (c : Bool) → (c ≡ true → P) → (c ≡ false → P) → P
either_way true f g = f refl
either_way false f g = g refl

-- A run that a byte ends.
pub run_before : (test : ℕ → Bool) (xs rest : List ℕ) → AreAll test xs → starts test rest ≡ false → prefix_len test (xs ++ rest) ≡ length xs
run_before test [] [] all stops = refl
run_before test [] (b ∷ rest) all stops = rw stops refl
run_before test (x ∷ xs) rest all stops = rw (all.0, run_before test xs rest all.1 stops) (omega arith)

pub all_and : (test : ℕ → Bool) (digits : List ℕ) (b : ℕ) → AreAll test digits → test b ≡ true → AreAll test (digits ++ b ∷ [])
all_and test [] b all h = (h, tt)
all_and test (d ∷ digits) b all h = (all.0, all_and test digits b all.1 h)

-- The run in front.
pub record RunOf (test : ℕ → Bool) (bytes : List ℕ) : Type 0 where
  pub front : List ℕ
  pub rest : List ℕ
  pub same : bytes ≡ front ++ rest
  pub all : AreAll test front
  pub stops : starts test rest ≡ false

run_more : (test : ℕ → Bool) (b : ℕ) (bytes : List ℕ) (c : Bool) → test b ≡ c → RunOf test bytes → RunOf test (b ∷ bytes)
run_more test b bytes true e more = record { front = b ∷ more.front; rest = more.rest; same = ap (λ (xs : List ℕ). b ∷ xs) more.same; all = (e, more.all); stops = more.stops }
run_more test b bytes false e more = record { front = []; rest = b ∷ bytes; same = refl; all = tt; stops = e }

pub run_of : (test : ℕ → Bool) (bytes : List ℕ) → RunOf test bytes
run_of test [] = record { front = []; rest = []; same = refl; all = tt; stops = refl }
run_of test (b ∷ bytes) = run_more test b bytes (test b) refl (run_of test bytes)

front_some : (test : ℕ → Bool) (bytes front rest : List ℕ) → bytes ≡ front ++ rest → starts test bytes ≡ true → starts test rest ≡ false → 0 < length front
front_some test bytes [] rest same h stops = absurd (false≢true (sym stops ∙ ap (starts test) (sym same) ∙ h))
front_some test bytes (x ∷ xs) rest same h stops = omega arith

pub run_some : (test : ℕ → Bool) (bytes : List ℕ) (r : RunOf test bytes) → starts test bytes ≡ true → IsRun test r.front
run_some test bytes r h = record { some = front_some test bytes r.front r.rest r.same h r.stops; all = r.all }

pub some_start : (test : ℕ → Bool) (bytes : List ℕ) → starts test bytes ≡ true → 0 < length bytes
some_start test [] h = absurd (false≢true h)
some_start test (b ∷ bytes) h = omega arith

-- The byte in front.
pub record FirstOf (test : ℕ → Bool) (bytes : List ℕ) : Type 0 where
  pub byte : ℕ
  pub more : List ℕ
  pub same : bytes ≡ byte ∷ more
  pub yes : test byte ≡ true

pub first_byte : (test : ℕ → Bool) (bytes : List ℕ) → starts test bytes ≡ true → FirstOf test bytes
first_byte test [] h = absurd (false≢true h)
first_byte test (b ∷ bytes) h = record { byte = b; more = bytes; same = refl; yes = h }

-- Bytes that begin with none of a kind begin with none of a smaller one.
none_of : (x y : Bool) → (x ≡ true → y ≡ true) → y ≡ false → x ≡ false
none_of false y f h = refl
none_of true y f h = absurd (false≢true (sym h ∙ f refl))

pub starts_less : (less test : ℕ → Bool) → ((b : ℕ) → less b ≡ true → test b ≡ true) → (bytes : List ℕ) → starts test bytes ≡ false → starts less bytes ≡ false
starts_less less test f [] h = refl
starts_less less test f (b ∷ bytes) h = none_of (less b) (test b) (f b) h

-- What begins bytes begins them with more behind it.
pub starts_front : (test : ℕ → Bool) (bytes more others : List ℕ) → bytes ≡ more ++ others → starts test bytes ≡ false → starts test more ≡ false
starts_front test bytes [] others same h = refl
starts_front test bytes (b ∷ more) others same h = sym (ap (starts test) same) ∙ h

digit_is_word : (b : ℕ) → is_digit b ≡ true → is_word b ≡ true
digit_is_word b h = grind (arith, nat_tests, common_steps)

e_is_word : (b : ℕ) → either 101 69 b ≡ true → is_word b ≡ true
e_is_word b h = grind (arith, nat_tests, common_steps)

f_is_word : (b : ℕ) → either 102 70 b ≡ true → is_word b ≡ true
f_is_word b h = grind (arith, nat_tests, common_steps)

f_is_other : (b : ℕ) → either 102 70 b ≡ true → (either 101 69 b ≡ false) × (is_digit b ≡ false)
f_is_other b h = (grind (arith, nat_tests, common_steps), grind (arith, nat_tests, common_steps))

pub no_digit : (bytes : List ℕ) → starts is_word bytes ≡ false → starts is_digit bytes ≡ false
no_digit bytes h = starts_less is_digit is_word digit_is_word bytes h

-- Exponents.
digit_no_sign : (d : ℕ) → is_digit d ≡ true → either 43 45 d ≡ false
digit_no_sign d h = grind (arith, nat_tests, common_steps)

unsigned_before : (x : ℕ) (digits rest : List ℕ) → either 101 69 x ≡ true → 0 < length digits → AreAll is_digit digits → starts is_digit rest ≡ false
    → exponent_len (x ∷ digits ++ rest) ≡ length (x ∷ digits)
unfolding exponent_len
unsigned_before x [] rest h some all stops = absurd (omega (arith, some))
unsigned_before x (d ∷ digits) rest h some all stops =
    rw (h, digit_no_sign d all.0, all.0, run_before is_digit digits rest all.1 stops) (omega arith)

signed_before : (x s : ℕ) (digits rest : List ℕ) → either 101 69 x ≡ true → either 43 45 s ≡ true → 0 < length digits → AreAll is_digit digits → starts is_digit rest ≡ false
    → exponent_len (x ∷ s ∷ digits ++ rest) ≡ length (x ∷ s ∷ digits)
unfolding exponent_len
signed_before x s [] rest h sign some all stops = absurd (omega (arith, some))
signed_before x s (d ∷ digits) rest h sign some all stops =
    rw (h, sign, all.0, run_before is_digit digits rest all.1 stops) (omega arith)

pub exponent_before : {e : List ℕ} (rest : List ℕ) → IsExponent e → starts is_digit rest ≡ false → exponent_len (e ++ rest) ≡ length e
exponent_before rest (unsigned {e = x} {digits = ds} h run) stops = unsigned_before x ds rest h run.some run.all stops
exponent_before rest (signed {e = x} {sign = s} {digits = ds} h sign run) stops = signed_before x s ds rest h sign run.some run.all stops

pub record ExponentOf (bytes : List ℕ) : Type 0 where
  pub front : List ℕ
  pub rest : List ℕ
  pub same : bytes ≡ front ++ rest
  pub form : IsExponent front
  pub stops : starts is_digit rest ≡ false

abbrev MaybeExponent : List ℕ → Type 0
MaybeExponent bytes = ExponentOf bytes ⊎ (exponent_len bytes ≡ 0)

unsigned_of : (x : ℕ) (bytes : List ℕ) → either 101 69 x ≡ true → starts is_digit bytes ≡ true → ExponentOf (x ∷ bytes)
unsigned_of x bytes h d =
    let r = run_of is_digit bytes in
    record { front = x ∷ r.front; rest = r.rest; same = ap (λ (xs : List ℕ). x ∷ xs) r.same; form = unsigned h (run_some is_digit bytes r d); stops = r.stops }

signed_of : (x s : ℕ) (bytes : List ℕ) → either 101 69 x ≡ true → either 43 45 s ≡ true → starts is_digit bytes ≡ true → ExponentOf (x ∷ s ∷ bytes)
signed_of x s bytes h sign d =
    let r = run_of is_digit bytes in
    record { front = x ∷ s ∷ r.front; rest = r.rest; same = ap (λ (xs : List ℕ). x ∷ s ∷ xs) r.same; form = signed h sign (run_some is_digit bytes r d); stops = r.stops }

exponent_behind : (x : ℕ) (bytes : List ℕ) → either 101 69 x ≡ true → MaybeExponent (x ∷ bytes)
unfolding exponent_len
exponent_behind x [] h = inr (rw h refl)
exponent_behind x (s ∷ bytes) h =
    either_way (either 43 45 s) (λ sign. either_way (starts is_digit bytes) (λ d. inl (signed_of x s bytes h sign d)) (λ d. inr (rw (h, sign, d) refl)))
    (λ sign. either_way (is_digit s) (λ d. inl (unsigned_of x (s ∷ bytes) h d)) (λ d. inr (rw (h, sign, d) refl)))

pub no_exponent : (bytes : List ℕ) → starts (either 101 69) bytes ≡ false → exponent_len bytes ≡ 0
unfolding exponent_len
no_exponent bytes h = rw h refl

exponent_of : (bytes : List ℕ) → MaybeExponent bytes
exponent_of [] = inr (no_exponent [] refl)
exponent_of (x ∷ bytes) = either_way (either 101 69 x) (exponent_behind x bytes) (λ h. inr (no_exponent (x ∷ bytes) h))

-- An exponent and a suffix.
pub tail_before : {tail : List ℕ} (rest : List ℕ) → IsTail tail → starts is_word rest ≡ false → tail_len (tail ++ rest) ≡ length tail
unfolding tail_len
tail_before rest bare h =
    let e : exponent_len rest ≡ 0 = no_exponent rest (starts_less (either 101 69) is_word e_is_word rest h) in
    let f : starts (either 102 70) rest ≡ false = starts_less (either 102 70) is_word f_is_word rest h in
    rw (e, f) refl
tail_before rest (suffix {f = f} is) h =
    let e : exponent_len (f ∷ rest) ≡ 0 = no_exponent (f ∷ rest) (f_is_other f is).0 in
    rw (e, is) refl
tail_before rest (exponent {e = x} form) h =
    let e : exponent_len (x ++ rest) ≡ length x = exponent_before rest form (no_digit rest h) in
    let f : starts (either 102 70) rest ≡ false = starts_less (either 102 70) is_word f_is_word rest h in
    rw (e, drop-append_seam x rest, f) (omega arith)
tail_before rest (both {e = x} form f is) h =
    let e : exponent_len (x ++ f ∷ rest) ≡ length x = exponent_before (f ∷ rest) form (f_is_other f is).1 in
    rw (append_assoc x (f ∷ []) rest, e, drop-append_seam x (f ∷ rest), is) (omega (arith, length-append x (f ∷ [])))

pub record TailOf (bytes : List ℕ) : Type 0 where
  pub front : List ℕ
  pub rest : List ℕ
  pub same : bytes ≡ front ++ rest
  pub form : IsTail front
  pub counted : tail_len bytes ≡ length front

suffix_of : (e rest : List ℕ) → exponent_len (e ++ rest) ≡ length e → IsTail e → ((f : ℕ) → either 102 70 f ≡ true → IsTail (e ++ f ∷ [])) → TailOf (e ++ rest)
unfolding tail_len
suffix_of e [] n plain more =
    record { front = e; rest = []; same = refl; form = plain; counted = rw (n, drop-append_seam e []) (omega arith) }
suffix_of e (f ∷ rest) n plain more =
    either_way (either 102 70 f)
    (λ yes. record { front = e ++ f ∷ []; rest = rest; same = sym (append_assoc e (f ∷ []) rest); form = more f yes; counted = rw (n, drop-append_seam e (f ∷ rest), yes) (omega (arith, length-append e (f ∷ []))) })
    (λ no. record { front = e; rest = f ∷ rest; same = refl; form = plain; counted = rw (n, drop-append_seam e (f ∷ rest), no) (omega arith) })

pub tail_of : (bytes : List ℕ) → TailOf bytes
tail_of bytes = elim (exponent_of bytes) [
  | inl x ↦ subst TailOf (sym x.same) (suffix_of x.front x.rest (exponent_before x.rest x.form x.stops) (exponent x.form) (λ f yes. both x.form f yes))
  | inr none ↦ suffix_of [] bytes none bare (λ f yes. suffix yes)
]
