-- What was read is judged, one test after another.
use Rattle.std.proofs.Common.{ℕ, ◌≡◌, List, IfSome, Result, Ok, Err, Option, Some, None, refl, sym, ap, subst, ◌∙◌, inl, inr, arith}
use Rattle.std.specs.Prelude.{IfOk}
use Rattle.cy_store.specs.Files.{Files}
use Rattle.cy_store.specs.Reads.{Reads, Accepts, Refuses, ◌>>=◌}
use Rattle.cy_store.specs.Store.{StoreView, SameCounts}
use Rattle.cy_setup.specs.declared.error.Fault.{Fault}
use Rattle.cy_setup.specs.declared.error.Refusal.{Refusal}
use Rattle.cy_setup.specs.declared.error.SetupError.{SetupError}
use Rattle.cy_setup.specs.declared.error.SetupError.TheVariants.{Refused, Memory}
use Rattle.cy_setup.specs.Comes.{ComesTo, IsJudged}
use Rattle.cy_setup.specs.Steps.{IsFault}

-- what is in the way of the first test is in the way of both
pub judges_err : {X A Y B : Type 0} (v : X → A) (w : Y → B) (due : Reads Refusal A) (next : A → Reads Refusal B) (e : SetupError) → (let r : Result X SetupError = Err e in IsJudged v due r)
    → (let r : Result Y SetupError = Err e in IsJudged w (due >>= next) r)
judges_err v w due next e c = record {
  accepted = tt;
  refused = λ refusal is. ap (λ q. q >>= next) (c.refused refusal (ap Err (err_is is)));
  unread = λ file is. c.unread file (ap Err (err_is is));
}
  where
    err_is : {T : Type 0} {a b : SetupError} → (let r : Result T SetupError = Err a in r ≡ Err b) → a ≡ b
    err_is e = cc

-- what follows a test that was passed
pub judges_then : {A Y B : Type 0} (w : Y → B) (due : Reads Refusal A) (next : A → Reads Refusal B) (x : A) (r : Result Y SetupError) → due ≡ Accepts x → IsJudged w (next x) r → IsJudged w (due >>= next) r
judges_then w due next x r is c = subst (λ q. IsJudged w q r) (sym (ap (λ q. q >>= next) is)) c

pub judges_memory : {Y B : Type 0} (w : Y → B) (due : Reads Refusal B) (e : SetupError) → e ≡ Memory → (let r : Result Y SetupError = Err e in IsJudged w due r)
judges_memory {Y} w due e is = subst (λ a. let r : Result Y SetupError = Err a in IsJudged w due r) (sym is) record { accepted = tt; refused = λ refusal e. absurd cc; unread = λ file e. absurd cc }

pub judges_ok : {Y B : Type 0} (w : Y → B) (due : Reads Refusal B) (y : Y) → due ≡ Accepts (w y) → IsJudged w due (Ok y)
judges_ok w due y is = record { accepted = is; refused = λ refusal e. absurd cc; unread = λ file e. absurd cc }

pub judges_refused : {Y B : Type 0} (w : Y → B) (due : Reads Refusal B) (refusal : Refusal) → due ≡ Refuses refusal → (let r : Result Y SetupError = Err (Refused refusal) in IsJudged w due r)
judges_refused w due refusal is = record {
  accepted = tt;
  refused = λ other e. is ∙ ap Refuses (same refusal other e);
  unread = λ file e. absurd cc;
}
  where
    same : {T : Type 0} (a b : Refusal) → (let r : Result T SetupError = Err (Refused a) in r ≡ Err (Refused b)) → a ≡ b
    same a b e = cc

-- a fault of a file, or want of memory
pub judges_fault : {Y B : Type 0} (w : Y → B) (due : Reads Refusal B) (name : List ℕ) (fault : Option Fault) (answer : SetupError) → IsFault name fault answer
    → ((f : Fault) → fault ≡ Some f → due ≡ Refuses record { file = name; fault = f }) → (let r : Result Y SetupError = Err answer in IsJudged w due r)
judges_fault w due name None answer is told = judges_memory w due answer is
judges_fault w due name (Some f) answer (inl none) told = judges_memory w due answer none
judges_fault {Y} w due name (Some f) answer (inr is) told = subst (λ a. let r : Result Y SetupError = Err a in IsJudged w due r) (sym is) (judges_refused w due _ (told f refl))

-- an error that is passed on
pub passed_on : {Y B : Type 0} (w : Y → B) (due : Reads Refusal B) (r : Result Y SetupError) (e f : SetupError) → r ≡ Err e → e ≡ f → (let q : Result Y SetupError = Err f in IsJudged w due q) → IsJudged w due r
passed_on {Y} w due r e f is same j = subst (λ (q : Result Y SetupError). IsJudged w due q) (sym (is ∙ ap (λ (x : SetupError). let q : Result Y SetupError = Err x in q) same)) j

-- the same error, whatever an answer would show
pub judges_same : {X Y B : Type 0} (v : X → B) (w : Y → B) (due : Reads Refusal B) (e : SetupError) → (let q : Result X SetupError = Err e in IsJudged v due q) → (let q : Result Y SetupError = Err e in IsJudged w due q)
judges_same v w due e c = record {
  accepted = tt;
  refused = λ refusal is. c.refused refusal (ap Err (err_is is));
  unread = λ file is. c.unread file (ap Err (err_is is));
}
  where
    err_is : {T : Type 0} {a b : SetupError} → (let r : Result T SetupError = Err a in r ≡ Err b) → a ≡ b
    err_is e = cc

always : {P : Files → Type 0} (files : Option Files) → ((m : Files) → P m) → IfSome files P
always None h = tt
always (Some m) h = h m

-- what is judged comes to the same with no further file
pub judged_comes : {X A : Type 0} (v : X → A) (due : Reads Refusal A) (P : List ℕ → Type 0) (s : StoreView) (r : Result X SetupError) → IsJudged v due r → ComesTo v (λ m. due) P s s r
judged_comes {X} {A} v due P s r c = record {
  accepted = was_ok r c.accepted;
  refused = λ refusal e. (same_counts, always s.files (λ m. c.refused refusal e));
  failed = λ file e. absurd (c.unread file e);
  same = refl;
  faults_stay = omega arith;
  misses_stay = omega arith;
}
  where
    same_counts : SameCounts s s
    same_counts = record { faults = refl; misses = refl }

    was_ok : (r : Result X SetupError) → IfOk r (λ x. due ≡ Accepts (v x)) → IfOk r (λ x. SameCounts s s × IfSome s.files (λ m. due ≡ Accepts (v x)))
    was_ok (Ok x) is = (same_counts, always s.files (λ m. is))
    was_ok (Err e) is = tt
