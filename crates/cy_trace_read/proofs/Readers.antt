-- Readers that read just what is written.
use Rattle.std.proofs.Common.{ℕ, ◌≡◌, true, List, ◌∷◌, ◌++◌, Option, Some, None, option_map, refl, ap, sym, ◌∙◌}
use Rattle.std.proofs.lemmas.Option.{none-some, option_and_then_some, some_pair_parts}
use Rattle.cy_trace.specs.Cuts.{lacks, cut, cut_last, behind, both}
use Rattle.cy_trace_read.specs.LineReading.{pair, pair_last, after}
use Rattle.cy_trace.proofs.CutLaws.{cut_finds, cut_parts, cut_last_finds, cut_last_parts, behind_finds, behind_parts, mapped_some}

-- `read` reads the values that fit, each from its text alone.
pub record IsReader {V : Type 0} (text : V → List ℕ) (fits : V → Type 0) (read : List ℕ → Option V) : Type 0 where
  pub sound : (bytes : List ℕ) (v : V) → read bytes ≡ Some v → fits v × (bytes ≡ text v)
  pub complete : (v : V) → fits v → read (text v) ≡ Some v

pub both_some : {A B : Type 0} (a : Option A) (b : Option B) (p : A × B) → both a b ≡ Some p → (a ≡ Some p.0) × (b ≡ Some p.1)
both_some None b p h = absurd (none-some p h)
both_some (Some x) None p h = absurd (none-some p h)
both_some (Some x) (Some y) p h = let e = some_pair_parts x p.0 y p.1 h in (ap (λ a. Some a) e.0, ap (λ b. Some b) e.1)

module _ {A B : Type 0} {ta : A → List ℕ} {fa : A → Type 0} {ra : List ℕ → Option A} {tb : B → List ℕ} {fb : B → Type 0} {rb : List ℕ → Option B}
    (first : IsReader ta fa ra) (second : IsReader tb fb rb) (mark : ℕ) where
  both_read : (bytes : List ℕ) (p : List ℕ × List ℕ) (v : A × B) → bytes ≡ p.0 ++ mark ∷ p.1 → both (ra p.0) (rb p.1) ≡ Some v
      → (fa v.0 × fb v.1) × (bytes ≡ ta v.0 ++ mark ∷ tb v.1)
  both_read bytes p v whole h =
      let parts = both_some (ra p.0) (rb p.1) v h in
      let a = first.sound p.0 v.0 parts.0 in
      let b = second.sound p.1 v.1 parts.1 in
      ((a.0, b.0), whole ∙ ap (λ xs. xs ++ mark ∷ p.1) a.1 ∙ ap (λ xs. ta v.0 ++ mark ∷ xs) b.1)

  both_written : (v : A × B) → fa v.0 → fb v.1 → both (ra (ta v.0)) (rb (tb v.1)) ≡ Some v
  both_written v p q = rw (first.complete v.0 p, second.complete v.1 q) refl

  -- with a mark between, which the first lacks
  pub pair_reader : ((a : A) → fa a → lacks mark (ta a) ≡ true) → IsReader (λ (v : A × B). ta v.0 ++ mark ∷ tb v.1) (λ v. fa v.0 × fb v.1) (pair mark ra rb)
  pair_reader lacking = record {
    sound = λ bytes v h. option_and_then_some (λ (p : List ℕ × List ℕ). both (ra p.0) (rb p.1)) (cut mark bytes) v h (λ p found rest. both_read bytes p v (cut_parts mark bytes p found).0 rest);
    complete = λ v fits. rw (cut_finds mark (ta v.0) (tb v.1) (lacking v.0 fits.0)) (both_written v fits.0 fits.1);
  }

  -- with a mark between, which the second lacks
  pub pair_last_reader : ((b : B) → fb b → lacks mark (tb b) ≡ true) → IsReader (λ (v : A × B). ta v.0 ++ mark ∷ tb v.1) (λ v. fa v.0 × fb v.1) (pair_last mark ra rb)
  pair_last_reader lacking = record {
    sound = λ bytes v h. option_and_then_some (λ (p : List ℕ × List ℕ). both (ra p.0) (rb p.1)) (cut_last mark bytes) v h (λ p found rest. both_read bytes p v (cut_last_parts mark bytes p found) rest);
    complete = λ v fits. rw (cut_last_finds mark (ta v.0) (tb v.1) (lacking v.1 fits.1)) (both_written v fits.0 fits.1);
  }

module _ {A : Type 0} {ta : A → List ℕ} {fa : A → Type 0} {ra : List ℕ → Option A} (reader : IsReader ta fa ra) where
  -- behind a prefix
  pub after_reader : (prefix : List ℕ) → IsReader (λ (a : A). prefix ++ ta a) fa (after prefix ra)
  after_reader prefix = record {
    sound = λ bytes v h. option_and_then_some ra (behind prefix bytes) v h (λ rest found read.
        let r = reader.sound rest v read in (r.0, behind_parts prefix bytes rest found ∙ ap (λ xs. prefix ++ xs) r.1));
    complete = λ v fits. rw (behind_finds prefix (ta v)) (reader.complete v fits);
  }

  -- the same values in another form
  pub made_reader : {B : Type 0} (tb : B → List ℕ) (fb : B → Type 0) (make : A → B) (part : B → A) → ((b : B) → make (part b) ≡ b) → ((a : A) → fa a → fb (make a)) → ((b : B) → fb b → fa (part b))
      → ((a : A) → fa a → ta a ≡ tb (make a)) → IsReader tb fb (λ bytes. option_map make (ra bytes))
  made_reader tb fb make part back fits parts same = record {
    sound = λ bytes v h.
        let m = mapped_some make (ra bytes) v h in
        let r = reader.sound bytes m.0 m.1 in
        rw (← m.2) (fits m.0 r.0, r.1 ∙ same m.0 r.0);
    complete = λ v fit.
        let written : tb v ≡ ta (part v) = ap tb (sym (back v)) ∙ sym (same (part v) (parts v fit)) in
        rw (written, reader.complete (part v) (parts v fit)) (ap (λ b. Some b) (back v));
  }
