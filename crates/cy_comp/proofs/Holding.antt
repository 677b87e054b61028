-- Which classes hold their outputs back.
use Rattle.std.proofs.Common.{◌≡◌, ◌≢◌, ◌==◌, Bool, true, false, refl, List, Some, None, Option, if◌then◌else◌, ℤ}
use Rattle.cy_msg.specs.declared.token.Token.{Token}
use Rattle.cy_msg.specs.declared.token.Tuple.{Tuple}
use Rattle.cy_comp.specs.declared.kind.Kind.{Kind}
use Rattle.cy_comp.specs.declared.kind.Kind.TheVariants as kind
use Rattle.cy_comp.specs.declared.call.Outcome.{Outcome}
use Rattle.cy_comp.specs.declared.call.Outcome.TheVariants.{Emit, Last}
use Rattle.cy_comp.specs.Kind.{holds_outputs}
use Rattle.cy_comp.specs.Step.{Kept, answer_of, on_value, is_between, is_last_passed, counted, greater_of, chosen, passed, passed_at, passes, nothing, makes, outcome_after}
use Rattle.cy_comp.specs.Calls.{held_until}

-- A component of a class that doesn't hold back answers with nothing that is held back.
on_value_not_held : (kept : Kept) (o : Option ℤ) (answer : ℤ → Kept × Outcome) → ((v : ℤ) → held_until (Some (answer v).1) ≡ None) → held_until (Some (on_value kept o answer).1) ≡ None
on_value_not_held kept None answer all = refl
on_value_not_held kept (Some v) answer all = all v

not_held : (k : Kind) (kept : Kept) (m : Token) (tuple : Tuple) → holds_outputs k ≡ false → held_until (Some (answer_of k kept m tuple).1) ≡ None
not_held kind.Pass kept m tuple e = refl
not_held (kind.Filter lo hi) kept m tuple e = on_value_not_held kept m.whole (λ v. (kept, if is_between lo hi v then passes m else nothing)) (λ v. test (is_between lo hi v))
  where
    test : (b : Bool) → held_until (Some (if b then passes m else nothing)) ≡ None
    test true = refl
    test false = refl
not_held kind.Sum kept m tuple e = refl
not_held kind.Count kept m tuple e = refl
not_held kind.Max kept m tuple e = on_value_not_held kept m.whole (λ v. let most = greater_of kept.greatest v in (record kept { greatest = Some most }, makes m most)) (λ v. refl)
not_held (kind.Window n) kept m tuple e = on_value_not_held kept m.whole _ (λ v. refl)
not_held kind.Change kept m tuple e = on_value_not_held kept m.whole _ (λ v. test v (is_last_passed kept.passed v))
  where
    answered : Kept × Outcome → Outcome
    answered a = a.1

    test : (v : ℤ) (b : Bool) → held_until (Some (answered (if b then (kept, nothing) else (record kept { passed = Some v }, passes m)))) ≡ None
    test v true = refl
    test v false = refl
not_held kind.Select kept m tuple e = on_value_not_held kept m.whole (λ v. (kept, Emit (Some (passed_at m.time (chosen v tuple))))) (λ v. refl)
not_held (kind.Hold delay) kept m tuple e = cc
not_held (kind.Take n) kept m tuple e = test (counted kept.calls == n)
  where
    test : (b : Bool) → held_until (Some (if b then Last (Some (passed m)) else passes m)) ≡ None
    test true = refl
    test false = refl
not_held (kind.External answers) kept m tuple e = refl

-- Only a component of the class that holds back has outputs that were held back, ..
pub held_holds : (k : Kind) (earlier : List Tuple) (tuple : Tuple) → held_until (Some (outcome_after k earlier tuple)) ≢ None → holds_outputs k ≡ true
unfolding outcome_after
held_holds k earlier tuple was = by (holds_outputs k) refl
  where
    by : (b : Bool) → holds_outputs k ≡ b → b ≡ true
    by true e = refl
    by false e = absurd (was (not_held k _ _ tuple e))

-- .. and all of its outputs were.
pub holds_held : (k : Kind) (earlier : List Tuple) (tuple : Tuple) → holds_outputs k ≡ true → held_until (Some (outcome_after k earlier tuple)) ≢ None
unfolding outcome_after
holds_held (kind.Hold delay) earlier tuple e = λ none. cc
holds_held kind.Pass earlier tuple e = cc
holds_held (kind.Filter lo hi) earlier tuple e = cc
holds_held kind.Sum earlier tuple e = cc
holds_held kind.Count earlier tuple e = cc
holds_held kind.Max earlier tuple e = cc
holds_held (kind.Window n) earlier tuple e = cc
holds_held kind.Change earlier tuple e = cc
holds_held kind.Select earlier tuple e = cc
holds_held (kind.Take n) earlier tuple e = cc
holds_held (kind.External answers) earlier tuple e = cc
