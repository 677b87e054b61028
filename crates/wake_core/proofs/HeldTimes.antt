-- An output is held back until its own time, which the greatest value of the clock is past.
use Rattle.std.proofs.Common.{ℕ, ◌≡◌, ◌≤◌, ◌++◌, ap, sym, ◌∙◌, subst, List, [], ◌∷◌}
use Rattle.cy_msg.specs.declared.token.Tuple.{Tuple}
use Rattle.cy_comp.specs.declared.kind.Kind.{Kind}
use Rattle.cy_comp.specs.declared.call.Out.{Out}
use Rattle.cy_comp.specs.declared.call.Outcome.{Outcome}
use Rattle.cy_comp.specs.declared.call.Outcome.TheVariants.{Hold}
use Rattle.cy_comp.specs.Step.{last_wake, outcome_after, passed_at}
use Rattle.cy_comp.specs.Laws.{IsAnswer, no_output, passes_on, makes_value, gives_answer, holds_back, ends_with, OutcomesAreAnswers}

-- What holds of an output that is held back.
pub record IsHeld (until : ℕ) (out : Out) : Type 0 where
  pub time : out.time ≡ until
  pub wakes : until ≤ last_wake

pub answer_held : (k : Kind) (tuples : List Tuple) (tuple : Tuple) (until : ℕ) (out : Out) (o : Outcome) → IsAnswer k tuples tuple o → o ≡ Hold until out → IsHeld until out
answer_held k tuples tuple until out o no_output e = cc
answer_held k tuples tuple until out o (passes_on is) e = cc
answer_held k tuples tuple until out o (makes_value is) e = cc
answer_held k tuples tuple until out o (gives_answer is) e = cc
answer_held k tuples tuple until out o (holds_back {until = u} {m} few is) e =
    let first : u ≡ until = cc in
    let second : passed_at u m ≡ out = cc in
    record { time = sym (ap (λ (o : Out). o.time) second) ∙ first; wakes = subst (λ n. n ≤ last_wake) first few }
answer_held k tuples tuple until out o (ends_with is) e = cc

-- A component of any class holds an output back so.
pub held_so : OutcomesAreAnswers → (k : Kind) (earlier : List Tuple) (tuple : Tuple) (until : ℕ) (out : Out) → outcome_after k earlier tuple ≡ Hold until out → IsHeld until out
held_so law k earlier tuple until out e = answer_held k (earlier ++ tuple ∷ []) tuple until out (outcome_after k earlier tuple) (law k earlier tuple) e
