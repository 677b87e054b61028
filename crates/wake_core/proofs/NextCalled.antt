-- What a call at once on what a fetch finds has done.
use Rattle.std.proofs.Common.{ℕ, ◌≡◌, ◌∙◌, sym, refl, Option, Some, None}
use Rattle.std.proofs.lemmas.Option.{none-some, same_Some}
use Rattle.cy_msg.specs.declared.token.Tuple.{Tuple}
use Rattle.cy_comp.specs.declared.call.Outcome.{Outcome}
use Rattle.cy_comp.specs.Routine.{RoutineView, taken, answer_to}
use Rattle.wake_core.specs.private.NextCall.{answer_on, called_on}

-- Something was found, and the component answered to it.
pub record HasCalled (r new : RoutineView) (found : Option (Tuple × ℕ × ℕ)) (o : Outcome) : Type 0 where
  pub tuple : Tuple
  pub position : ℕ
  pub tail : ℕ
  pub there : found ≡ Some (tuple, position, tail)
  pub answer : o ≡ answer_to r tuple
  pub kept : new ≡ taken r tuple position tail

pub has_called : (r new : RoutineView) (found : Option (Tuple × ℕ × ℕ)) (result : Option Outcome) (o : Outcome) → result ≡ answer_on r found → new ≡ called_on r found → result ≡ Some o → HasCalled r new found o
has_called r new None result o is kept some = absurd (none-some o (sym is ∙ some))
has_called r new (Some x) result o is kept some = record {
  tuple = x.0;
  position = x.1;
  tail = x.2;
  there = refl;
  answer = same_Some o (answer_to r x.0) (sym some ∙ is);
  kept = kept;
}

-- Nothing was found.
pub record HasMissed (r new : RoutineView) (found : Option (Tuple × ℕ × ℕ)) : Type 0 where
  pub none : found ≡ None
  pub stays : new ≡ r

pub has_missed : (r new : RoutineView) (found : Option (Tuple × ℕ × ℕ)) (result : Option Outcome) → result ≡ answer_on r found → new ≡ called_on r found → result ≡ None → HasMissed r new found
has_missed r new None result is kept none = record { none = refl; stays = kept }
has_missed r new (Some x) result is kept none = absurd (none-some (answer_to r x.0) (sym none ∙ is))
