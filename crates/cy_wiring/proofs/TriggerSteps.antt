-- One more step along triggers, and what the tests of writers and triggers find.
use Rattle.std.proofs.Common.{ℕ, suc, ◌≡◌, ◌+◌, ◌<◌, Bool, true, List, length, Option, Some, None, option_map, option_and_then, refl, sym, ap, ◌∙◌, add-one}
use Rattle.cy_wiring.specs.Triggers.{after, back_at, cycle_at, cycle_refusal, earlier_writer, is_at, met, ticks_at, ticks_refusal, timer_written, trigger_in, way_back, writers_at, writers_refusal}
use Rattle.cy_dag.specs.DagFile.{first_found}
use Rattle.cy_dag.specs.declared.config.Config.{Config}
use Rattle.cy_dag.specs.declared.dag.DagComponent.{DagComponent}
use Rattle.cy_dag.specs.declared.error.DagError.TheVariants.{TwoWriters, TimerWritten, TriggerCycle}
use Rattle.cy_dag.proofs.Found.{found_at}

back_is : (triggers : List (Option ℕ)) (c n : ℕ) (at next : Option ℕ) (back : Bool) → at ≡ after triggers n c → next ≡ option_and_then (trigger_in triggers) at
    → back ≡ is_at next c → back ≡ true → back_at triggers c n ≡ Some n
back_is triggers c n at next back here step is back_to =
    let e : is_at (after triggers (suc n) c) c ≡ true = ap (λ (a : Option ℕ). is_at (option_and_then (trigger_in triggers) a) c) (sym here) ∙ ap (λ (a : Option ℕ). is_at a c) (sym step) ∙ sym is ∙ back_to in
    rw e refl

pub came_back : (triggers : List (Option ℕ)) (c n : ℕ) (at next : Option ℕ) (back : Bool) → n < length triggers → first_found (back_at triggers c) n ≡ None
    → at ≡ after triggers n c → next ≡ option_and_then (trigger_in triggers) at → back ≡ is_at next c → back ≡ true → way_back triggers c ≡ Some n
unfolding way_back
came_back triggers c n at next back below none here step is back_to =
    found_at (back_at triggers c) n (length triggers) n below none (back_is triggers c n at next back here step is back_to)

pub writers_found : (configs : List Config) (second first : ℕ) (found : Option ℕ) → second < length configs → first_found (writers_at configs) second ≡ None
    → found ≡ earlier_writer configs second → found ≡ Some first → writers_refusal configs ≡ Some (TwoWriters first second)
unfolding writers_refusal
writers_found configs second first found below none is some =
    found_at (writers_at configs) second (length configs) _ below none (ap (option_map (λ f. TwoWriters f second)) (sym is ∙ some))

pub ticks_found : (cs : List DagComponent) (configs : List Config) (c timer : ℕ) (found : Option ℕ) → c < length configs → first_found (ticks_at cs configs) c ≡ None
    → found ≡ timer_written cs configs c → found ≡ Some timer → ticks_refusal cs configs ≡ Some (TimerWritten c timer)
unfolding ticks_refusal
ticks_found cs configs c timer found below none is some =
    found_at (ticks_at cs configs) c (length configs) _ below none (ap (option_map (λ t. TimerWritten c t)) (sym is ∙ some))

pub cycle_found : (triggers : List (Option ℕ)) (c n : ℕ) (found : Option ℕ) (cycle cs : List ℕ) → c < length triggers → first_found (cycle_at triggers) c ≡ None
    → found ≡ way_back triggers c → found ≡ Some n → cs ≡ met triggers c (n + 1) → cycle ≡ cs → cycle_refusal triggers ≡ Some (TriggerCycle cycle)
unfolding cycle_refusal
cycle_found triggers c n found cycle cs below none is some members same =
    let e : cycle ≡ met triggers c (suc n) = same ∙ members ∙ ap (met triggers c) (add-one n) in
    found_at (cycle_at triggers) c (length triggers) (TriggerCycle cycle) below none (ap (option_map (λ k. TriggerCycle (met triggers c (suc k)))) (sym is ∙ some) ∙ ap (λ (xs : List ℕ). Some (TriggerCycle xs)) (sym e))
