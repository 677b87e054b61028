-- Where all are parked and the clock is at its greatest value the world is quiet.
use Rattle.std.proofs.Common.{ℕ, suc, ◌≡◌, ◌≢◌, ◌≤◌, ◌<◌, ◌⊎◌, true, refl, sym, ◌∙◌, ap, subst, inl, inr, arith, List, [], ◌∷◌, ◌++◌, length, Option, Some, None, slice_get}
use Rattle.cy_comp.specs.declared.call.Call.{Call}
use Rattle.cy_comp.specs.declared.call.Out.{Out}
use Rattle.cy_comp.specs.declared.call.Outcome.{Outcome}
use Rattle.cy_comp.specs.declared.call.Outcome.TheVariants.{Emit, Hold, Last}
use Rattle.cy_comp.specs.Step.{last_wake, outcome_after}
use Rattle.cy_comp.specs.Calls.{tuples_of, last_outcome, held_until}
use Rattle.cy_comp.specs.Laws.{OutcomesAreAnswers}
use Rattle.wake_core.specs.Run.{Route}
use Rattle.wake_core.specs.Serial.{last_clock}
use Rattle.wake_core.specs.Plain.{Plain, Hand, hand, State, Ready, DataWait, Sleep, Finished, Phase, Woken, Asked, Running, last_of, found_by, lists, played_count, to_play}
use Rattle.wake_core.specs.Sound.{Sound}
use Rattle.wake_core.specs.LawfulRun.{Quiet}
use Rattle.wake_core.specs.Events.{IsRaised}
use Rattle.wake_core.specs.Rest.{IsAtRest, IsScanOf}
use Rattle.wake_core.specs.Turns.{IsParked}
use Rattle.wake_core.proofs.HeldTimes.{held_so}
use Rattle.wake_core.proofs.Outputs.{last_push}
use Rattle.wake_core.proofs.Putting.{ends_in}

held_wakes : (o : Outcome) (until : ℕ) → held_until (Some o) ≡ Some until → ((out : Out) → o ≡ Hold until out → until ≤ last_wake) → until ≤ last_wake
held_wakes (Emit out) until e all = cc
held_wakes (Hold u out) until e all = let same : u ≡ until = cc in all out (ap (λ n. Hold n out) same)
held_wakes (Last out) until e all = cc

last_wakes : OutcomesAreAnswers → (x : Route) (calls : List Call) (until : ℕ) → held_until (last_outcome x.kind calls) ≡ Some until → until ≤ last_wake
unfolding last_outcome
last_wakes law x calls until e = by calls e
  where
    by_last : (before : List Call) (call : Call) → held_until (last_outcome x.kind (before ++ call ∷ [])) ≡ Some until → until ≤ last_wake
    by_last before call e = held_wakes (outcome_after x.kind (tuples_of before) call.tuple) until (sym (ap held_until (last_push x before call)) ∙ e)
        (λ out is. (held_so law x.kind (tuples_of before) call.tuple until out is).wakes)

    never : (n : ℕ) → suc n ≡ 0 → ⊥
    never n e = cc

    by : (calls : List Call) → held_until (last_outcome x.kind calls) ≡ Some until → until ≤ last_wake
    by [] e = absurd (none e)
      where
        none : held_until (last_outcome x.kind []) ≡ Some until → ⊥
        none e = cc
    by (y ∷ calls) e =
        let l = ends_in (y ∷ calls) (λ n. never (length calls) n) in
        by_last l.0 l.1 (sym (ap (λ (k : List Call). held_until (last_outcome x.kind k)) l.2) ∙ e)

-- Any croutine sleeps until a time that the greatest value of the clock is past.
sleeps_short : OutcomesAreAnswers → (w : Plain) (c until : ℕ) → held_until (last_of w.routes w.calls c) ≡ Some until → until < last_clock
sleeps_short law w c until e = by (slice_get w.routes c) refl
  where
    by : (o : Option Route) → slice_get w.routes c ≡ o → until < last_clock
    by None at = absurd (none (rw at at e))
      where
        none : None ≡ Some until → ⊥
        none e = cc
    by (Some x) at = let l = last_wakes law x (w.calls c) until (rw at at e) in omega (arith, l)

-- A croutine that is parked, and waits, would find nothing.
module _ (w : Plain) (rest : IsAtRest w) (s : Sound w) (c : ℕ) (p : IsParked c w) where
  not_in : (f : Phase) (q : ℕ) → w.hands q ≢ hand c f
  not_in f q e = some_none (sym e ∙ (rest q).hand)
    where
      some_none : {h : Hand} → Some h ≡ None → ⊥
      some_none e = cc

  waits_for_none : w.states c ≡ DataWait → found_by w c ≡ None
  waits_for_none e = by (found_by w c) refl
    where
      some_none : {n : ℕ} → Some n ≡ None → ⊥
      some_none e = cc

      by : (o : Option ℕ) → found_by w c ≡ o → o ≡ None
      by None is = refl
      by (Some n) is = absurd (s.wakes.none_lost c p.spent (λ none. some_none (sym is ∙ none))
          (λ q. (ap (lists c) (rest q).owes.looked, ap (lists c) (rest q).owes.cleared)) e (λ q. (not_in Woken q, not_in Asked q, not_in Running q)))

  ends_as : OutcomesAreAnswers → w.clock ≡ last_clock → (w.states c ≡ Finished) ⊎ ((w.states c ≡ DataWait) × (found_by w c ≡ None))
  ends_as law clock = by (w.states c) refl
    where
      by : (st : State) → w.states c ≡ st → (w.states c ≡ Finished) ⊎ ((w.states c ≡ DataWait) × (found_by w c ≡ None))
      by Ready e = absurd (p.resting e)
      by DataWait e = inr (e, waits_for_none e)
      by Finished e = inl e
      by (Sleep until) e = absurd (p.not_due (rw e (subst (λ n. until < n) (sym clock) (sleeps_short law w c until (s.consistent.held.sleeps c until e)))))

pub settled_quiet : OutcomesAreAnswers → (scan : List ℕ) (w : Plain) → IsAtRest w → Sound w → IsScanOf (length w.routes) scan → ((c : ℕ) → lists c scan ≡ true → IsParked c w)
    → w.clock ≡ last_clock → played_count w ≡ to_play w → IsRaised w → Quiet w
settled_quiet law scan w rest s each parked clock played raised = record {
  played = played;
  raised = raised;
  free = λ q. (rest q).hand;
  owes = λ q. (rest q).owes;
  clock = clock;
  spent = λ c known. (parked c (each.each c known)).spent;
  ends = λ c known. ends_as w rest s c (parked c (each.each c known)) law clock;
}
