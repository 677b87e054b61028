-- The worlds of the worked runs, computed.
use Rattle.std.proofs.Common.{ℕ, ◌≡◌, ◌≢◌, refl, sym, ap, subst, inl, inr, arith, true, false, List, [], ◌∷◌, Some, None}
use Rattle.std.proofs.lemmas.Bool.Decides.{eqb_tells}
use Rattle.std.proofs.lemmas.Option.{same_Some}
use Rattle.cy_msg.specs.declared.token.Tuple.{Tuple}
use Rattle.cy_msg.specs.declared.token.Tuple.TheVariants.{One}
use Rattle.cy_fuse.specs.Fusion.{fused}
use Rattle.cy_fuse.specs.Fetch.{fetch}
use Rattle.cy_comp.specs.Step.{outcome_after}
use Rattle.cy_comp.specs.Calls.{outs, last_outcome}
use Rattle.wake_core.specs.Run.{set_at}
use Rattle.wake_core.specs.Plain.{Plain, Stop, opening_world}
use Rattle.cy_comp.specs.declared.state.State.TheVariants.{DataWait, Finished}
use Rattle.wake_core.specs.Events.{Checks, Closes, after_check, after_stop}
use Rattle.wake_core.specs.WorldCalls.{in_hand, MayCheck, MayStop, MayClose}
use Rattle.wake_core_tests.specs.Groups.{MayCome, MayTell, MayTake, MayTakeWoken, MayAskAgain, MayGiveBack, MayTurn, after_message, after_news, after_take, after_wake, after_fetching, after_back, after_turn}
use Rattle.wake_core_tests.specs.Runs.{passing, summing, message, passed_on, called_once, parked_too_late, four_came, parked_once, stop_after_one, stopped_once, HadCalls}

-- There is a writer.
written : {X : Type 0} (x : X) → Some x ≢ None
written x is = absurd cc

-- A message was passed on, and the component taken again.
abbrev pub one_opened : Plain
one_opened = opening_world (passing 1 ∷ []) (2 ∷ 0 ∷ []) None

abbrev pub one_came : Plain
one_came = after_message (message 1) one_opened

abbrev pub one_passed_on : Plain
one_passed_on = after_turn (passed_on 1) one_came

pub first_comes : MayCome (message 1) one_opened
first_comes = record {
  owes = record { filled = refl; looked = refl; cleared = refl };
  later = omega arith;
  raised = λ s is _. absurd cc;
  next = record { unwritten = refl; next = refl; within = omega arith };
  read = refl;
}

pub first_turn : MayTurn (passed_on 1) one_came
unfolding set_at fused fetch outs last_outcome outcome_after
first_turn = record {
  takes = record { known = omega arith; nobody = λ p. refl; not_due = λ d. d };
  asks = record { held = refl; ready = refl; none_held = refl; unstopped = refl };
  sends = record {
    owes = record { filled = refl; looked = refl; cleared = refl };
    held = refl;
    at_once = refl;
    unsent = refl;
    written = written 0;
    unread = refl;
    yields = refl;
    all = refl;
  };
}

pub taken_again : MayTake one_passed_on
unfolding set_at fused fetch outs last_outcome outcome_after
taken_again = record {
  known = omega arith;
  nobody = λ p. elim (eqb_tells p 1) [ inl h ↦ rw h.0 | inr h ↦ rw h.0 ];
  not_due = λ d. d;
}

-- The message that comes too late, and wakes the component.
pub asks_in_vain : MayAskAgain called_once
unfolding called_once set_at fused fetch outs last_outcome outcome_after
asks_in_vain = record { held = refl; ready = refl; none_held = refl; unstopped = refl }

pub second_wakes : MayTell (message 2) (after_fetching called_once)
unfolding called_once set_at fused fetch outs last_outcome outcome_after
second_wakes = record {
  comes = record {
    owes = record { filled = refl; looked = refl; cleared = refl };
    later = omega arith;
    raised = λ s is _. absurd cc;
    next = record { unwritten = refl; next = refl; within = omega arith };
    read = refl;
  };
  told = refl;
}

pub parks : MayGiveBack DataWait (after_news (message 2) (after_fetching called_once))
unfolding called_once set_at fused fetch outs last_outcome outcome_after
parks = record { owes = record { filled = refl; looked = refl; cleared = refl }; held = inl (refl, refl) }

pub is_woken : MayTakeWoken parked_too_late
unfolding called_once parked_too_late set_at fused fetch outs last_outcome outcome_after
is_woken = record {
  takes = record { known = omega arith; nobody = λ p. elim (eqb_tells p 1) [ inl h ↦ rw h.0 | inr h ↦ rw h.0 ]; not_due = λ d. d };
  woken = refl;
}

pub asks_again : MayAskAgain (after_wake parked_too_late)
unfolding called_once parked_too_late set_at fused fetch outs last_outcome outcome_after
asks_again = record { held = refl; ready = refl; none_held = refl; unstopped = refl }

pub called_after_race : HadCalls ((1, 1, One (message 1)) ∷ (2, 2, One (message 2)) ∷ []) 3 (after_fetching (after_wake parked_too_late))
unfolding called_once parked_too_late set_at fused fetch outs last_outcome outcome_after
called_after_race = record { calls = refl; cursor = refl }

-- The message that comes in time.
pub second_comes : MayCome (message 2) called_once
unfolding called_once set_at fused fetch outs last_outcome outcome_after
second_comes = record {
  owes = record { filled = refl; looked = refl; cleared = refl };
  later = omega arith;
  raised = λ s is _. absurd cc;
  next = record { unwritten = refl; next = refl; within = omega arith };
  read = refl;
}

pub asks_in_time : MayAskAgain (after_message (message 2) called_once)
unfolding called_once set_at fused fetch outs last_outcome outcome_after
asks_in_time = record { held = refl; ready = refl; none_held = refl; unstopped = refl }

pub called_in_time : HadCalls ((1, 1, One (message 1)) ∷ (2, 2, One (message 2)) ∷ []) 3 (after_fetching (after_message (message 2) called_once))
unfolding called_once set_at fused fetch outs last_outcome outcome_after
called_in_time = record { calls = refl; cursor = refl }

-- Four messages that come first.
abbrev pub four_opened : Plain
four_opened = opening_world (passing 4 ∷ []) (4 ∷ 0 ∷ []) None

abbrev pub first_of_four : Plain
first_of_four = after_message (message 1) four_opened

abbrev pub second_of_four : Plain
second_of_four = after_message (message 2) first_of_four

abbrev pub third_of_four : Plain
third_of_four = after_message (message 3) second_of_four

pub four_first : MayCome (message 1) four_opened
four_first = record {
  owes = record { filled = refl; looked = refl; cleared = refl };
  later = omega arith;
  raised = λ s is _. absurd cc;
  next = record { unwritten = refl; next = refl; within = omega arith };
  read = refl;
}

pub four_second : MayCome (message 2) first_of_four
unfolding set_at
four_second = record {
  owes = record { filled = refl; looked = refl; cleared = refl };
  later = omega arith;
  raised = λ s is _. absurd cc;
  next = record { unwritten = refl; next = refl; within = omega arith };
  read = refl;
}

pub four_third : MayCome (message 3) second_of_four
unfolding set_at
four_third = record {
  owes = record { filled = refl; looked = refl; cleared = refl };
  later = omega arith;
  raised = λ s is _. absurd cc;
  next = record { unwritten = refl; next = refl; within = omega arith };
  read = refl;
}

pub four_fourth : MayCome (message 4) third_of_four
unfolding set_at
four_fourth = record {
  owes = record { filled = refl; looked = refl; cleared = refl };
  later = omega arith;
  raised = λ s is _. absurd cc;
  next = record { unwritten = refl; next = refl; within = omega arith };
  read = refl;
}

pub newest_turn : MayTurn (passed_on 4) four_came
unfolding four_came set_at fused fetch outs last_outcome outcome_after
newest_turn = record {
  takes = record { known = omega arith; nobody = λ p. refl; not_due = λ d. d };
  asks = record { held = refl; ready = refl; none_held = refl; unstopped = refl };
  sends = record {
    owes = record { filled = refl; looked = refl; cleared = refl };
    held = refl;
    at_once = refl;
    unsent = refl;
    written = written 0;
    unread = refl;
    yields = refl;
    all = refl;
  };
}

pub closes : MayClose (after_turn (passed_on 4) four_came)
unfolding four_came set_at fused fetch outs last_outcome outcome_after
closes = record { owes = record { filled = refl; looked = refl; cleared = refl }; raised = λ s is. absurd cc; all = refl; effect = refl }

pub called_on_newest : HadCalls ((4, 4, One (message 4)) ∷ []) 5 (after_turn (passed_on 4) four_came)
unfolding four_came set_at fused fetch outs last_outcome outcome_after
called_on_newest = record { calls = refl; cursor = refl }

-- Two readers, of which only the first gets messages.
abbrev pub sum_opened : Plain
sum_opened = opening_world (summing ∷ []) (2 ∷ 0 ∷ 0 ∷ []) None

abbrev pub sum_came : Plain
sum_came = after_message (message 1) sum_opened

pub sum_comes : MayCome (message 1) sum_opened
sum_comes = record {
  owes = record { filled = refl; looked = refl; cleared = refl };
  later = omega arith;
  raised = λ s is _. absurd cc;
  next = record { unwritten = refl; next = refl; within = omega arith };
  read = refl;
}

pub sum_taken : MayTake sum_came
unfolding set_at
sum_taken = record { known = omega arith; nobody = λ p. refl; not_due = λ d. d }

pub sum_asks : MayAskAgain (after_take sum_came)
unfolding set_at outs
sum_asks = record { held = refl; ready = refl; none_held = refl; unstopped = refl }

pub sum_parks : MayGiveBack DataWait (after_fetching (after_take sum_came))
unfolding set_at fused fetch
sum_parks = record { owes = record { filled = refl; looked = refl; cleared = refl }; held = inl (refl, refl) }

pub sum_wakes : MayTell (message 2) parked_once
unfolding parked_once set_at fused fetch
sum_wakes = record {
  comes = record {
    owes = record { filled = refl; looked = refl; cleared = refl };
    later = omega arith;
    raised = λ s is _. absurd cc;
    next = record { unwritten = refl; next = refl; within = omega arith };
    read = refl;
  };
  told = refl;
}

pub sum_woken : MayTakeWoken (after_news (message 2) parked_once)
unfolding parked_once set_at fused fetch
sum_woken = record {
  takes = record { known = omega arith; nobody = λ p. elim (eqb_tells p 1) [ inl h ↦ rw h.0 | inr h ↦ rw h.0 ]; not_due = λ d. d };
  woken = refl;
}

abbrev pub sum_again : Plain
sum_again = after_wake (after_news (message 2) parked_once)

pub sum_asks_again : MayAskAgain sum_again
unfolding parked_once set_at fused fetch outs
sum_asks_again = record { held = refl; ready = refl; none_held = refl; unstopped = refl }

pub sum_parks_again : MayGiveBack DataWait (after_fetching sum_again)
unfolding parked_once set_at fused fetch
sum_parks_again = record { owes = record { filled = refl; looked = refl; cleared = refl }; held = inl (refl, refl) }

pub sum_never_called : HadCalls [] 0 (after_back DataWait (after_fetching sum_again))
unfolding parked_once set_at fused fetch
sum_never_called = record { calls = refl; cursor = refl }

pub sum_waits : (after_back DataWait (after_fetching sum_again)).states 0 ≡ DataWait
unfolding parked_once set_at fused fetch
sum_waits = refl

-- A stop behind the first of two messages.
abbrev pub stop_opened : Plain
stop_opened = opening_world (passing 1 ∷ []) (2 ∷ 0 ∷ []) (Some stop_after_one)

abbrev pub stop_came : Plain
stop_came = after_message (message 1) stop_opened

abbrev pub stop_passed_on : Plain
stop_passed_on = after_turn (passed_on 1) stop_came

-- It is raised when one message was played, and not before.
not_yet : (s : Stop) → Some stop_after_one ≡ Some s → 0 ≡ s.after → false ≡ true
not_yet s given now = absurd (let one : 1 ≡ s.after = ap (λ (x : Stop). x.after) (same_Some stop_after_one s given) in omega (arith, now, one))

pub stop_first : MayCome (message 1) stop_opened
stop_first = record {
  owes = record { filled = refl; looked = refl; cleared = refl };
  later = omega arith;
  raised = not_yet;
  next = record { unwritten = refl; next = refl; within = omega arith };
  read = refl;
}

pub stop_turn : MayTurn (passed_on 1) stop_came
unfolding set_at fused fetch outs last_outcome outcome_after
stop_turn = record {
  takes = record { known = omega arith; nobody = λ p. refl; not_due = λ d. d };
  asks = record { held = refl; ready = refl; none_held = refl; unstopped = refl };
  sends = record {
    owes = record { filled = refl; looked = refl; cleared = refl };
    held = refl;
    at_once = refl;
    unsent = refl;
    written = written 0;
    unread = refl;
    yields = refl;
    all = refl;
  };
}

pub stops_now : MayStop stop_passed_on
unfolding set_at fused fetch outs last_outcome outcome_after
stops_now = record {
  owes = record { filled = refl; looked = refl; cleared = refl };
  given = stop_after_one;
  there = refl;
  unraised = refl;
  played = refl;
  effect = refl;
}

pub stop_second : MayCome (message 2) (after_stop stop_passed_on)
unfolding set_at fused fetch outs last_outcome outcome_after
stop_second = record {
  owes = record { filled = refl; looked = refl; cleared = refl };
  later = omega arith;
  raised = λ s given now. refl;
  next = record { unwritten = refl; next = refl; within = omega arith };
  read = refl;
}

-- The component hears of it, and ends.
pub stop_taken : MayTake stopped_once
unfolding stopped_once set_at fused fetch outs last_outcome outcome_after
stop_taken = record {
  known = omega arith;
  nobody = λ p. elim (eqb_tells p 1) [ inl h ↦ rw h.0 | inr h ↦ rw h.0 ];
  not_due = λ d. d;
}

pub hears : MayCheck 1 (after_take stopped_once)
unfolding stopped_once set_at fused fetch outs last_outcome outcome_after
hears = record { held = refl; ready = refl; effect = refl }

abbrev pub stop_heard : Plain
stop_heard = after_check 1 0 (after_take stopped_once)

pub heard : (w v : Plain) → w ≡ after_take stopped_once → Checks 1 (in_hand 1 w) w v → v ≡ stop_heard
unfolding set_at
heard w v is checks =
    let taken = after_take stopped_once in
    let h : Checks 1 (in_hand 1 taken) taken v = subst (λ (x : Plain). Checks 1 (in_hand 1 x) x v) is checks in h.effect

pub ends_then : MayGiveBack Finished stop_heard
unfolding stopped_once set_at fused fetch outs last_outcome outcome_after
ends_then = record { owes = record { filled = refl; looked = refl; cleared = refl }; held = inr (inr (inr (inl refl, refl, refl))) }

pub called_before : HadCalls ((1, 1, One (message 1)) ∷ []) 2 (after_back Finished stop_heard)
unfolding stopped_once set_at fused fetch outs last_outcome outcome_after
called_before = record { calls = refl; cursor = refl }

pub stop_ended : (after_back Finished stop_heard).states 0 ≡ Finished
unfolding set_at
stop_ended = refl

-- Closing changes no call.
pub closed_on : {told : List (ℕ × ℕ × Tuple)} {next : ℕ} (w v : Plain) → Closes w v → HadCalls told next w → HadCalls told next v
closed_on {told} {next} w v closes had =
    let here : HadCalls told next record w { closing = true } = record { calls = had.calls; cursor = had.cursor } in
    subst (HadCalls told next) (sym closes.effect) here
