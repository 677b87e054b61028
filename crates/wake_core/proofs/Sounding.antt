-- Each event keeps all that holds of a world.
use Rattle.std.proofs.Common.{ℕ, ◌+◌, ◌≡◌, ◌≢◌, ◌⊎◌, ◌≤◌, ◌<◌, Bool, true, false, true≢false, length-append, refl, sym, ◌∙◌, ap, subst, inl, inr, arith, Option, Some, None, List, [], ◌∷◌, ◌++◌, length, slice_get, option_map, option_and_then, ◌==◌, if◌then◌else◌}
use Rattle.std.proofs.lemmas.Bool.Decides.{nat_tests}
use Rattle.cy_msg.specs.declared.token.Token.{Token}
use Rattle.cy_fuse.specs.Fusion.{Arrival, fused}
use Rattle.cy_fuse.specs.Fetch.{fetch}
use Rattle.cy_fuse.specs.Laws.{FetchesFind}
use Rattle.cy_comp.specs.declared.call.Call.{Call}
use Rattle.cy_comp.specs.declared.call.Outcome.{Outcome}
use Rattle.cy_comp.specs.declared.call.Outcome.TheVariants.{Emit, Hold, Last}
use Rattle.cy_comp.specs.Calls.{held_until}
use Rattle.cy_msg.specs.Tokens.{on_channel}
use Rattle.cy_msg.proofs.Lists.{place}
use Rattle.wake_core.specs.Run.{Route, set_at, writes_from, played_of}
use Rattle.wake_core.specs.TapeLaws.{IsUnsent}
use Rattle.wake_core.specs.Plain.{Plain, Stop, hand, State, Ready, DataWait, Sleep, Finished, Phase, Fresh, Woken, Known, Checked, Stopping, Asked, Empty, Running, Sending, LastSending, Done, last_of, made_of, taped_of, found_by}
use Rattle.wake_core.specs.Events.{IsDue, state_after, phase_after_spend, phase_after_check, next_call, after_fetch, after_call, after_fill, Acquires, Spends, Readies, Checks, Stops, Asks, Fetches, Tapes, Sends, Fills, Looks, Clears, Yields, Releases, Ticks, Closes}
use Rattle.wake_core.specs.Sound.{HeldIn, Consistent, Sound, Wakes, is_asking, is_handing}
use Rattle.wake_core.proofs.Places.{set_at_there, set_at_other, set_at_itself}
use Rattle.wake_core.proofs.HeldLaws.{not_running_of}
use Rattle.wake_core.proofs.HeldCalls.{OneTaped}
use Rattle.wake_core.proofs.Arrived.{fused_other_role}
use Rattle.wake_core.proofs.Consisting.{none_unsent, acquire_consistent, spend_consistent, ready_consistent, check_consistent, stop_consistent, ask_consistent, none_in, none_consistent, yield_consistent, release_consistent, fill_consistent, look_consistent, clear_consistent}
use Rattle.wake_core.proofs.Making.{call_made, none_made, call_in, call_consistent, sent_few}
use Rattle.wake_core.proofs.Obeying.{phase_obedient, free_obedient, check_obedient, ask_obedient, call_obedient, tape_obedient, stop_obedient, calls_stand}
use Rattle.wake_core.proofs.Taping.{unsent_is, from_held, next_hands, played_taped, tape_consistent, send_taped, send_written, send_consistent}
use Rattle.wake_core.proofs.Waking.{acquire_wakes, spend_wakes, ready_wakes, ask_wakes, none_wakes, call_wakes, hand_wakes, fill_wakes, quiet_fill_wakes, look_wakes, clear_wakes, yield_empty_wakes, yield_wakes}
use Rattle.wake_core.proofs.Timing.{played-own, played-other, tick_timely, store_timely, call_timely, tape_timely, send_timely}
use Rattle.wake_core.proofs.HeldSends.{send_past}
use Rattle.wake_core.proofs.Writers.{unwritten_out}

pub acquire_sound : (p c : ℕ) (w v : Plain) → Acquires p c w v → Sound w → Sound v
acquire_sound p c w v e s = subst Sound (sym e.effect) record {
  consistent = acquire_consistent p c w e.known e.idle e.free s.consistent;
  wakes = acquire_wakes p c e.idle s.wakes;
  timely = s.timely;
  obedient = phase_obedient p c Fresh refl s.obedient;
}

pub spend_sound : (p c seen : ℕ) (w v : Plain) → Spends p c seen w v → Sound w → Sound v
spend_sound p c seen w v e s = subst Sound (sym e.effect) record {
  consistent = spend_consistent p c w e.held s.consistent;
  wakes = spend_wakes p c e.held s.wakes;
  timely = s.timely;
  obedient = phase_obedient p c (phase_after_spend (w.states c) (w.spent c)) (spend_calm (w.states c) (w.spent c)) s.obedient;
}
  where
    spend_calm : (state : State) (was_spent : Bool) → is_asking (phase_after_spend state was_spent) ≡ false
    spend_calm Ready b = refl
    spend_calm DataWait true = refl
    spend_calm DataWait false = refl
    spend_calm (Sleep until) b = refl
    spend_calm Finished b = refl

-- A croutine that is due sleeps until a time that the clock is past.
due_sleeps : (state : State) (clock : ℕ) → IsDue state clock → (u : ℕ) × (state ≡ Sleep u) × (u < clock)
due_sleeps Ready clock due = absurd due
due_sleeps DataWait clock due = absurd due
due_sleeps (Sleep until) clock due = (until, refl, due)
due_sleeps Finished clock due = absurd due

pub ready_sound : (p c : ℕ) (w v : Plain) → Readies p c w v → Sound w → Sound v
ready_sound p c w v e s = subst Sound (sym e.effect) record {
  consistent = ready_consistent p c w held unfinished s.consistent;
  wakes = ready_wakes p c held s.wakes;
  timely = store_timely c Ready past s.timely;
  obedient = phase_obedient p c Known refl s.obedient;
}
  where
    held : (w.hands p ≡ hand c Woken) ⊎ (w.hands p ≡ hand c Fresh)
    held = elim e.held [ inl h ↦ inl h | inr h ↦ inr h.0 ]

    unfinished : w.states c ≢ Finished
    unfinished f = elim e.held [
      | inl h ↦ waits_finished (sym (s.consistent.held.phased p c Woken DataWait h refl) ∙ f)
      | inr h ↦ let d = due_sleeps (w.states c) w.clock h.1 in sleeps_finished d.0 (sym d.1 ∙ f)
    ]
      where
        waits_finished : DataWait ≡ Finished → ⊥
        waits_finished e = cc

        sleeps_finished : (u : ℕ) → Sleep u ≡ Finished → ⊥
        sleeps_finished u e = cc

    past : (u : ℕ) → Ready ≡ Ready → taped_of w.routes w.tape c < made_of w.routes w.calls c → held_until (last_of w.routes w.calls c) ≡ Some u → u < w.clock
    past u is some until = elim e.held [
      | inl h ↦ absurd (s.consistent.held.resting c some (not_running_of p c Woken h (λ e. cc) s.consistent.held) (s.consistent.held.phased p c Woken DataWait h refl))
      | inr h ↦
          let d = due_sleeps (w.states c) w.clock h.1 in
          let same : Some d.0 ≡ Some u = sym (s.consistent.held.sleeps c d.0 d.1) ∙ until in
          let one : d.0 ≡ u = cc in
          subst (λ n. n < w.clock) one d.2
    ]

pub check_sound : (p c : ℕ) (w v : Plain) → Checks p c w v → Sound w → Sound v
check_sound p c w v e s = subst Sound (sym e.effect) record {
  consistent = check_consistent p c w e.held e.ready s.consistent;
  wakes = hand_wakes p c Known (hand c (phase_after_check w c)) e.held (λ e. cc) (λ e. cc) (λ e. cc) s.wakes;
  timely = s.timely;
  obedient = check_obedient p c s.obedient;
}

pub stop_sound : (w v : Plain) → Stops w v → Sound w → Sound v
stop_sound w v e s = subst Sound (sym e.effect) record {
  consistent = stop_consistent w s.consistent;
  wakes = s.wakes;
  timely = s.timely;
  obedient = stop_obedient e.given e.there e.played s.obedient;
}

pub ask_sound : (p c : ℕ) (w v : Plain) → Asks p c w v → Sound w → Sound v
ask_sound p c w v e s = subst Sound (sym e.effect) record {
  consistent = ask_consistent p c w e.held e.none_held s.consistent;
  wakes = ask_wakes p c e.held s.wakes;
  timely = store_timely c DataWait (λ u is. absurd (waits_ready is)) s.timely;
  obedient = ask_obedient p c e.held s.obedient;
}
  where
    waits_ready : DataWait ≡ Ready → ⊥
    waits_ready e = cc

fetched_sound : FetchesFind → (p c : ℕ) (w : Plain) → w.hands p ≡ hand c Asked → (o : Option Call) → next_call w c ≡ o → Sound w → Sound (after_fetch p c o w)
fetched_sound law p c w held None none s = record {
  consistent = none_consistent p c w held s.consistent;
  wakes = none_wakes p c held (none_made law w c none) s.wakes;
  timely = s.timely;
  obedient = phase_obedient p c Empty refl s.obedient;
}
fetched_sound law p c w held (Some call) some s =
    let m = call_made w c call some in
    record {
      consistent = call_consistent p c w call held m law s.consistent;
      wakes = call_wakes (found_by (after_call p c call w)) p c held (λ k other. ap (λ n. option_and_then (λ (x : Route). fetch n (length (fused (w.arrivals k) (length x.readers))) x.queue x.overflow) (slice_get w.routes k)) (set_at_other c (call.position + 1) w.cursors k other)) s.wakes;
      timely = call_timely c call (λ r. waits_ready (sym (s.consistent.held.phased p c Asked DataWait held refl) ∙ r)) s.consistent.delivered.numbered (sent_few p c w call held m s.consistent) s.timely;
      obedient = call_obedient p c call held s.consistent.held.one s.obedient;
    }
  where
    waits_ready : DataWait ≡ Ready → ⊥
    waits_ready e = cc

pub fetched_in : (p c : ℕ) (w : Plain) → w.hands p ≡ hand c Asked → HeldIn w → HeldIn (after_fetch p c (next_call w c) w)
fetched_in p c w held h = by (next_call w c) refl
  where
    by : (o : Option Call) → next_call w c ≡ o → HeldIn (after_fetch p c o w)
    by None e = none_in p c w held h
    by (Some call) e = call_in p c w call held (call_made w c call e) h

pub fetched_consistent : FetchesFind → (p c : ℕ) (w : Plain) → w.hands p ≡ hand c Asked → Consistent w → Consistent (after_fetch p c (next_call w c) w)
fetched_consistent law p c w held s = by (next_call w c) refl
  where
    by : (o : Option Call) → next_call w c ≡ o → Consistent (after_fetch p c o w)
    by None e = none_consistent p c w held s
    by (Some call) e = call_consistent p c w call held (call_made w c call e) law s

pub fetch_sound : FetchesFind → (p c : ℕ) (w v : Plain) → Fetches p c w v → Sound w → Sound v
fetch_sound law p c w v e s = subst Sound (sym e.effect) (fetched_sound law p c w e.held (next_call w c) refl s)

pub tape_sound : (t : Token) (w v : Plain) → Tapes t w v → Sound w → Sound v
tape_sound t w v e s = subst Sound (sym e.effect) record {
  consistent = tape_consistent t w e.owes e.next s.consistent;
  wakes = s.wakes;
  timely = tape_timely t e.next.unwritten e.now (played_taped w t e.next.unwritten) (λ c x at. unwritten_out w.routes t.channel e.next.unwritten c x at) s.timely;
  obedient = tape_obedient t e.next.next (calls_stand w s.consistent) s.consistent.held.known few s.obedient;
}
  where
    few : (r : Stop) → w.stop ≡ Some r → w.raised ≡ false → length (played_of w.routes (w.tape ++ t ∷ [])) ≤ r.after
    few r given down =
        let less = s.obedient.few r given down in
        let more = ap length (played-own w.routes w.tape t e.next.unwritten) ∙ length-append (played_of w.routes w.tape) (t ∷ []) in
        fits less (λ all. true≢false (sym (e.raised r given all) ∙ down)) more
      where
        fits : {few after more : ℕ} → few ≤ after → few ≢ after → more ≡ few + 1 → more ≤ after
        fits a b c = omega (arith, b)

pub send_sound : (p c : ℕ) (next : Phase) (t : Token) (w v : Plain) → Sends p c next t w v → Sound w → Sound v
send_sound p c next t w v e s = subst Sound (sym e.effect) record {
  consistent = send_consistent p c next t w e.held e.unsent e.owes s.consistent;
  wakes = elim e.held [
    | inl r ↦
        let same : w.hands ≡ set_at p (hand c next) w.hands = rw r.2 (sym (ap (λ x. set_at p x w.hands) (sym r.0) ∙ set_at_itself p w.hands)) in
        subst (λ hands. Wakes hands w.states w.spent (found_by w) w.news w.clearing) same s.wakes
    | inr k ↦ let f = from_held p c next w k in hand_wakes p c f.old (hand c next) f.in_hand f.unwatched.0 f.unwatched.1 f.calm s.wakes
  ];
  timely = send_timely c t written fewer (send_past w c t e.unsent s.consistent p next e.held s.timely) s.timely;
  obedient = tape_obedient t (u.number ∙ ap (λ n. length (on_channel n w.tape) + 1) (sym u.its)) (calls_stand w s.consistent) (λ q k f h. held_known q k f h) few (phase_obedient p c next (calm next (next_hands p c next t w e.held e.unsent)) s.obedient);
}
  where
    written : writes_from 0 w.routes t.channel ≡ Some c
    written = send_written w c t e.unsent s.consistent.wired

    u : IsUnsent w c t
    u = unsent_is w c t e.unsent

    calm : (f : Phase) → is_handing f ≡ true → is_asking f ≡ false
    calm Running h = refl
    calm Sending h = refl
    calm LastSending h = refl
    calm Fresh h = cc
    calm Woken h = cc
    calm Known h = cc
    calm Checked h = cc
    calm Stopping h = cc
    calm Asked h = cc
    calm Empty h = cc
    calm Done h = cc

    held_known : (q k : ℕ) (f : Phase) → set_at p (hand c next) w.hands q ≡ hand k f → k < length w.routes
    held_known = (send_consistent p c next t w e.held e.unsent e.owes s.consistent).held.known

    few : (r : Stop) → w.stop ≡ Some r → w.raised ≡ false → length (played_of w.routes (w.tape ++ t ∷ [])) ≤ r.after
    few r given down = let l = s.obedient.few r given down in subst (λ (xs : List Token). length xs ≤ r.after) (sym (played-other w.routes w.tape t c written)) l

    fewer : (k : ℕ) → taped_of w.routes w.tape k ≤ taped_of w.routes (w.tape ++ t ∷ []) k
    fewer k = by (send_taped w c t e.unsent s.consistent.wired) (place k c)
      where
        by : OneTaped c (taped_of w.routes w.tape) (taped_of w.routes (w.tape ++ t ∷ [])) → (k ≡ c) ⊎ (k ≢ c) → taped_of w.routes w.tape k ≤ taped_of w.routes (w.tape ++ t ∷ []) k
        by o (inl e) = subst (λ n. taped_of w.routes w.tape n ≤ taped_of w.routes (w.tape ++ t ∷ []) n) (sym e) (one _ _ o.one)
          where
            one : (a b : ℕ) → a ≡ b + 1 → b ≤ a
            one a b e = omega arith
        by o (inr n) = same (o.other k n)
          where
            same : {a b : ℕ} → a ≡ b → b ≤ a
            same e = omega arith

pub fill_sound : (p v j : ℕ) (w u : Plain) → Fills p v j w u → Sound w → Sound u
fill_sound p v j w u e s = subst Sound (sym e.effect) record {
  consistent = fill_consistent p v j e.later w e.first s.consistent;
  wakes = by (j == 0) refl;
  timely = s.timely;
  obedient = s.obedient;
}
  where
    elsewhere : (k : ℕ) → k ≢ v → found_by (after_fill p v j e.later w) k ≡ found_by w k
    elsewhere k other = ap (λ (l : List Arrival). option_and_then (λ (x : Route). fetch (w.cursors k) (length (fused l (length x.readers))) x.queue x.overflow) (slice_get w.routes k)) (set_at_other v (w.arrivals v ++ (j, w.tokens p) ∷ []) w.arrivals k other)

    nowhere : j ≢ 0 → (k : ℕ) → found_by (after_fill p v j e.later w) k ≡ found_by w k
    nowhere n k = elim (place k v) [
      | inr other ↦ elsewhere k other
      | inl is ↦ by_route is (slice_get w.routes k)
    ]
      where
        by_route : k ≡ v → (o : Option Route) → option_and_then (λ (x : Route). fetch (w.cursors k) (length (fused (set_at v (w.arrivals v ++ (j, w.tokens p) ∷ []) w.arrivals k) (length x.readers))) x.queue x.overflow) o
            ≡ option_and_then (λ (x : Route). fetch (w.cursors k) (length (fused (w.arrivals k) (length x.readers))) x.queue x.overflow) o
        by_route is None = refl
        by_route is (Some x) = ap (λ l. fetch (w.cursors k) (length l) x.queue x.overflow)
            (ap (λ l. fused l (length x.readers)) (set_at_there v (w.arrivals v ++ (j, w.tokens p) ∷ []) w.arrivals k is) ∙ fused_other_role (length x.readers) (w.arrivals v) (j, w.tokens p) n ∙ ap (λ n. fused (w.arrivals n) (length x.readers)) (sym is))

    not_zero : (j == 0) ≡ false → j ≢ 0
    not_zero b = λ z. grind (arith, nat_tests, b, z)

    by : (b : Bool) → (j == 0) ≡ b → Wakes w.hands w.states w.spent (found_by (after_fill p v j e.later w)) (set_at p (if b then w.news p ++ v ∷ [] else w.news p) w.news) w.clearing
    by true b = fill_wakes (found_by (after_fill p v j e.later w)) p v elsewhere s.wakes
    by false b = quiet_fill_wakes (found_by (after_fill p v j e.later w)) p (nowhere (not_zero b)) s.wakes

pub look_sound : (p c : ℕ) (w v : Plain) → Looks p c w v → Sound w → Sound v
look_sound p c w v e s = subst Sound (sym e.effect) record {
  consistent = look_consistent p c e.later w e.first s.consistent;
  wakes = look_wakes p c e.later e.first s.wakes;
  timely = s.timely;
  obedient = s.obedient;
}

pub clear_sound : (p c : ℕ) (w v : Plain) → Clears p c w v → Sound w → Sound v
clear_sound p c w v e s = subst Sound (sym e.effect) record {
  consistent = clear_consistent p c e.before e.after w e.there s.consistent;
  wakes = clear_wakes p c e.before e.after e.there s.wakes;
  timely = s.timely;
  obedient = s.obedient;
}

-- An outcome that names READY holds nothing back, and none names DATA_WAIT.
named_ready : (last : Option Outcome) → option_map state_after last ≡ Some Ready → held_until last ≡ None
named_ready None e = refl
named_ready (Some (Emit out)) e = refl
named_ready (Some (Hold until out)) e = cc
named_ready (Some (Last out)) e = refl

named_waiting : (last : Option Outcome) → option_map state_after last ≡ Some DataWait → ⊥
named_waiting None e = cc
named_waiting (Some (Emit out)) e = cc
named_waiting (Some (Hold until out)) e = cc
named_waiting (Some (Last out)) e = cc

pub yield_sound : (p c : ℕ) (state : State) (w v : Plain) → Yields p c state w v → Sound w → Sound v
yield_sound p c state w v e s = subst Sound (sym e.effect) record {
  consistent = yield_consistent p c state w e.owes.filled e.held s.consistent;
  wakes = elim e.held [
    | inl h ↦ rw h.1 (yield_empty_wakes p c h.0 (s.consistent.held.phased p c Empty DataWait h.0 refl) s.wakes)
    | inr r ↦ elim r [
      | inl h ↦ yield_wakes p c Running state h.0 (λ d. named_waiting (last_of w.routes w.calls c) (h.1 ∙ ap (λ x. Some x) d)) s.wakes
      | inr t ↦ elim t [
        | inl h ↦ yield_wakes p c Sending state h.0 (λ d. ready_waits (sym h.1 ∙ d)) s.wakes
        | inr h ↦ elim h.0 [
          | inl b ↦ yield_wakes p c Stopping state b (λ d. finished_waits (sym h.1 ∙ d)) s.wakes
          | inr b ↦ yield_wakes p c LastSending state b (λ d. finished_waits (sym h.1 ∙ d)) s.wakes
        ]
      ]
    ]
  ];
  timely = store_timely c state (λ u is some until. elim e.held [
    | inl h ↦ absurd (ready_waits (sym is ∙ h.1))
    | inr r ↦ elim r [
      | inl h ↦ absurd (none_some u (sym (named_ready (last_of w.routes w.calls c) (h.1 ∙ ap (λ x. Some x) is)) ∙ until))
      | inr t ↦ elim t [ inl h ↦ absurd (none_unsent w c h.2 some) | inr h ↦ absurd (none_unsent w c h.2 some) ]
    ]
  ]) s.timely;
  obedient = phase_obedient p c Done refl s.obedient;
}
  where
    ready_waits : Ready ≡ DataWait → ⊥
    ready_waits e = cc

    finished_waits : Finished ≡ DataWait → ⊥
    finished_waits e = cc

    none_some : (u : ℕ) → None ≡ Some u → ⊥
    none_some u e = cc

pub release_sound : (p c : ℕ) (w v : Plain) → Releases p c w v → Sound w → Sound v
release_sound p c w v e s = subst Sound (sym e.effect) record {
  consistent = release_consistent p c w e.held s.consistent;
  wakes = elim e.held [
    | inl h ↦ hand_wakes p c Done None h (λ e. cc) (λ e. cc) (λ e. cc) s.wakes
    | inr h ↦ hand_wakes p c Known None h (λ e. cc) (λ e. cc) (λ e. cc) s.wakes
  ];
  timely = s.timely;
  obedient = free_obedient p s.obedient;
}

-- Nothing but flags, clock and closing changed.
pub same_consistent : (w v : Plain) → v ≡ record w { spent = v.spent; clock = v.clock; closing = v.closing } → Consistent w → Consistent v
same_consistent w v same s = subst Consistent (sym same) record {
  wired = s.wired;
  held = s.held;
  called = s.called;
  delivered = s.delivered;
  causal = s.causal;
  room = s.room;
}

pub tick_sound : (time : ℕ) (w v : Plain) → Ticks time w v → Sound w → Sound v
tick_sound time w v e s = subst Sound (sym e.effect) record {
  consistent = same_consistent w record w { clock = time } refl s.consistent;
  wakes = s.wakes;
  timely = tick_timely time e.later s.timely;
  obedient = s.obedient;
}

pub close_sound : (w v : Plain) → Closes w v → Sound w → Sound v
close_sound w v e s = subst Sound (sym e.effect) record {
  consistent = same_consistent w record w { closing = true } refl s.consistent;
  wakes = s.wakes;
  timely = s.timely;
  obedient = s.obedient;
}
