-- Events that are not those of a run: each leads, from a world that events reach, to one in which a croutine is lost or has two
-- holders, or to one that a part of what holds of every world refuses. So those parts say something.
use Rattle.std.proofs.Common.{ℕ, ◌+◌, ◌≡◌, ◌≢◌, ◌<◌, true≢false, refl, sym, ◌∙◌, ap, arith, Option, Some, None, true, false, List, [], ◌∷◌, ◌++◌, length, take, slice_get, length-append}
use Rattle.std.proofs.lemmas.List.{length-take}
use Rattle.cy_msg.specs.declared.token.Token.{Token}
use Rattle.cy_msg.specs.Tokens.{on_channel}
use Rattle.cy_fuse.specs.Fusion.{fused}
use Rattle.cy_fuse.specs.Laws.{FetchesFind}
use Rattle.cy_comp.specs.declared.call.Call.{Call}
use Rattle.cy_comp.specs.declared.call.Out.{Out}
use Rattle.cy_comp.specs.declared.call.Outcome.TheVariants.{Emit}
use Rattle.cy_comp.specs.Calls.{is_last, held_until, cursor_after}
use Rattle.wake_core.specs.Run.{Route, set_at, writes_from}
use Rattle.wake_core.specs.Plain.{Plain, Stop, Hand, hand, Ready, DataWait, Finished, Phase, Fresh, Asked, Running, Done, stops, made_of, taped_of, played_count, opening_world, last_of, reads, of_role, unsent_of}
use Rattle.wake_core.specs.Events.{after_acquire, after_spend, after_check, after_ask, after_none, after_call, after_tape, after_fill, after_look, after_clear, after_yield, after_release}
use Rattle.wake_core.specs.Sound.{HeldIn, Consistent, Sound, NotRunning, HasLate, hands_on}
use Rattle.wake_core.specs.LawfulRun.{Lost}
use Rattle.wake_core.proofs.Places.{set_at_is, set_at_there, set_at_other}
use Rattle.wake_core.proofs.WorkedRuns.{message, alone}
use Rattle.wake_core.proofs.Arrived.{role_own}
use Rattle.wake_core.proofs.Consisting.{none_unsent}
use Rattle.wake_core.proofs.Delivering.{hands_off}
use Rattle.wake_core.proofs.Fetching.{cursor_push}
use Rattle.wake_core.proofs.Runs.{none_lost}

-- A component of any class waits, after it found nothing; then a message is on the tape, and the player has to fill its reader.
abbrev waiting : Route → Plain
waiting r =
    let w0 = opening_world (alone 1 r ∷ []) (2 ∷ 0 ∷ []) None in
    let parked = after_release 1 (after_yield 1 0 DataWait (after_none 1 0 (after_ask 1 0 (after_check 1 0 (after_spend 1 0 (after_acquire 1 0 w0)))))) in
    after_tape 0 (message 1 1) record parked { clock = 1 }

-- A fill that joins no news (the notifier cleared before it, and doesn't look again) loses the component, ..
fill_tells_nobody : FetchesFind → (r : Route) → Lost record (after_fill 0 0 0 [] (waiting r)) { news = λ p. [] } 0
unfolding set_at fused
fill_tells_nobody law r = record { free = λ p f e. grind (arith, set_at_is, e); waits = refl; spent = refl; unfetched = law.some 0 1 1 r.overflow (omega arith) (omega arith); untold = λ p. (refl, refl) }

-- .. and so does a Look that sees DATA_WAIT and has nothing to clear, ..
look_clears_nothing : FetchesFind → (r : Route) → Lost record (after_look 0 0 [] (after_fill 0 0 0 [] (waiting r))) { news = λ p. []; clearing = λ p. [] } 0
unfolding set_at fused
look_clears_nothing law r = record { free = λ p f e. grind (arith, set_at_is, e); waits = refl; spent = refl; unfetched = law.some 0 1 1 r.overflow (omega arith) (omega arith); untold = λ p. (refl, refl) }

-- .. and a holder that spends a clear flag in DATA_WAIT and gives the component back without making it READY.
spend_without_ready : FetchesFind → (r : Route) →
    let cleared = after_clear 0 0 [] (after_look 0 0 [] (after_fill 0 0 0 [] (waiting r))) in
    Lost record (after_release 1 (after_spend 1 0 (after_acquire 1 0 cleared))) { news = λ p. []; clearing = λ p. [] } 0
unfolding set_at fused
spend_without_ready law r = record { free = λ p f e. grind (arith, set_at_is, e); waits = refl; spent = refl; unfetched = law.some 0 1 1 r.overflow (omega arith) (omega arith); untold = λ p. (refl, refl) }

-- One that was lost was in no world of a run.
refused : (w : Plain) → Lost w 0 → Sound w → ⊥
refused w l s = none_lost w s 0 l

-- DATA_WAIT that is stored only after the fetch leaves a state in phase Asked that is refused, ..
parks_after_the_fetch : (p c : ℕ) (w : Plain) → w.states c ≡ Ready → HeldIn (record w { hands = set_at p (hand c Asked) w.hands }) → ⊥
parks_after_the_fetch p c w ready h = ready_waits (sym ready ∙ h.phased p c Asked DataWait (set_at_there p (hand c Asked) w.hands p refl) refl)
  where
    ready_waits : Ready ≡ DataWait → ⊥
    ready_waits e = cc

-- .. an Acquire of one that is held leaves two holders, ..
acquires_by_load_and_store : (p q c : ℕ) (f : Phase) (w : Plain) → q ≢ p → w.hands q ≡ hand c f → HeldIn (after_acquire p c w) → ⊥
acquires_by_load_and_store p q c f w other held h =
    other (h.one c q p f Fresh (set_at_other p (hand c Fresh) w.hands q other ∙ held) (set_at_there p (hand c Fresh) w.hands p refl))

-- .. a cursor that stays isn't where the calls leave off, ..
cursor_stays : (p c : ℕ) (call : Call) (x : Route) (w : Plain) → slice_get w.routes c ≡ Some x → w.cursors c ≡ call.position
    → Consistent (record (after_call p c call w) { cursors = w.cursors }) → ⊥
cursor_stays p c call x w at stays s = one_more call.position (sym stays ∙ s.called.cursor c x at ∙ ap cursor_after (set_at_there c (w.calls c ++ call ∷ []) w.calls c refl) ∙ cursor_push (w.calls c) call)
  where
    one_more : (n : ℕ) → n ≡ n + 1 → ⊥
    one_more n e = omega arith

-- .. FINISHED is no state after an Emit of one that isn't stopped, ..
finishes_after_an_emit : (c : ℕ) (out : Option Out) (w : Plain) → last_of w.routes w.calls c ≡ Some (Emit out) → stops w.stop w.raised c ≡ false → w.states c ≡ Finished → HeldIn w → ⊥
finishes_after_an_emit c out w last going is h = not_last (sym (ap is_last last) ∙ h.finished c is going)
  where
    not_last : false ≡ true → ⊥
    not_last e = cc

-- .. one that sent an output yields only when its readers are filled, ..
yields_before_all_fills : (p c d : ℕ) (w : Plain) → w.fills p ≢ [] → writes_from 0 w.routes (w.tokens p).channel ≡ Some d → Consistent (record w { hands = set_at p (hand c Done) w.hands }) → ⊥
yields_before_all_fills p c d w some written s =
    true≢false (sym (s.delivered.holder p d some written) ∙ ap (λ (h : Option Hand). hands_on h d) (set_at_there p (hand c Done) w.hands p refl) ∙ hands_off c d Done refl)

-- .. one that is stopped ends only when the output that it holds back was sent, ..
ends_with_its_output_unsent : (c : ℕ) (w : Plain) → taped_of w.routes w.tape c < made_of w.routes w.calls c → NotRunning w.hands c → HeldIn (record w { states = set_at c Finished w.states }) → ⊥
ends_with_its_output_unsent c w less still h = h.unended c less still (set_at_there c Finished w.states c refl)

-- .. no message is played past the place of a stop that isn't raised, ..
raises_late : (s : Stop) (w : Plain) → w.stop ≡ Some s → w.raised ≡ false → s.after < played_count w → Sound w → ⊥
raises_late s w given down past h = let few = h.obedient.few s given down in omega (arith, past, few)

-- .. and one that is stopped and goes on has a second call with a late message, which is refused, ..
goes_on_when_stopped : (s : Stop) (w : Plain) (m n : ℕ) (x y : Call) → w.stop ≡ Some s → w.raised ≡ true → s.component < length w.routes
    → slice_get (w.calls s.component) m ≡ Some x → slice_get (w.calls s.component) n ≡ Some y → m ≢ n → HasLate w.routes s.after w.tape x → HasLate w.routes s.after w.tape y → Sound w → ⊥
goes_on_when_stopped s w m n x y given up known at_m at_n two late_x late_y h = two (h.obedient.one s given up known m n x y at_m at_n late_x late_y)

-- .. and no reader is filled with what isn't on the tape.
fills_before_the_tape : (p v j : ℕ) (later : List (ℕ × ℕ)) (channel : ℕ) (w : Plain) → reads w.routes v j ≡ Some channel
    → of_role j (w.arrivals v) ≡ on_channel channel w.tape → Consistent (after_fill p v j later w) → ⊥
fills_before_the_tape p v j later channel w is all s =
    let own : of_role j ((after_fill p v j later w).arrivals v) ≡ on_channel channel w.tape ++ w.tokens p ∷ [] = role_own w.arrivals v j (w.tokens p) ∙ ap (λ l. l ++ w.tokens p ∷ []) all in
    too_long (on_channel channel w.tape) (of_role j ((after_fill p v j later w).arrivals v)) (ap length own ∙ length-append (on_channel channel w.tape) (w.tokens p ∷ [])) (s.delivered.begins v j channel is)
  where
    too_long : (ys xs : List Token) → length xs ≡ length ys + 1 → xs ≡ take (length xs) ys → ⊥
    too_long ys xs l e = omega (arith, l, ap length e, length-take (length xs) ys)

-- An output that is held back isn't sent in Running.
sends_a_held_output_at_once : (p c until : ℕ) (w : Plain) → w.hands p ≡ hand c Running → held_until (last_of w.routes w.calls c) ≡ Some until → unsent_of w c ≡ None → HeldIn w → ⊥
sends_a_held_output_at_once p c until w held is none h = none_unsent w c none (h.holds p c until held is)
