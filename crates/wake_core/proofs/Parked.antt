-- A croutine whose next turn would find nothing is parked at rest: that turn, in one call.
use Rattle.std.proofs.Common.{ℕ, ◌-◌, ◌≡◌, ◌<◌, ◌||◌, ◌&&◌, Bool, true, false, not, refl, sym, ◌∙◌, ap, subst, inl, inr, length, Option, Some, None, is_some, option_map, if◌then◌else◌, option_and_then, slice_get}
use Rattle.cy_fuse.specs.Fusion.{fused}
use Rattle.cy_comp.specs.declared.call.Call.{Call}
use Rattle.wake_core.specs.Run.{Route, set_at}
use Rattle.wake_core.specs.Plain.{Plain, Stop, Hand, hand, stops, State, Ready, DataWait, Sleep, Finished, Known, Checked, Stopping, Asked, Empty, Done, unsent_of, found_by}
use Rattle.wake_core.specs.Events.{Checks, Asks, Fetches, Yields, Releases, call_on, next_call, after_ask, after_fetch, after_none, after_yield, after_release, is_finished}
use Rattle.wake_core.specs.Laws as event
use Rattle.wake_core.specs.Laws.{Events}
use Rattle.wake_core.specs.Sound.{Sound}
use Rattle.wake_core.specs.Rest.{IsAtRest}
use Rattle.wake_core.specs.Turns.{Resumes, Rests, IsUnstopped, Parks, is_ready, is_due, is_woken, finds_nothing, parked_world}
use Rattle.wake_core.proofs.Places.{set_at_same, set_at_other, set_at_again, set_at_itself}
use Rattle.wake_core.proofs.Heeding.{same_then}
use Rattle.wake_core.proofs.Playing.{idle_by, shown_stored}
use Rattle.wake_core.proofs.Storing.{with_parts}
use Rattle.wake_core.proofs.Taken.{taken_world, taken_by}
use Rattle.wake_core.proofs.Ways.{one, linked}

-- A test has one answer.
pub true_false : true ≡ false → ⊥
true_false e = cc

-- What it says of a croutine that its next turn would find nothing.
nothing_ready : (s : State) (u f : Bool) → is_ready s && not u && not f ≡ true → s ≡ Ready
nothing_ready Ready u f e = refl
nothing_ready DataWait u f e = cc
nothing_ready (Sleep until) u f e = cc
nothing_ready Finished u f e = cc

nothing_unsent : {X : Type 0} (r f : Bool) (o : Option X) → r && not (is_some o) && not f ≡ true → o ≡ None
nothing_unsent r f None e = refl
nothing_unsent true f (Some x) e = cc
nothing_unsent false f (Some x) e = cc

nothing_found : {X : Type 0} (r u : Bool) (o : Option X) → r && not u && not (is_some o) ≡ true → o ≡ None
nothing_found r u None e = refl
nothing_found true true (Some x) e = cc
nothing_found true false (Some x) e = cc
nothing_found false u (Some x) e = cc

module _ (c : ℕ) (w : Plain) (rest : IsAtRest w) (known : c < length w.routes) (calm : IsUnstopped c w) (s : Sound w) (idle : finds_nothing c w ≡ true) where
  ready : w.states c ≡ Ready
  ready = nothing_ready (w.states c) (is_some (unsent_of w c)) (is_some (found_by w c)) idle

  none_held : unsent_of w c ≡ None
  none_held = nothing_unsent (is_ready (w.states c)) (is_some (found_by w c)) (unsent_of w c) idle

  none_found : found_by w c ≡ None
  none_found = nothing_found (is_ready (w.states c)) (is_some (unsent_of w c)) (found_by w c) idle

  -- It is taken, with its flag spent.
  abbrev t : Plain
  t = taken_world c true w

  taken_events : Events w t
  taken_events = subst (λ b. Events w (taken_world c b w)) (ap (λ (x : State). w.spent c || not (is_due x w.clock)) ready ∙ or_true (w.spent c))
      (taken_by c w rest known s (ap (λ (x : State). is_ready x || is_woken x (w.spent c) || is_due x w.clock) ready)).0.takes.events
    where
      or_true : (b : Bool) → (b || true) ≡ true
      or_true true = refl
      or_true false = refl

  -- It isn't stopped.
  abbrev checked : Plain
  checked = record t { hands = set_at 0 (hand c Checked) t.hands }

  checks : Checks 0 c t checked
  checks = record {
    held = set_at_same 0 (hand c Known) w.hands;
    ready = set_at_same c Ready w.states;
    effect = ap (λ b. record t { hands = set_at 0 (hand c (if b then Stopping else Checked)) t.hands }) (sym (calm ready));
  }

  -- It asks.
  abbrev asked : Plain
  asked = after_ask 0 c checked

  asks : Asks 0 c checked asked
  asks = record { held = set_at_same 0 (hand c Checked) t.hands; none_held = none_held; effect = refl }

  -- Its fetch finds nothing.
  none_next : next_call asked c ≡ None
  none_next =
      ap (λ (o : Option ℕ). option_and_then (λ (x : Route). option_and_then (λ (n : ℕ). option_map (call_on x asked c n) (slice_get (fused (w.arrivals c) (length x.readers)) (n - 1))) o) (slice_get w.routes c)) none_found
      ∙ never (slice_get w.routes c)
    where
      never : (o : Option Route) → option_and_then {U = Call} (λ (x : Route). None) o ≡ None
      never None = refl
      never (Some x) = refl

  abbrev missed : Plain
  missed = after_none 0 c asked

  fetches : Fetches 0 c asked missed
  fetches = record { held = set_at_same 0 (hand c Asked) checked.hands; effect = ap (λ (o : Option Call). after_fetch 0 c o asked) (sym none_next) }

  -- It yields, and is given back.
  abbrev yielded : Plain
  yielded = after_yield 0 c DataWait missed

  yields : Yields 0 c DataWait missed yielded
  yields = record {
    owes = record { filled = (rest 0).owes.filled; looked = (rest 0).owes.looked; cleared = (rest 0).owes.cleared };
    held = inl (set_at_same 0 (hand c Empty) asked.hands, refl);
    effect = refl;
  }

  releases : Releases 0 c yielded (after_release 0 yielded)
  releases = record { held = inl (set_at_same 0 (hand c Done) missed.hands); effect = refl }

  parked_is : after_release 0 yielded ≡ parked_world c w
  parked_is = with_parts w
      (set_at_again c DataWait DataWait (set_at c Ready w.states) ∙ set_at_again c Ready DataWait w.states)
      refl
      (set_at_again 0 (hand c Done) None missed.hands ∙ set_at_again 0 (hand c Empty) None asked.hands
      ∙ set_at_again 0 (hand c Asked) None checked.hands ∙ set_at_again 0 (hand c Checked) None t.hands ∙ set_at_again 0 (hand c Known) None w.hands
      ∙ ap (λ (h : Option Hand). set_at 0 h w.hands) (sym (rest 0).hand) ∙ set_at_itself 0 w.hands)

  pub parked_events : Events w (parked_world c w)
  parked_events = subst (Events w) parked_is (linked taken_events (event.more (event.check checks) (event.more (event.ask asks)
      (event.more (event.fetch fetches) (event.more (event.yield_as yields) (one (event.release releases)))))))

-- One that was resumed and is READY isn't stopped, since it would have ended.
pub resumed_unstopped : (c : ℕ) (w v : Plain) → Resumes c w v → IsUnstopped c v
resumed_unstopped c w v r ready = by (stops w.stop w.raised c) refl
  where
    ready_ended : Ready ≡ Finished → ⊥
    ready_ended e = cc

    same : stops v.stop v.raised c ≡ stops w.stop w.raised c
    same = ap (λ (s : Option Stop). stops s v.raised c) r.stays.stop ∙ ap (λ b. stops w.stop b c) r.stays.raised

    by : (b : Bool) → stops w.stop w.raised c ≡ b → stops v.stop v.raised c ≡ false
    by true is = absurd (ready_ended (sym ready ∙ r.ended is))
    by false is = same ∙ is

-- A croutine that was resumed may be parked: one that only waited isn't READY, and stays.
pub resumes_parked : (c : ℕ) (w m v : Plain) → Resumes c w m → Parks c m v → Resumes c w v
resumes_parked c w m v r p = by (finds_nothing c m) refl
  where
    ready_ended : Ready ≡ Finished → ⊥
    ready_ended e = cc

    resting_idle : (s : State) → is_ready s ≡ false → Rests c s w m → finds_nothing c m ≡ false
    resting_idle s other t = ap (λ b. b && not (is_some (unsent_of m c)) && not (is_some (found_by m c))) (ap is_ready (ap (λ (x : Plain). x.states c) t.same ∙ set_at_same c s w.states) ∙ other)

    by : (b : Bool) → finds_nothing c m ≡ b → Resumes c w v
    by false e = subst (Resumes c w) (sym (p.stays e)) r
    by true e =
        let ready = nothing_ready (m.states c) (is_some (unsent_of m c)) (is_some (found_by m c)) e in
        let parked : Resumes c w (parked_world c m) = record {
          events = subst (Events w) (p.parks e) (linked r.events p.events);
          rest = λ q. idle_by q m (parked_world c m) refl refl refl refl (r.rest q);
          stays = record { routes = r.stays.routes; counts = r.stays.counts; stop = r.stays.stop; closing = r.stays.closing; raised = r.stays.raised; clock = r.stays.clock; played = r.stays.played };
          turn = elim r.turn [
            | inl t ↦ inl record { step = λ stop named. let y = t.step stop named in record { can = y.can; run = shown_stored c DataWait m (sym (ap is_finished ready)) ∙ y.run }; left = t.left }
            | inr t ↦ absurd (true_false (sym e ∙ elim t [ inl u ↦ resting_idle Finished refl u.rests | inr u ↦ resting_idle DataWait refl u ]))
          ];
          ended = λ is. absurd (ready_ended (sym ready ∙ r.ended is));
          hears = r.hears;
          keeps = λ k apart. same_then k w m (parked_world c m) (r.keeps k apart) record {
            arrivals = refl;
            states = set_at_other c DataWait m.states k apart;
            spent = set_at_other c true m.spent k apart;
            unsent = refl;
          };
        } in
        subst (Resumes c w) (sym (p.parks e)) parked

-- What it comes to, where it is parked, and where it isn't.
module _ (c : ℕ) (w v : Plain) where
  pub parks_it : finds_nothing c w ≡ true → Events w (parked_world c w) → v ≡ parked_world c w → Parks c w v
  parks_it idle events is = record { events = subst (Events w) (sym is) events; parks = λ e. is; stays = λ e. absurd (true_false (sym idle ∙ e)) }

  pub stays_so : finds_nothing c w ≡ false → v ≡ w → Parks c w v
  stays_so busy is = record { events = subst (Events w) (sym is) event.none; parks = λ e. absurd (true_false (sym e ∙ busy)); stays = λ e. is }
