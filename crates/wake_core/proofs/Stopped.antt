-- A croutine that is stopped ends, once the output that it holds back is sent.
use Rattle.std.proofs.Common.{ℕ, ◌≡◌, Bool, true, false, true≢false, refl, sym, ◌∙◌, ap, subst, inl, inr, Option, Some, None, is_some, slice_get}
use mathlib.Core.Path.{fun_ext}
use Rattle.cy_msg.specs.declared.token.Token.{Token}
use Rattle.cy_msg.specs.declared.token.Tuple.{Tuple}
use Rattle.cy_msg.proofs.Lists.{place, there}
use Rattle.cy_comp.specs.declared.call.Out.{Out}
use Rattle.wake_core.specs.Run.{Route, Run, set_at, put, played_of}
use Rattle.wake_core.specs.Serial.{Raised, resume, send, end_of}
use Rattle.wake_core.specs.Plain.{Plain, State, Ready, Finished, Stopping, LastSending, stops, unsent_of}
use Rattle.wake_core.specs.Events.{Sends, Yields, Releases, is_finished, after_send, after_yield}
use Rattle.wake_core.specs.Laws as event
use Rattle.wake_core.specs.Sound.{Sound}
use Rattle.wake_core.specs.Rest.{run_shown}
use Rattle.wake_core.specs.WorldCalls.{in_hand, phase_sent, IsStepped}
use Rattle.wake_core.specs.Turns.{IsInHand, OutputDelivered, MaySendOut, MayGiveBack, GivesBack, IsNamed, IsStep, Resumes, left_of}
use Rattle.wake_core.proofs.Places.{set_at_same, set_at_there, set_at_other}
use Rattle.wake_core.proofs.Taping.{unsent_is}
use Rattle.wake_core.proofs.Totals.{output_room}
use Rattle.wake_core.proofs.Putting.{unsent_put}
use Rattle.wake_core.proofs.Handing.{in_hand_is}
use Rattle.wake_core.proofs.Parking.{held_can, roused_can}
use Rattle.wake_core.proofs.Heeding.{sleeper_holds, same_keeps}
use Rattle.wake_core.proofs.Resuming.{resume_at, resume_held, resume_free, delivered_run, ends_same, ends_rest, stays_by, delivered_keeps, delivered_hears, same_hears, ends_keep, tape_less}
use Rattle.wake_core.proofs.Acting.{other_stepped}
use Rattle.wake_core.proofs.Ways.{one, linked}

-- What has ended is that component besides.
ends_shown : (c : ℕ) (w : Plain) → run_shown (record w { states = set_at c Finished w.states }) ≡ end_of c (run_shown w)
ends_shown c w = ap (λ (f : ℕ → Bool). record (run_shown w) { ended = f }) (fun_ext by)
  where
    by : (k : ℕ) → is_finished (set_at c Finished w.states k) ≡ set_at c true (λ n. is_finished (w.states n)) k
    by k = elim (place k c) [
      | inl e ↦ ap is_finished (set_at_there c Finished w.states k e) ∙ sym (set_at_there c true (λ n. is_finished (w.states n)) k e)
      | inr apart ↦ ap is_finished (set_at_other c Finished w.states k apart) ∙ sym (set_at_other c true (λ n. is_finished (w.states n)) k apart)
    ]

module _ (c : ℕ) (w : Plain) (h : IsInHand c Stopping w) (s : Sound w) where
  pub ready : w.states c ≡ Ready
  ready = s.consistent.held.phased 0 c Stopping Ready h.held refl

  stopped : stops w.stop w.raised c ≡ true
  stopped = s.consistent.held.stopping 0 c Stopping h.held refl

  it : in_hand 0 w ≡ c
  it = in_hand_is c Stopping w h.held

  its : (x : Route) × (slice_get w.routes c ≡ Some x)
  its = there w.routes c (s.consistent.held.known 0 c Stopping h.held)

  -- It holds nothing back, and ends without a call.
  module _ (none : unsent_of w c ≡ None) where
    pub quiet_may : MayGiveBack Finished w
    quiet_may = subst (λ n. Yields 0 n Finished w (after_yield 0 n Finished w)) (sym it) record { owes = h.owes; held = inr (inr (inr (inl h.held, refl, none))); effect = refl }

    pub quiet_stepped : (to_step : ℕ → Option Tuple) → IsStepped 0 w to_step
    quiet_stepped to_step = other_stepped c Stopping w to_step h.held (λ e. cc)

    module _ (v : Plain) (g : GivesBack Finished w v) where
      quiet_yields : Yields 0 c Finished w g.between
      quiet_yields = subst (λ n. Yields 0 n Finished w g.between) it g.yields

      quiet_releases : Releases 0 c g.between v
      quiet_releases = subst (λ n. Releases 0 n g.between v) it g.releases

      quiet_same : v ≡ record w { states = set_at c Finished w.states; hands = v.hands }
      quiet_same = ends_same c Finished w g.between v h.alone h.owes quiet_yields quiet_releases

      quiet_run : (r : Raised) → run_shown v ≡ resume w.routes (Some r) (run_shown w) c
      quiet_run r = ap run_shown quiet_same ∙ ends_shown c w
          ∙ sym (resume_at w.routes (Some r) (run_shown w) c its.0 its.1 ∙ resume_free w.routes (Some r) (run_shown w) c its.0 (ap is_some none))

      quiet_step : (stop : Option Raised) → IsNamed stop c w → IsStep c w v stop
      quiet_step None named = absurd (true≢false (sym stopped ∙ named))
      quiet_step (Some r) named = record { can = roused_can c Stopping (λ e. cc) w h s ready r its.0 its.1 none (named.1 none); run = quiet_run r }

      pub quiet_resumes : Resumes c w v
      quiet_resumes = record {
        events = event.more (event.yield_as quiet_yields) (one (event.release quiet_releases));
        rest = ends_rest c Finished w g.between v h.alone h.owes quiet_yields quiet_releases;
        stays = stays_by w v (ap (λ (x : Plain). x.routes) quiet_same) (ap (λ (x : Plain). x.counts) quiet_same) (ap (λ (x : Plain). x.stop) quiet_same) (ap (λ (x : Plain). x.closing) quiet_same)
            (ap (λ (x : Plain). x.raised) quiet_same) (ap (λ (x : Plain). x.clock) quiet_same) (ap (λ (x : Plain). played_of x.routes x.tape) quiet_same);
        turn = inr (inl record { step = quiet_step; rests = record { same = quiet_same; none_held = none } });
        ended = λ is. ap (λ (x : Plain). x.states c) quiet_same ∙ set_at_same c Finished w.states;
        hears = λ k. same_hears w v (ap (λ (x : Plain). x.arrivals) quiet_same) k;
        keeps = λ k apart. ends_keep c Finished w w v quiet_same k apart (same_keeps k w w record { arrivals = refl; states = refl; spent = refl; unsent = refl });
      }

  -- The output that it holds back is sent first.
  module _ (t : Token) (unsent : unsent_of w c ≡ Some t) where
    last_sends : phase_sent (w.hands 0) ≡ LastSending
    last_sends = ap phase_sent h.held

    pub last_may : MaySendOut t w
    last_may = record {
      alone = h.alone;
      sends = subst (λ n. Sends 0 n (phase_sent (w.hands 0)) t w (after_send 0 n (phase_sent (w.hands 0)) t w)) (sym it)
          record { owes = h.owes; held = inr (inr (h.held, last_sends)); unsent = unsent; effect = refl };
    }

    pub last_stepped : (to_step : ℕ → Option Tuple) → IsStepped 0 w to_step
    last_stepped to_step = other_stepped c Stopping w to_step h.held (λ e. cc)

    module _ (m : Plain) (d' : OutputDelivered (in_hand 0 w) (phase_sent (w.hands 0)) t w m) where
      d : OutputDelivered c LastSending t w m
      d = subst (λ f. OutputDelivered c f t w m) last_sends (subst (λ n. OutputDelivered n (phase_sent (w.hands 0)) t w m) it d')

      sent_it : in_hand 0 m ≡ c
      sent_it = in_hand_is c LastSending m d.in_hand.held

      pub sent_may : MayGiveBack Finished m
      sent_may = subst (λ n. Yields 0 n Finished m (after_yield 0 n Finished m)) (sym sent_it)
          record { owes = d.in_hand.owes; held = inr (inr (inr (inr d.in_hand.held, refl, d.all))); effect = refl }

      pub sent_stepped : (to_step : ℕ → Option Tuple) → IsStepped 0 m to_step
      sent_stepped to_step = other_stepped c LastSending m to_step d.in_hand.held (λ e. cc)

      module _ (v : Plain) (g : GivesBack Finished m v) where
        sent_yields : Yields 0 c Finished m g.between
        sent_yields = subst (λ n. Yields 0 n Finished m g.between) sent_it g.yields

        sent_releases : Releases 0 c g.between v
        sent_releases = subst (λ n. Releases 0 n g.between v) sent_it g.releases

        sent_same : v ≡ record m { states = set_at c Finished m.states; hands = v.hands }
        sent_same = ends_same c Finished m g.between v d.in_hand.alone d.in_hand.owes sent_yields sent_releases

        sent_run : (r : Raised) → run_shown v ≡ resume w.routes (Some r) (run_shown w) c
        sent_run r =
            let u = unsent_is w c t unsent in
            let is = unsent_put w c t u s.consistent in
            let free : Run = record (run_shown w) { unsent = set_at c false (run_shown w).unsent } in
            let put_is : resume w.routes (Some r) (run_shown w) c ≡ end_of c (put w.routes t free) =
            resume_at w.routes (Some r) (run_shown w) c u.route u.at ∙ resume_held w.routes (Some r) (run_shown w) c u.route (ap is_some unsent)
            ∙ ap (λ (o : Option Out). end_of c (send w.routes u.route c o free)) is.last
            ∙ ap (λ (x : Token). end_of c (put w.routes x free)) (sym is.is) in
            ap run_shown sent_same ∙ ends_shown c m
            ∙ ap (λ (f : ℕ → State). end_of c (record (run_shown m) { ended = λ k. is_finished (f k) })) (ap (λ (x : Plain). x.states) d.same)
            ∙ ap (end_of c) (delivered_run c LastSending t w m free (run_shown w).ended d refl refl refl refl (set_at_same c false (run_shown w).unsent) (λ k apart. set_at_other c false (run_shown w).unsent k apart))
            ∙ sym put_is

        sent_step : (stop : Option Raised) → IsNamed stop c w → IsStep c w v stop
        sent_step None named = absurd (true≢false (sym stopped ∙ named))
        sent_step (Some r) named = record { can = held_can c Stopping (λ e. cc) w h s ready (Some r) (ap is_some unsent); run = sent_run r }

        pub sent_resumes : Resumes c w v
        sent_resumes = record {
          events = linked d.events (event.more (event.yield_as sent_yields) (one (event.release sent_releases)));
          rest = ends_rest c Finished m g.between v d.in_hand.alone d.in_hand.owes sent_yields sent_releases;
          stays = stays_by w v
              (ap (λ (x : Plain). x.routes) sent_same ∙ ap (λ (x : Plain). x.routes) d.same)
              (ap (λ (x : Plain). x.counts) sent_same ∙ ap (λ (x : Plain). x.counts) d.same)
              (ap (λ (x : Plain). x.stop) sent_same ∙ ap (λ (x : Plain). x.stop) d.same)
              (ap (λ (x : Plain). x.closing) sent_same ∙ ap (λ (x : Plain). x.closing) d.same)
              (ap (λ (x : Plain). x.raised) sent_same ∙ ap (λ (x : Plain). x.raised) d.same)
              (ap (λ (x : Plain). x.clock) sent_same ∙ ap (λ (x : Plain). x.clock) d.same)
              (ap (λ (x : Plain). played_of x.routes x.tape) sent_same ∙ d.played);
          turn = inl record { step = sent_step; left = rw (ap left_of sent_same, ap left_of d.same) (tape_less w t (output_room w c t unsent s.consistent)) };
          ended = λ is. ap (λ (x : Plain). x.states c) sent_same ∙ set_at_same c Finished m.states;
          hears = λ k. delivered_hears c LastSending t w m v d (ap (λ (x : Plain). x.arrivals) sent_same) k;
          keeps = λ k apart. ends_keep c Finished w m v sent_same k apart (delivered_keeps c LastSending t w m d k apart (sleeper_holds w s k));
        }
