-- A component that is called: what the world then shows is what the serial run says.
use Rattle.std.proofs.Common.{ℕ, ◌+◌, ◌≡◌, ◌≢◌, ◌≤◌, ◌<◌, Bool, true, false, true≢false, refl, sym, ◌∙◌, ap, inl, inr, arith, List, [], ◌∷◌, ◌++◌, length, Option, Some, None, is_some, option_map, slice_get}
use Rattle.std.proofs.lemmas.Option.{slice_get_past}
use Rattle.std.specs.Option.{option_map_or}
use mathlib.Core.Path.{fun_ext}
use Rattle.cy_msg.specs.declared.token.Token.{Token}
use Rattle.cy_msg.specs.declared.token.Tuple.{Tuple}
use Rattle.cy_msg.specs.Tokens.{on_channel}
use Rattle.cy_msg.proofs.Lists.{place, get_last}
use Rattle.cy_fuse.specs.Laws.{FetchesFind}
use Rattle.cy_comp.specs.declared.call.Call.{Call}
use Rattle.cy_comp.specs.declared.call.Out.{Out}
use Rattle.cy_comp.specs.declared.call.Outcome.{Outcome}
use Rattle.cy_comp.specs.declared.call.Outcome.TheVariants.{Emit, Hold, Last}
use Rattle.cy_comp.specs.Step.{outcome_after, out_of}
use Rattle.cy_comp.specs.Calls.{tuples_of, last_outcome, held_until, output, outs}
use Rattle.wake_core.specs.Run.{Route, Run, set_at, put, played_of}
use Rattle.wake_core.specs.Planned.{planned_count, first_reader}
use Rattle.wake_core.specs.Serial.{heard_by, is_runnable, resume, follow, send, call_at, with_call}
use Rattle.wake_core.specs.Plain.{Plain, hand, State, Ready, DataWait, Checked, Stopping, Asked, Empty, Running, Sending, LastSending, stops, last_of, unsent_of, taped_of, made_of, found_by}
use Rattle.wake_core.specs.Events.{Asks, Fetches, Yields, Releases, next_call, state_after, after_ask, after_fetch, after_call, is_finished}
use Rattle.wake_core.specs.Laws as event
use Rattle.wake_core.specs.Laws.{Events}
use Rattle.wake_core.specs.Sound.{Sound, Consistent}
use Rattle.wake_core.specs.Rest.{run_shown, StaysFixed}
use Rattle.wake_core.specs.Turns.{IsInHand, OutputDelivered, IsCalled, Keeps, Resumes, left_of}
use Rattle.wake_core.proofs.Places.{set_at_same, set_at_there, set_at_other}
use Rattle.wake_core.proofs.Outputs.{last_push}
use Rattle.wake_core.proofs.Totals.{call_in_room}
use Rattle.wake_core.proofs.MoreCalls.{outs-push, length_outs-push}
use Rattle.wake_core.proofs.Playing.{run_is, idle_by}
use Rattle.wake_core.proofs.Parking.{unsent_some, finds_shown, found_can}
use Rattle.wake_core.proofs.Putting.{outs_none}
use Rattle.wake_core.proofs.Resuming.{resume_at, resume_free, delivered_run, ends_same, ends_rest, stays_by, free_step, delivered_keeps, delivered_hears, same_hears, ends_keep, calls_less, tape_no_more}
use Rattle.wake_core.proofs.Heeding.{sleeper_holds, same_keeps, same_before}
use Rattle.wake_core.proofs.Making.{IsMade, call_made}
use Rattle.wake_core.proofs.Consisting.{ask_consistent}
use Rattle.wake_core.proofs.Ways.{one, linked}

-- It asked, and its fetch found a tuple.
pub called_by : (c : ℕ) (call : Call) (w m n : Plain) → IsInHand c Checked w → Asks 0 c w m → Fetches 0 c m n → next_call m c ≡ Some call → IsCalled c call w n
called_by c call w m n h a f some =
    let is : n ≡ after_call 0 c call (after_ask 0 c w) = f.effect ∙ ap (λ (o : Option Call). after_fetch 0 c o m) some ∙ ap (after_call 0 c call) a.effect in
    record {
      events = event.more (event.ask a) (one (event.fetch f));
      same = is ∙ ap (λ (x : Plain). record w { cursors = x.cursors; calls = set_at c (w.calls c ++ call ∷ []) w.calls; states = set_at c DataWait w.states; hands = x.hands }) (sym is);
      in_hand = record {
        alone = λ q other. idle_by q w n
            (ap (λ (x : Plain). x.hands q) is ∙ set_at_other 0 (hand c Running) (set_at 0 (hand c Asked) w.hands) q other ∙ set_at_other 0 (hand c Asked) w.hands q other)
            (ap (λ (x : Plain). x.fills q) is) (ap (λ (x : Plain). x.news q) is) (ap (λ (x : Plain). x.clearing q) is) (h.alone q other);
        held = ap (λ (x : Plain). x.hands 0) is ∙ set_at_same 0 (hand c Running) (set_at 0 (hand c Asked) w.hands);
        owes = record {
          filled = ap (λ (x : Plain). x.fills 0) is ∙ h.owes.filled;
          looked = ap (λ (x : Plain). x.news 0) is ∙ h.owes.looked;
          cleared = ap (λ (x : Plain). x.clearing 0) is ∙ h.owes.cleared;
        };
      };
      found = ap (λ (x : Plain). next_call x c) (sym a.effect) ∙ some;
      none_held = a.none_held;
    }

-- What has ended after a call.
abbrev ended_after : ℕ → Outcome → (ℕ → Bool) → ℕ → Bool
ended_after c (Emit out) ended = ended
ended_after c (Hold until out) ended = ended
ended_after c (Last out) ended = set_at c true ended

-- It is what the states say, once the croutine has yielded as the outcome says.
ended_here : (c : ℕ) (o : Outcome) (ended : ℕ → Bool) → ended c ≡ false → is_finished (state_after o) ≡ ended_after c o ended c
ended_here c (Emit out) ended going = sym going
ended_here c (Hold until out) ended going = sym going
ended_here c (Last out) ended going = sym (set_at_same c true ended)

ended_other : (c : ℕ) (o : Outcome) (ended : ℕ → Bool) (k : ℕ) → k ≢ c → ended_after c o ended k ≡ ended k
ended_other c (Emit out) ended k apart = refl
ended_other c (Hold until out) ended k apart = refl
ended_other c (Last out) ended k apart = set_at_other c true ended k apart

yields_as : (c : ℕ) (state : State) (n v : Plain) (o : Outcome) → n.hands 0 ≡ hand c Running → last_of n.routes n.calls c ≡ Some o → Yields 0 c state n v → state ≡ state_after o
yields_as c state n v o held last y = elim y.held [
  | inl e ↦ absurd (other_empty (sym held ∙ e.0))
  | inr rest ↦ elim rest [
    | inl e ↦ same (sym e.1 ∙ ap (option_map state_after) last)
    | inr t ↦ elim t [
      | inl e ↦ absurd (other_sending (sym held ∙ e.0))
      | inr e ↦ elim e.0 [ inl b ↦ absurd (other_stopping (sym held ∙ b)) | inr b ↦ absurd (other_last (sym held ∙ b)) ]
    ]
  ]
]
  where
    other_empty : hand c Running ≡ hand c Empty → ⊥
    other_empty e = grind (arith, e)

    other_sending : hand c Running ≡ hand c Sending → ⊥
    other_sending e = grind (arith, e)

    other_stopping : hand c Running ≡ hand c Stopping → ⊥
    other_stopping e = grind (arith, e)

    other_last : hand c Running ≡ hand c LastSending → ⊥
    other_last e = grind (arith, e)

    same : {a b : State} → Some a ≡ Some b → a ≡ b
    same e = cc

-- What follows a call whose outcome holds nothing back is that its output is sent, where there is one.
follow_sent : (routes : List Route) (x : Route) (c : ℕ) (o : Outcome) (r : Run) → held_until (Some o) ≡ None → follow routes x c o r ≡ send routes x c (out_of o) (record r { ended = ended_after c o r.ended })
follow_sent routes x c (Emit out) r e = refl
follow_sent routes x c (Hold until out) r e = cc
follow_sent routes x c (Last out) r e = refl

follow_held : (routes : List Route) (x : Route) (c : ℕ) (o : Outcome) (r : Run) → held_until (Some o) ≢ None → follow routes x c o r ≡ record r { unsent = set_at c true r.unsent; ended = ended_after c o r.ended }
follow_held routes x c (Emit out) r some = absurd (some refl)
follow_held routes x c (Hold until out) r some = refl
follow_held routes x c (Last out) r some = absurd (some refl)

held_out : (o : Outcome) → held_until (Some o) ≢ None → out_of o ≢ None
held_out (Emit out) some = absurd (some refl)
held_out (Hold until out) some = λ e. cc
held_out (Last out) some = absurd (some refl)

module _ (c : ℕ) (call : Call) (w m : Plain) (u : IsMade w c call) (h : IsInHand c Checked w) (s : Sound w) (ready : w.states c ≡ Ready) (calm : stops w.stop w.raised c ≡ false) (k : IsCalled c call w m) where
  found : found_by w c ≡ Some call.position
  found = rw u.at u.position

  abbrev outcome : Outcome
  outcome = outcome_after u.route.kind (tuples_of (w.calls c)) call.tuple

  called_out : call.out ≡ out_of outcome
  called_out = u.out

  called_states : m.states ≡ set_at c DataWait w.states
  called_states = ap (λ (y : Plain). y.states) k.same

  called_calls : m.calls ≡ set_at c (w.calls c ++ call ∷ []) w.calls
  called_calls = ap (λ (y : Plain). y.calls) k.same

  pub called_last : last_of m.routes m.calls c ≡ Some outcome
  called_last =
      ap (λ (y : Plain). last_of y.routes y.calls c) k.same
      ∙ last_at (set_at c (w.calls c ++ call ∷ []) w.calls c)
      ∙ ap (last_outcome u.route.kind) (set_at_same c (w.calls c ++ call ∷ []) w.calls)
      ∙ last_push u.route (w.calls c) call
    where
      last_at : (l : List Call) → last_of w.routes (λ n. l) c ≡ last_outcome u.route.kind l
      last_at l = rw u.at refl

  called_other : (j : ℕ) → j ≢ c → unsent_of m j ≡ unsent_of w j
  called_other j apart =
      ap (λ (y : Plain). unsent_of y j) k.same
      ∙ ap (λ (l : List Call). slice_get (option_map_or (λ (y : Route). outs y.out l) (slice_get w.routes j) []) (taped_of w.routes w.tape j)) (set_at_other c (w.calls c ++ call ∷ []) w.calls j apart)

  -- All outputs of the calls before it stand on the tape.
  all_sent : length (on_channel u.route.out w.tape) ≡ length (outs u.route.out (w.calls c))
  all_sent = let l = not_less in let few = s.consistent.held.few c in both (rw u.at at l) (rw u.at at few)
    where
      true_false : true ≡ false → ⊥
      true_false e = cc

      not_less : taped_of w.routes w.tape c < made_of w.routes w.calls c → ⊥
      not_less l = true_false (sym (unsent_some w c l) ∙ ap is_some k.none_held)

      both : (length (on_channel u.route.out w.tape) < length (outs u.route.out (w.calls c)) → ⊥) → length (on_channel u.route.out w.tape) ≤ length (outs u.route.out (w.calls c))
          → length (on_channel u.route.out w.tape) ≡ length (outs u.route.out (w.calls c))
      both never few = omega (arith, never, few)

  called_here : unsent_of m c ≡ slice_get (outs u.route.out (w.calls c ++ call ∷ [])) (length (outs u.route.out (w.calls c)))
  called_here =
      ap (λ (y : Plain). unsent_of y c) k.same
      ∙ unsent_at (set_at c (w.calls c ++ call ∷ []) w.calls c)
      ∙ ap (λ (l : List Call). slice_get (outs u.route.out l) (length (on_channel u.route.out w.tape))) (set_at_same c (w.calls c ++ call ∷ []) w.calls)
      ∙ ap (slice_get (outs u.route.out (w.calls c ++ call ∷ []))) all_sent
    where
      unsent_at : (l : List Call) → slice_get (option_map_or (λ (y : Route). outs y.out l) (slice_get w.routes c) []) (taped_of w.routes w.tape c) ≡ slice_get (outs u.route.out l) (length (on_channel u.route.out w.tape))
      unsent_at l = rw u.at refl

  called_none : call.out ≡ None → unsent_of m c ≡ None
  called_none e =
      called_here ∙ ap (λ l. slice_get l (length (outs u.route.out (w.calls c)))) (outs_none u.route.out (w.calls c) call e)
      ∙ slice_get_past (outs u.route.out (w.calls c)) (length (outs u.route.out (w.calls c))) (omega arith)

  called_some : (o : Out) → call.out ≡ Some o → unsent_of m c ≡ Some (output u.route.out (length (outs u.route.out (w.calls c ++ call ∷ []))) o)
  called_some o e =
      called_here ∙ ap (λ l. slice_get l (length (outs u.route.out (w.calls c)))) (outs-push u.route.out (w.calls c) call o e)
      ∙ get_last (outs u.route.out (w.calls c)) (output u.route.out (length (outs u.route.out (w.calls c)) + 1) o)
      ∙ ap (λ n. Some (output u.route.out n o)) (sym (length_outs-push u.route.out (w.calls c) call o e))

  -- The run with the call, of which nothing was sent yet.
  abbrev called_run : Run
  called_run = record (run_shown w) { calls = set_at c (w.calls c ++ call ∷ []) w.calls }

  -- What has ended with it, and the run with that.
  abbrev ended : ℕ → Bool
  ended = ended_after c outcome (run_shown w).ended

  abbrev ended_run : Run
  ended_run = record called_run { ended = ended }

  resumed : resume w.routes None (run_shown w) c ≡ follow w.routes u.route c outcome called_run
  resumed =
      let r : Run = run_shown w in
      let tuple = ap (λ (o : Option Tuple). with_call w.routes u.route c call.position o r) u.tuple in
      resume_at w.routes None r c u.route u.at ∙ resume_free w.routes None r c u.route (ap is_some k.none_held)
      ∙ ap (λ (o : Option ℕ). call_at w.routes u.route c o r) (finds_shown w c u.route u.at s.consistent ∙ found)
      ∙ tuple
      ∙ ap (λ (n : ℕ). follow w.routes u.route c outcome (record r { calls = set_at c (w.calls c ++ record { position = call.position; tail = n; tuple = call.tuple; out = out_of outcome } ∷ []) w.calls })) (sym u.tail)
      ∙ ap (λ (o : Option Out). follow w.routes u.route c outcome (record r { calls = set_at c (w.calls c ++ record { position = call.position; tail = call.tail; tuple = call.tuple; out = o } ∷ []) w.calls })) (sym called_out)

  called_can : is_runnable w.routes None (run_shown w) c ≡ true
  called_can = found_can c Checked (λ e. cc) w h s ready u.route u.at k.none_held ∙ ap is_some found

  called_less : FetchesFind → left_of m < left_of w
  called_less law = rw (ap left_of k.same) (calls_less w c u.route call u.at room)
    where
      asked : Consistent (after_ask 0 c w)
      asked = ask_consistent 0 c w h.held k.none_held s.consistent

      room : length (w.calls c) < planned_count w.routes w.counts (first_reader u.route)
      room = call_in_room law (after_ask 0 c w) 0 c u.route call (set_at_same 0 (hand c Asked) w.hands) k.found u.at asked

  -- What the world shows after it, but for what has ended: the output waits to be sent, ..
  held_called_run : held_until (Some outcome) ≢ None → record (run_shown m) { ended = ended } ≡ resume w.routes None (run_shown w) c
  held_called_run some =
      run_is m (record called_run { unsent = set_at c true called_run.unsent }) ended
      (ap (λ (y : Plain). y.arrivals) k.same) called_calls
      (λ j. elim (place j c) [
        | inl e ↦ ap (λ n. is_some (unsent_of m n)) e ∙ waits (out_of outcome) refl ∙ sym (set_at_there c true called_run.unsent j e)
        | inr apart ↦ ap is_some (called_other j apart) ∙ sym (set_at_other c true called_run.unsent j apart)
      ])
      (ap (λ (y : Plain). y.tape) k.same) (ap (λ (y : Plain). y.clock) k.same)
      ∙ sym (resumed ∙ follow_held w.routes u.route c outcome called_run some)
    where
      waits : (o : Option Out) → out_of outcome ≡ o → is_some (unsent_of m c) ≡ true
      waits None e = absurd (held_out outcome some e)
      waits (Some o) e = ap is_some (called_some o (called_out ∙ e))

  -- .. or there is none, ..
  silent_run : held_until (Some outcome) ≡ None → unsent_of m c ≡ None → record (run_shown m) { ended = ended } ≡ resume w.routes None (run_shown w) c
  silent_run sent none =
      run_is m called_run ended
      (ap (λ (y : Plain). y.arrivals) k.same) called_calls
      (λ j. elim (place j c) [
        | inl e ↦ ap (λ n. is_some (unsent_of m n)) e ∙ ap is_some none ∙ sym (ap is_some k.none_held) ∙ ap (λ n. is_some (unsent_of w n)) (sym e)
        | inr apart ↦ ap is_some (called_other j apart)
      ])
      (ap (λ (y : Plain). y.tape) k.same) (ap (λ (y : Plain). y.clock) k.same)
      ∙ ap (λ (o : Option Out). send w.routes u.route c o ended_run) (sym (silent call.out refl) ∙ called_out)
      ∙ sym (resumed ∙ follow_sent w.routes u.route c outcome called_run sent)
    where
      some_none : {t : Token} → Some t ≡ None → ⊥
      some_none e = cc

      silent : (o : Option Out) → call.out ≡ o → call.out ≡ None
      silent None e = e
      silent (Some o) e = absurd (some_none (sym (called_some o e) ∙ none))

  -- .. or it is sent at once.
  module _ (t : Token) (n : Plain) (sent : held_until (Some outcome) ≡ None) (unsent : unsent_of m c ≡ Some t) (d : OutputDelivered c Running t m n) where
    sent_run : record (run_shown n) { ended = ended } ≡ resume w.routes None (run_shown w) c
    sent_run =
        delivered_run c Running t m n called_run ended d (ap (λ (y : Plain). y.arrivals) (sym k.same)) (sym called_calls) (ap (λ (y : Plain). y.tape) (sym k.same)) (ap (λ (y : Plain). y.clock) (sym k.same))
        (ap is_some k.none_held) (λ j apart. sym (ap is_some (called_other j apart)))
        ∙ ap (λ (y : Plain). put y.routes t ended_run) k.same
        ∙ loud call.out refl
        ∙ sym (resumed ∙ follow_sent w.routes u.route c outcome called_run sent)
      where
        none_some : None ≡ Some t → ⊥
        none_some e = cc

        loud : (o : Option Out) → call.out ≡ o → put w.routes t ended_run ≡ send w.routes u.route c (out_of outcome) ended_run
        loud None e = absurd (none_some (sym (called_none e) ∙ unsent))
        loud (Some o) e =
            let both : Some (output u.route.out (length (outs u.route.out (w.calls c ++ call ∷ []))) o) ≡ Some t = sym (called_some o e) ∙ unsent in
            let same : output u.route.out (length (outs u.route.out (w.calls c ++ call ∷ []))) o ≡ t = cc in
            ap (λ (y : Token). put w.routes y ended_run) (sym same)
            ∙ ap (λ (l : List Call). put w.routes (output u.route.out (length (outs u.route.out l)) o) ended_run) (sym (set_at_same c (w.calls c ++ call ∷ []) w.calls))
            ∙ ap (λ (y : Option Out). send w.routes u.route c y ended_run) (sym e ∙ called_out)

  -- The croutine yields, which says what has ended, and is given back.
  called_ends : (n : Plain) → IsInHand c Running n → n.states ≡ m.states → last_of n.routes n.calls c ≡ Some outcome → record (run_shown n) { ended = ended } ≡ resume w.routes None (run_shown w) c
      → Events w n → left_of n < left_of w → StaysFixed w n → ((j : ℕ) → heard_by (w.arrivals j) ≤ heard_by (n.arrivals j)) → ((j : ℕ) → j ≢ c → Keeps j w n) → (state : State) (o v : Plain) → Yields 0 c state n o → Releases 0 c o v → Resumes c w v
  called_ends n hand states last run events less stays hears keeps state o v y r =
      let e = ends_same c state n o v hand.alone hand.owes y r in
      record {
        events = linked events (event.more (event.yield_as y) (one (event.release r)));
        rest = ends_rest c state n o v hand.alone hand.owes y r;
        stays = stays_by w v
            (ap (λ (x : Plain). x.routes) e ∙ stays.routes)
            (ap (λ (x : Plain). x.counts) e ∙ stays.counts)
            (ap (λ (x : Plain). x.stop) e ∙ stays.stop)
            (ap (λ (x : Plain). x.closing) e ∙ stays.closing)
            (ap (λ (x : Plain). x.raised) e ∙ stays.raised)
            (ap (λ (x : Plain). x.clock) e ∙ stays.clock)
            (ap (λ (x : Plain). played_of x.routes x.tape) e ∙ stays.played);
        turn = inl record {
          step = free_step c w v calm called_can (ap run_shown e ∙ ap (λ (f : ℕ → Bool). record (run_shown n) { ended = f }) (fun_ext ends) ∙ run);
          left = rw (ap left_of e) less;
        };
        ended = λ is. absurd (true≢false (sym is ∙ calm));
        hears = λ j. let l = hears j in let same = ap (λ (x : Plain). heard_by (x.arrivals j)) e in omega (arith, l, same);
        keeps = λ j apart. ends_keep c state w n v e j apart (keeps j apart);
      }
    where
      ends : (j : ℕ) → is_finished (set_at c state n.states j) ≡ ended j
      ends j = elim (place j c) [
        | inl here ↦ ap is_finished (set_at_there c state n.states j here ∙ yields_as c state n o outcome hand.held last y) ∙ ended_here c outcome (run_shown w).ended (ap is_finished ready) ∙ ap ended (sym here)
        | inr apart ↦ ap is_finished (set_at_other c state n.states j apart ∙ ap (λ (f : ℕ → State). f j) (states ∙ called_states) ∙ set_at_other c DataWait w.states j apart) ∙ sym (ended_other c outcome (run_shown w).ended j apart)
      ]

  called_stays : StaysFixed w m
  called_stays = stays_by w m (ap (λ (x : Plain). x.routes) k.same) (ap (λ (x : Plain). x.counts) k.same) (ap (λ (x : Plain). x.stop) k.same) (ap (λ (x : Plain). x.closing) k.same) (ap (λ (x : Plain). x.raised) k.same) (ap (λ (x : Plain). x.clock) k.same)
      (ap (λ (x : Plain). played_of x.routes x.tape) k.same)

  -- A call tells the others nothing.
  called_keeps : (j : ℕ) → j ≢ c → Keeps j w m
  called_keeps j apart = same_keeps j w m record {
    arrivals = ap (λ (x : Plain). x.arrivals j) k.same;
    states = ap (λ (f : ℕ → State). f j) called_states ∙ set_at_other c DataWait w.states j apart;
    spent = ap (λ (x : Plain). x.spent j) k.same;
    unsent = called_other j apart;
  }

  -- After a call whose output is held back, or that has none.
  quiet_resumes : FetchesFind → (held_until (Some outcome) ≡ None → unsent_of m c ≡ None) → (state : State) (o v : Plain) → Yields 0 c state m o → Releases 0 c o v → Resumes c w v
  quiet_resumes law none state o v y r = called_ends m k.in_hand refl called_last (by (held_until (Some outcome)) refl) k.events (called_less law) called_stays (same_hears w m (ap (λ (x : Plain). x.arrivals) k.same)) called_keeps state o v y r
    where
      some_none : {u : ℕ} → Some u ≡ None → ⊥
      some_none e = cc

      by : (x : Option ℕ) → held_until (Some outcome) ≡ x → record (run_shown m) { ended = ended } ≡ resume w.routes None (run_shown w) c
      by None e = silent_run e (none e)
      by (Some u) e = held_called_run (λ no. some_none (sym e ∙ no))

  -- After one whose output was sent at once.
  sent_resumes : FetchesFind → (t : Token) (n : Plain) → held_until (Some outcome) ≡ None → unsent_of m c ≡ Some t → OutputDelivered c Running t m n
      → (state : State) (o v : Plain) → Yields 0 c state n o → Releases 0 c o v → Resumes c w v
  sent_resumes law t n sent unsent d state o v y r = called_ends n d.in_hand (ap (λ (x : Plain). x.states) d.same) (ap (λ (x : Plain). last_of x.routes x.calls c) d.same ∙ called_last) (sent_run t n sent unsent d) (linked k.events d.events) less (stays_by w n
      (ap (λ (x : Plain). x.routes) d.same ∙ called_stays.routes)
      (ap (λ (x : Plain). x.counts) d.same ∙ called_stays.counts)
      (ap (λ (x : Plain). x.stop) d.same ∙ called_stays.stop)
      (ap (λ (x : Plain). x.closing) d.same ∙ called_stays.closing)
      (ap (λ (x : Plain). x.raised) d.same ∙ called_stays.raised)
      (ap (λ (x : Plain). x.clock) d.same ∙ called_stays.clock)
      (d.played ∙ called_stays.played)) (λ j. hears j) (λ j apart. same_then_told j apart) state o v y r
    where
      hears : (j : ℕ) → heard_by (w.arrivals j) ≤ heard_by (n.arrivals j)
      hears j = let l = delivered_hears c Running t m n n d refl j in let same = ap (λ (x : Plain). heard_by (x.arrivals j)) k.same in omega (arith, l, same)

      same_then_told : (j : ℕ) → j ≢ c → Keeps j w n
      same_then_told j apart = same_before j w m n record {
        arrivals = ap (λ (x : Plain). x.arrivals j) k.same;
        states = ap (λ (f : ℕ → State). f j) called_states ∙ set_at_other c DataWait w.states j apart;
        spent = ap (λ (x : Plain). x.spent j) k.same;
        unsent = called_other j apart;
      } (delivered_keeps c Running t m n d j apart (λ u is none. sleeper_holds w s j u (sym (ap (λ (f : ℕ → State). f j) called_states ∙ set_at_other c DataWait w.states j apart) ∙ is) (sym (called_other j apart) ∙ none)))

      no_more : left_of n ≤ left_of m
      no_more = rw (ap left_of d.same) (tape_no_more m t)

      less : left_of n < left_of w
      less = let one = called_less law in omega (arith, no_more, one)

-- A croutine was called, and yields after what the outcome says of its output.
module _ (c : ℕ) (call : Call) (w m : Plain) (h : IsInHand c Checked w) (s : Sound w) (ready : w.states c ≡ Ready) (calm : stops w.stop w.raised c ≡ false) (k : IsCalled c call w m) where
  pub called_quiet : FetchesFind → (held_until (last_of m.routes m.calls c) ≡ None → unsent_of m c ≡ None) → (state : State) (o v : Plain) → Yields 0 c state m o → Releases 0 c o v → Resumes c w v
  called_quiet law none state o v y r =
      let u = call_made w c call k.found in
      quiet_resumes c call w m u h s ready calm k law (λ e. none (ap held_until (called_last c call w m u h s ready calm k) ∙ e)) state o v y r

  pub called_sent : FetchesFind → (t : Token) (n : Plain) → held_until (last_of m.routes m.calls c) ≡ None → unsent_of m c ≡ Some t → OutputDelivered c Running t m n
      → (state : State) (o v : Plain) → Yields 0 c state n o → Releases 0 c o v → Resumes c w v
  called_sent law t n sent unsent d state o v y r =
      let u = call_made w c call k.found in
      sent_resumes c call w m u h s ready calm k law t n (sym (ap held_until (called_last c call w m u h s ready calm k)) ∙ sent) unsent d state o v y r
