-- A croutine that is resumed: the world then shows the step of the serial run, or what it showed before.
use Rattle.std.proofs.Common.{ℕ, zero, suc, ◌+◌, ◌-◌, ◌≡◌, ◌≢◌, ◌≤◌, ◌<◌, Bool, true, false, true≢false, refl, sym, ◌∙◌, ap, subst, inl, inr, arith, List, [], ◌∷◌, ◌++◌, length, length-append, Option, Some, None, is_some, slice_get}
use Rattle.std.proofs.lemmas.Option.{slice_get_within}
use Rattle.cy_msg.specs.declared.token.Token.{Token}
use Rattle.cy_msg.proofs.Lists.{place}
use Rattle.cy_fuse.specs.Fusion.{Arrival}
use Rattle.cy_comp.specs.declared.call.Call.{Call}
use Rattle.cy_comp.specs.declared.call.Out.{Out}
use Rattle.wake_core.specs.Run.{Route, Run, set_at, arrive, put, readers_of, played_of}
use Rattle.wake_core.specs.Planned.{planned_count, first_reader, counts_from}
use Rattle.wake_core.specs.Serial.{Raised, heard_by, resume, resume_by, send_held, go_on, send, is_runnable}
use Rattle.wake_core.specs.Plain.{Plain, hand, State, Ready, DataWait, Sleep, Phase, Checked, Asked, Empty, Sending, Done, stops, unsent_of}
use Rattle.wake_core.specs.Events.{Asks, Fetches, Yields, Releases, OwesNothing, next_call, after_ask, after_fetch, after_none, is_finished}
use Rattle.wake_core.specs.Laws as event
use Rattle.wake_core.specs.Sound.{Sound}
use Rattle.wake_core.specs.Rest.{IsAtRest, run_shown, StaysFixed}
use Rattle.wake_core.specs.Turns.{IsAlone, IsInHand, OutputDelivered, IsNamed, IsStep, Keeps, Resumes, sum_below, calls_left, left_of}
use Rattle.wake_core.proofs.Places.{set_at_same, set_at_other, set_at_again, set_at_itself}
use Rattle.wake_core.proofs.Taping.{unsent_is}
use Rattle.wake_core.proofs.Totals.{output_room}
use Rattle.wake_core.proofs.Playing.{run_is, idle_by}
use Rattle.wake_core.proofs.Parking.{held_can}
use Rattle.wake_core.proofs.Heeding.{hears_more, sleeper_holds, same_keeps, same_then, told_keeps}
use Rattle.wake_core.proofs.Putting.{unsent_put}
use Rattle.wake_core.proofs.Ways.{one, linked}

pub resume_at : (routes : List Route) (stop : Option Raised) (r : Run) (c : ℕ) (x : Route) → slice_get routes c ≡ Some x → resume routes stop r c ≡ resume_by routes x stop c r
resume_at routes stop r c x at = rw at refl

pub resume_held : (routes : List Route) (stop : Option Raised) (r : Run) (c : ℕ) (x : Route) → r.unsent c ≡ true → resume_by routes x stop c r ≡ send_held routes x stop c r
resume_held routes stop r c x e = rw e refl

pub resume_free : (routes : List Route) (stop : Option Raised) (r : Run) (c : ℕ) (x : Route) → r.unsent c ≡ false → resume_by routes x stop c r ≡ go_on routes x stop c r
resume_free routes stop r c x e = rw e refl

-- A croutine that yielded is given back.
module _ (c : ℕ) (state : State) (m n v : Plain) (alone : IsAlone m) (owes : OwesNothing 0 m) (y : Yields 0 c state m n) (r : Releases 0 c n v) where
  pub ends_same : v ≡ record m { states = set_at c state m.states; hands = v.hands }
  ends_same = r.effect ∙ ap (λ (x : Plain). record n { hands = x.hands }) (sym r.effect) ∙ ap (λ (x : Plain). record x { hands = v.hands }) y.effect

  pub ends_rest : IsAtRest v
  ends_rest q = elim (place q 0) [
    | inl e ↦ record {
      hand = ap v.hands e ∙ ap (λ (x : Plain). x.hands 0) r.effect ∙ set_at_same 0 None n.hands;
      owes = record {
        filled = ap v.fills e ∙ ap (λ (x : Plain). x.fills 0) ends_same ∙ owes.filled;
        looked = ap v.news e ∙ ap (λ (x : Plain). x.news 0) ends_same ∙ owes.looked;
        cleared = ap v.clearing e ∙ ap (λ (x : Plain). x.clearing 0) ends_same ∙ owes.cleared;
      };
    }
    | inr other ↦ idle_by q m v
        (ap (λ (x : Plain). x.hands q) r.effect ∙ set_at_other 0 None n.hands q other ∙ ap (λ (x : Plain). x.hands q) y.effect ∙ set_at_other 0 (hand c Done) m.hands q other)
        (ap (λ (x : Plain). x.fills q) ends_same) (ap (λ (x : Plain). x.news q) ends_same) (ap (λ (x : Plain). x.clearing q) ends_same) (alone q other)
  ]

-- There is less room where one has less and the others have no more.
pub sum_no_more : (n : ℕ) (f g : ℕ → ℕ) → ((k : ℕ) → g k ≤ f k) → sum_below n g ≤ sum_below n f
sum_no_more zero f g few = omega arith
sum_no_more (suc n) f g few = let here = few n in let rest = sum_no_more n f g few in omega (arith, here, rest)

pub sum_less : (n : ℕ) (f g : ℕ → ℕ) (c : ℕ) → c < n → g c < f c → ((k : ℕ) → g k ≤ f k) → sum_below n g < sum_below n f
sum_less zero f g c inside less few = absurd (omega arith)
sum_less (suc n) f g c inside less few = elim (place c n) [
  | inl e ↦ let rest = sum_no_more n f g few in let here : g n < f n = subst (λ k. g k < f k) e less in omega (arith, rest, here)
  | inr apart ↦ let rest = sum_less n f g c (below c n inside apart) less few in let here = few n in omega (arith, rest, here)
]
  where
    below : (c n : ℕ) → c < suc n → c ≢ n → c < n
    below c n l apart = omega (arith, l, apart)

-- A message more on the tape leaves less room.
pub tape_less : (w : Plain) (t : Token) → length w.tape < counts_from w.routes w.counts 0 (length w.counts)
    → left_of (record w { tape = w.tape ++ t ∷ [] }) < left_of w
tape_less w t room = let more : length (w.tape ++ t ∷ []) ≡ length w.tape + 1 = length-append w.tape (t ∷ []) in omega (arith, more, room)

pub tape_no_more : (w : Plain) (t : Token) → left_of (record w { tape = w.tape ++ t ∷ [] }) ≤ left_of w
tape_no_more w t = let more : length (w.tape ++ t ∷ []) ≡ length w.tape + 1 = length-append w.tape (t ∷ []) in omega (arith, more)

-- So does a call more.
pub calls_less : (w : Plain) (c : ℕ) (x : Route) (call : Call) → slice_get w.routes c ≡ Some x → length (w.calls c) < planned_count w.routes w.counts (first_reader x)
    → left_of (record w { calls = set_at c (w.calls c ++ call ∷ []) w.calls }) < left_of w
calls_less w c x call at room =
    let fewer = sum_less (length w.routes) (λ k. calls_left w.routes w.counts k (w.calls k)) (λ k. calls_left w.routes w.counts k (set_at c (w.calls c ++ call ∷ []) w.calls k)) c
    (slice_get_within w.routes c x at)
    (ap_less (set_at_same c (w.calls c ++ call ∷ []) w.calls))
    few in
    omega (arith, fewer)
  where
    less : (most n m : ℕ) → n < most → m ≡ n + 1 → most - m < most - n
    less most n m l e = omega arith

    no_more : (most n m : ℕ) → m ≡ n + 1 → most - m ≤ most - n
    no_more most n m e = omega arith

    longer : length (w.calls c ++ call ∷ []) ≡ length (w.calls c) + 1
    longer = length-append (w.calls c) (call ∷ [])

    left_at : (calls : List Call) → calls_left w.routes w.counts c calls ≡ planned_count w.routes w.counts (first_reader x) - length calls
    left_at calls = rw at refl

    ap_less : set_at c (w.calls c ++ call ∷ []) w.calls c ≡ w.calls c ++ call ∷ []
        → calls_left w.routes w.counts c (set_at c (w.calls c ++ call ∷ []) w.calls c) < calls_left w.routes w.counts c (w.calls c)
    ap_less e = rw (e, left_at (w.calls c ++ call ∷ []), left_at (w.calls c)) (less (planned_count w.routes w.counts (first_reader x)) (length (w.calls c)) (length (w.calls c ++ call ∷ [])) room longer)

    few : (k : ℕ) → calls_left w.routes w.counts k (set_at c (w.calls c ++ call ∷ []) w.calls k) ≤ calls_left w.routes w.counts k (w.calls k)
    few k = elim (place k c) [
      | inl e ↦ subst (λ n. calls_left w.routes w.counts n (set_at c (w.calls c ++ call ∷ []) w.calls n) ≤ calls_left w.routes w.counts n (w.calls n)) (sym e)
          (rw (set_at_same c (w.calls c ++ call ∷ []) w.calls, left_at (w.calls c ++ call ∷ []), left_at (w.calls c))
          (no_more (planned_count w.routes w.counts (first_reader x)) (length (w.calls c)) (length (w.calls c ++ call ∷ [])) longer))
      | inr apart ↦ rw (set_at_other c (w.calls c ++ call ∷ []) w.calls k apart) (omega arith)
    ]

-- What is the same in both worlds for whoever the serial run is to.
pub stays_by : (w v : Plain) → v.routes ≡ w.routes → v.counts ≡ w.counts → v.stop ≡ w.stop → v.closing ≡ w.closing → v.raised ≡ w.raised → v.clock ≡ w.clock → played_of v.routes v.tape ≡ played_of w.routes w.tape → StaysFixed w v
stays_by w v r n g c u k p = record { routes = r; counts = n; stop = g; closing = c; raised = u; clock = k; played = p }

-- A step of one that isn't stopped.
pub free_step : (c : ℕ) (w v : Plain) → stops w.stop w.raised c ≡ false → is_runnable w.routes None (run_shown w) c ≡ true → run_shown v ≡ resume w.routes None (run_shown w) c
    → (stop : Option Raised) → IsNamed stop c w → IsStep c w v stop
free_step c w v calm can run None named = record { can = can; run = run }
free_step c w v calm can run (Some r) named = absurd (true≢false (sym named.0 ∙ calm))

-- What a component keeps while another one sends an output.
pub delivered_keeps : (c : ℕ) (next : Phase) (t : Token) (w m : Plain) → OutputDelivered c next t w m → (k : ℕ) → k ≢ c → ((u : ℕ) → w.states k ≡ Sleep u → unsent_of w k ≢ None) → Keeps k w m
delivered_keeps c next t w m d k apart sleeps = told_keeps k (readers_of w.routes t.channel) t w m d.arrivals (ap (λ (x : Plain). x.states k) d.same) (d.spent k) (d.others k apart) sleeps

-- What is heard is no less.
pub same_hears : (w v : Plain) → v.arrivals ≡ w.arrivals → (k : ℕ) → heard_by (w.arrivals k) ≤ heard_by (v.arrivals k)
same_hears w v e k = let same = ap (λ (f : ℕ → List Arrival). heard_by (f k)) e in omega (arith, same)

pub delivered_hears : (c : ℕ) (next : Phase) (t : Token) (w m v : Plain) → OutputDelivered c next t w m → v.arrivals ≡ m.arrivals → (k : ℕ) → heard_by (w.arrivals k) ≤ heard_by (v.arrivals k)
delivered_hears c next t w m v d e k =
    let same = ap (λ (f : ℕ → List Arrival). heard_by (f k)) (e ∙ d.arrivals) in
    let more = hears_more (readers_of w.routes t.channel) t w.arrivals k in
    omega (arith, same, more)

-- .. or yields.
pub ends_keep : (c : ℕ) (state : State) (w m v : Plain) → v ≡ record m { states = set_at c state m.states; hands = v.hands } → (k : ℕ) → k ≢ c → Keeps k w m → Keeps k w v
ends_keep c state w m v e k apart a = same_then k w m v a record {
  arrivals = ap (λ (x : Plain). x.arrivals k) e;
  states = ap (λ (x : Plain). x.states k) e ∙ set_at_other c state m.states k apart;
  spent = ap (λ (x : Plain). x.spent k) e;
  unsent = ap (λ (x : Plain). unsent_of x k) e;
}

-- What a world shows after an output was put, but for what has ended.
pub delivered_run : (c : ℕ) (next : Phase) (t : Token) (w m : Plain) (r : Run) (f : ℕ → Bool) → OutputDelivered c next t w m → r.arrivals ≡ w.arrivals → r.calls ≡ w.calls → r.tape ≡ w.tape → r.clock ≡ w.clock
    → r.unsent c ≡ false → ((k : ℕ) → k ≢ c → r.unsent k ≡ is_some (unsent_of w k)) → record (run_shown m) { ended = f } ≡ put w.routes t (record r { ended = f })
delivered_run c next t w m r f d a k p l none others = run_is m (put w.routes t r) f
    (d.arrivals ∙ ap (arrive (readers_of w.routes t.channel) t) (sym a))
    (ap (λ (x : Plain). x.calls) d.same ∙ sym k)
    (λ j. elim (place j c) [
      | inl e ↦ ap (λ n. is_some (unsent_of m n)) e ∙ ap is_some d.all ∙ sym none ∙ ap r.unsent (sym e)
      | inr apart ↦ ap is_some (d.others j apart) ∙ sym (others j apart)
    ])
    (ap (λ (x : Plain). x.tape) d.same ∙ ap (λ (l : List Token). l ++ t ∷ []) (sym p))
    (ap (λ (x : Plain). x.clock) d.same ∙ sym l)

-- A held output is sent.
module _ (c : ℕ) (t : Token) (w m n v : Plain) (h : IsInHand c Checked w) (s : Sound w) (ready : w.states c ≡ Ready) (calm : stops w.stop w.raised c ≡ false) (unsent : unsent_of w c ≡ Some t)
    (d : OutputDelivered c Sending t w m) (y : Yields 0 c Ready m n) (r : Releases 0 c n v) where
  held_some : is_some (unsent_of w c) ≡ true
  held_some = ap is_some unsent

  held_run : run_shown v ≡ resume w.routes None (run_shown w) c
  held_run =
      let u = unsent_is w c t unsent in
      let is = unsent_put w c t u s.consistent in
      let free : Run = record (run_shown w) { unsent = set_at c false (run_shown w).unsent } in
      let sent : resume w.routes None (run_shown w) c ≡ put w.routes t free =
      resume_at w.routes None (run_shown w) c u.route u.at ∙ resume_held w.routes None (run_shown w) c u.route held_some
      ∙ ap (λ (o : Option Out). send w.routes u.route c o free) is.last
      ∙ ap (λ (x : Token). put w.routes x free) (sym is.is) in
      let states : set_at c Ready m.states ≡ w.states =
      ap (λ (x : Plain). set_at c Ready x.states) d.same ∙ ap (λ (s : State). set_at c s w.states) (sym ready) ∙ set_at_itself c w.states in
      ap run_shown (ends_same c Ready m n v d.in_hand.alone d.in_hand.owes y r)
      ∙ ap (λ (s : ℕ → State). record (run_shown m) { ended = λ k. is_finished (s k) }) states
      ∙ delivered_run c Sending t w m free (run_shown w).ended d refl refl refl refl (set_at_same c false (run_shown w).unsent) (λ k apart. set_at_other c false (run_shown w).unsent k apart)
      ∙ sym sent

  pub held_resumes : Resumes c w v
  held_resumes =
      let e = ends_same c Ready m n v d.in_hand.alone d.in_hand.owes y r in
      record {
        events = linked d.events (event.more (event.yield_as y) (one (event.release r)));
        rest = ends_rest c Ready m n v d.in_hand.alone d.in_hand.owes y r;
        stays = stays_by w v
            (ap (λ (x : Plain). x.routes) e ∙ ap (λ (x : Plain). x.routes) d.same)
            (ap (λ (x : Plain). x.counts) e ∙ ap (λ (x : Plain). x.counts) d.same)
            (ap (λ (x : Plain). x.stop) e ∙ ap (λ (x : Plain). x.stop) d.same)
            (ap (λ (x : Plain). x.closing) e ∙ ap (λ (x : Plain). x.closing) d.same)
            (ap (λ (x : Plain). x.raised) e ∙ ap (λ (x : Plain). x.raised) d.same)
            (ap (λ (x : Plain). x.clock) e ∙ ap (λ (x : Plain). x.clock) d.same)
            (ap (λ (x : Plain). played_of x.routes x.tape) e ∙ d.played);
        turn = inl record {
          step = free_step c w v calm (held_can c Checked (λ e. cc) w h s ready None held_some) held_run;
          left = rw (ap left_of e, ap left_of d.same) (tape_less w t (output_room w c t unsent s.consistent));
        };
        ended = λ is. absurd (true≢false (sym is ∙ calm));
        hears = λ k. delivered_hears c Sending t w m v d (ap (λ (x : Plain). x.arrivals) e) k;
        keeps = λ k apart. ends_keep c Ready w m v e k apart (delivered_keeps c Sending t w m d k apart (sleeper_holds w s k));
      }

-- It finds nothing, and waits again.
module _ (c : ℕ) (w m n o v : Plain) (h : IsInHand c Checked w) (calm : stops w.stop w.raised c ≡ false) (a : Asks 0 c w m) (f : Fetches 0 c m n) (none : next_call m c ≡ None)
    (y : Yields 0 c DataWait n o) (r : Releases 0 c o v) where
  none_is : n ≡ after_none 0 c (after_ask 0 c w)
  none_is = f.effect ∙ ap (λ (x : Option Call). after_fetch 0 c x m) none ∙ ap (after_none 0 c) a.effect

  none_alone : IsAlone n
  none_alone q other = idle_by q w n
      (ap (λ (x : Plain). x.hands q) none_is ∙ set_at_other 0 (hand c Empty) (set_at 0 (hand c Asked) w.hands) q other ∙ set_at_other 0 (hand c Asked) w.hands q other)
      (ap (λ (x : Plain). x.fills q) none_is) (ap (λ (x : Plain). x.news q) none_is) (ap (λ (x : Plain). x.clearing q) none_is) (h.alone q other)

  none_owes : OwesNothing 0 n
  none_owes = record {
    filled = ap (λ (x : Plain). x.fills 0) none_is ∙ h.owes.filled;
    looked = ap (λ (x : Plain). x.news 0) none_is ∙ h.owes.looked;
    cleared = ap (λ (x : Plain). x.clearing 0) none_is ∙ h.owes.cleared;
  }

  none_same : v ≡ record w { states = set_at c DataWait w.states; hands = v.hands }
  none_same = ends_same c DataWait n o v none_alone none_owes y r
      ∙ ap (λ (x : Plain). record x { states = set_at c DataWait x.states; hands = v.hands }) none_is
      ∙ ap (λ (f : ℕ → State). record w { states = f; hands = v.hands }) (set_at_again c DataWait DataWait w.states)

  pub none_resumes : Resumes c w v
  none_resumes = record {
    events = event.more (event.ask a) (event.more (event.fetch f) (event.more (event.yield_as y) (one (event.release r))));
    rest = ends_rest c DataWait n o v none_alone none_owes y r;
    stays = stays_by w v (ap (λ (x : Plain). x.routes) none_same) (ap (λ (x : Plain). x.counts) none_same) (ap (λ (x : Plain). x.stop) none_same) (ap (λ (x : Plain). x.closing) none_same) (ap (λ (x : Plain). x.raised) none_same) (ap (λ (x : Plain). x.clock) none_same)
        (ap (λ (x : Plain). played_of x.routes x.tape) none_same);
    turn = inr (inr record { same = none_same; none_held = a.none_held });
    ended = λ is. absurd (true≢false (sym is ∙ calm));
    hears = λ k. same_hears w v (ap (λ (x : Plain). x.arrivals) none_same) k;
    keeps = λ k apart. ends_keep c DataWait w w v none_same k apart (same_keeps k w w record { arrivals = refl; states = refl; spent = refl; unsent = refl });
  }
