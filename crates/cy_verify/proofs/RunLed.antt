-- What a lawful run shows of each component, and how it leads it from the beginning.
use Rattle.std.proofs.Common.{ℕ, zero, suc, ◌+◌, ◌≡◌, ◌≤◌, ◌<◌, Bool, true, false, refl, sym, ◌∙◌, ap, inl, inr, arith, List, [], ◌∷◌, ◌++◌, length, subst, take, map, sum, Some, None, Option, slice_get}
use Rattle.std.proofs.lemmas.Option.{slice_get_within}
use Rattle.cy_msg.specs.declared.token.Token.{Token}
use Rattle.cy_msg.specs.declared.stop.Stop.{Stop}
use Rattle.cy_msg.specs.Tokens.{on_channel}
use Rattle.cy_fuse.specs.Fusion.{Arrival, fused}
use Rattle.cy_fuse.specs.Fetch.{fetch}
use Rattle.cy_comp.specs.declared.plan.Plan.{Plan}
use Rattle.cy_comp.specs.declared.state.State.{State}
use Rattle.cy_comp.specs.declared.state.State.TheVariants.{Ready, DataWait, Sleep, Finished}
use Rattle.cy_comp.specs.Calls.{cursor_after, last_outcome, is_last, outs}
use Rattle.wake_core.specs.declared.route.Route.{Route}
use Rattle.wake_core.specs.declared.phase.Hand.{Hand}
use Rattle.wake_core.specs.Events.{is_finished}
use Rattle.wake_core.specs.LawfulRun.{LawfulRun}
use Rattle.wake_core.specs.Plain.{Plain, found_by, last_of, lists_reader, made_of, reads, stops, tail_at, taped_of}
use Rattle.wake_core.specs.Planned.{planned_count}
use Rattle.wake_core.specs.Sound.{NotRunning}
use Rattle.wake_core.proofs.Cited.{arrived_few}
use Rattle.wake_core.specs.Rest.{run_shown}
use Rattle.wake_core.specs.Run.{routes_of}
use Rattle.cy_trace.specs.TraceOfRun.{trace_component, trace_components}
use Rattle.cy_trace.specs.declared.trace.Trace.{Trace}
use Rattle.cy_trace.specs.declared.trace.TraceComponent.{TraceComponent}
use Rattle.cy_verify.specs.declared.follower.Follower.{Follower}
use Rattle.cy_verify.specs.private.Leading.{Ended, IsRun, Leads}
use Rattle.cy_verify.specs.private.Led.{ended_in, AreLed}
use Rattle.cy_verify.specs.private.Walking.{AreOf, IsFresh, names_it}
use Rattle.cy_verify.specs.Verdict.{Task, IsTold}
use Rattle.cy_verify.proofs.OutputLed.{leads_on}
use Rattle.cy_verify.proofs.RoomFor.{room_for}

taken_all : {X : Type 0} (xs : List X) (n : ℕ) → length xs ≤ n → take n xs ≡ xs
taken_all [] zero l = refl
taken_all [] (suc n) l = refl
taken_all (y ∷ xs) zero l = absurd (omega (arith, l))
taken_all (y ∷ xs) (suc n) l = ap (λ k. y ∷ k) (taken_all xs n (omega (arith, l)))

finished_is : (s : State) → is_finished s ≡ true → s ≡ Finished
finished_is Ready e = cc
finished_is DataWait e = cc
finished_is (Sleep until) e = cc
finished_is Finished e = refl

wrong : {b : Bool} → b ≡ true → b ≡ false → ⊥
wrong e n = cc

unstopped : (stop : Option Stop) (raised : Bool) (c : ℕ) → names_it stop c ≡ false → stops stop raised c ≡ false
unstopped None raised c e = refl
unstopped (Some s) true c e = e
unstopped (Some s) false c e = refl

abbrev pub told_in : Plan → Plain → ℕ → TraceComponent
told_in p w c = trace_component p (w.arrivals c) (w.calls c) (is_finished (w.states c))

one : {X : Type 0} {a b : X} → Some a ≡ Some b → a ≡ b
one e = cc

module _ (tokens : List Token) (routes : List Route) (stop : Option Stop) (w : Plain) (run : LawfulRun tokens routes stop w) (c : ℕ) (x : Route) (at' : slice_get routes c ≡ Some x) where
  at : slice_get w.routes c ≡ Some x
  at = ap (λ l. slice_get l c) run.wired ∙ at'

  inside : c < length w.routes
  inside = slice_get_within w.routes c x at

  not_running : NotRunning w.hands c
  not_running p e = none_some (sym (run.quiet.free p) ∙ e)
    where
      none_some : {h : Hand} → None ≡ Some h → ⊥
      none_some e = cc

  reading : (j channel : ℕ) → slice_get x.readers j ≡ Some channel → reads w.routes c j ≡ Some channel
  reading j channel is = rw at is

  known : (n : ℕ) (a : Arrival) → slice_get (w.arrivals c) n ≡ Some a → a.0 < length x.readers
  known n a e = by (slice_get x.readers a.0) refl
    where
      by : (o : Option ℕ) → slice_get x.readers a.0 ≡ o → a.0 < length x.readers
      by None is = absurd (run.sound.consistent.delivered.known c n a e (rw at is))
      by (Some channel) is = slice_get_within x.readers a.0 channel is

  all_sent : length (outs x.out (w.calls c)) ≤ length (on_channel x.out w.tape)
  all_sent = not_less (λ l. elim (run.quiet.ends c inside) [
    | inl e ↦ run.sound.consistent.held.unended c l not_running e
    | inr e ↦ run.sound.consistent.held.resting c l not_running e.0
  ])
    where
      go : (length (on_channel x.out w.tape) < length (outs x.out (w.calls c)) → ⊥) → length (outs x.out (w.calls c)) ≤ length (on_channel x.out w.tape)
      go n = omega (arith, n)

      not_less : (taped_of w.routes w.tape c < made_of w.routes w.calls c → ⊥) → length (outs x.out (w.calls c)) ≤ length (on_channel x.out w.tape)
      not_less n = go (rw at at n)

  last_is : last_of w.routes w.calls c ≡ last_outcome x.kind (w.calls c)
  last_is = rw at refl

  finds : found_by w c ≡ fetch (w.cursors c) (tail_at x w c) x.queue x.overflow
  finds = rw at refl

  waits : is_finished (w.states c) ≡ false → fetch (cursor_after (w.calls c)) (length (fused (w.arrivals c) (length x.readers))) x.queue x.overflow ≡ None
  waits e = elim (run.quiet.ends c inside) [
    | inl f ↦ absurd (wrong (ap is_finished f) e)
    | inr f ↦ ap (λ i. fetch i (tail_at x w c) x.queue x.overflow) (sym (run.sound.consistent.called.cursor c x at)) ∙ sym finds ∙ f.1
  ]

  -- A lawful run is one of each component.
  pub run_is : (p : Plan) → IsRun x (told_in p w c) (names_it stop c) (ended_in w c)
  run_is p = record {
    lawful = record {
      lawful = run.sound.consistent.called.lawful c x at;
      before = λ n call t i out on k tuple l item j m of. run.sound.consistent.causal.before c x n call t i at out on k tuple l item j m of;
      own = λ n call made. run.sound.consistent.causal.own c x n call at made;
    };
    whole = λ j channel is. run.sound.consistent.delivered.whole c j channel (reading j channel is) (λ q. ap (lists_reader c j) (run.quiet.owes q).filled);
    known = known;
    numbered = run.sound.consistent.delivered.numbered;
    sent = run.sound.consistent.delivered.history c x at ∙ taken_all (outs x.out (w.calls c)) (length (on_channel x.out w.tape)) all_sent;
    roles_told = refl;
    calls_told = refl;
    next = refl;
    finished = λ e n. ap is_last (sym last_is) ∙ run.sound.consistent.held.finished c (finished_is (w.states c) e) (ap (λ s. stops s w.raised c) run.given ∙ unstopped stop w.raised c n);
    ended = λ e. ap is_finished (run.sound.consistent.held.ended c (ap is_last last_is ∙ e) not_running);
    waits = waits;
  }

  -- No more came than can come.
  pub arrivals_few : length (w.arrivals c) ≤ sum (map (planned_count w.routes w.counts) x.readers)
  arrivals_few = room_for (planned_count w.routes w.counts) x.readers (w.arrivals c) known (λ j channel is. arrived_few w c j channel (reading j channel is) run.sound.consistent)

none_fused : (k : ℕ) → length (fused [] k) ≡ 0
unfolding fused
none_fused k = refl

-- A component to which nothing came is led by any run.
pub leads_first : (x : Route) (told : TraceComponent) (stopped : Bool) (r : Ended) (f : Follower) → IsRun x told stopped r → IsFresh f → length r.arrivals ≤ length f.visitor.arrivals + f.visitor.spare → Leads x told stopped r f []
leads_first x told stopped r f run fresh room = record {
  run = run;
  begins = refl;
  came = fresh.arrivals ∙ ap (λ (us : List Arrival). take (length us) r.arrivals) (sym fresh.arrivals);
  made = fresh.calls ∙ ap (λ cs. take (length cs) r.calls) (sym fresh.calls);
  tails = let none = ap (λ (us : List Arrival). length (fused us (length x.readers))) fresh.arrivals in omega (arith, none, none_fused (length x.readers));
  room = room;
}

told_of : (w : Plain) (first : ℕ) (plans : List Plan) (c : ℕ) (told : TraceComponent) → slice_get (trace_components (run_shown w) first plans) c ≡ Some told → (p : Plan) × (told ≡ told_in p w (first + c))
told_of w first [] c told e = cc
told_of w first (p ∷ plans) zero told e = let here : first ≡ first + 0 = omega arith in (p, sym (one e) ∙ ap (told_in p w) here)
told_of w first (p ∷ plans) (suc c) told e =
    let rest = told_of w (first + 1) plans c told e in
    let there : first + 1 + c ≡ first + suc c = omega arith in
    (rest.0, rest.1 ∙ ap (told_in rest.0 w) there)

-- Where a trace is that of a lawful run, that is one of what the trace tells of each component, ..
pub told_run : (t : Task) (trace : Trace) (w : Plain) → IsTold t trace w → (c : ℕ) (x : Route) (told : TraceComponent) → slice_get (routes_of t.plans) c ≡ Some x → slice_get trace.components c ≡ Some told
    → IsRun x told (names_it t.stop c) (ended_in w c)
told_run t trace w h c x told at on =
    let p = told_of w 0 t.plans c told (ap (λ (u : Trace). slice_get u.components c) (sym h.told) ∙ on) in
    let same : 0 + c ≡ c = omega arith in
    subst (λ (u : TraceComponent). IsRun x u (names_it t.stop c) (ended_in w c)) (sym (p.1 ∙ ap (told_in p.0 w) same)) (run_is t.tokens (routes_of t.plans) t.stop w h.lawful c x at p.0)

-- .. and no more came to it than can come.
pub told_few : (t : Task) (trace : Trace) (w : Plain) → IsTold t trace w → (c : ℕ) (x : Route) → slice_get (routes_of t.plans) c ≡ Some x → length (w.arrivals c) ≤ sum (map (planned_count (routes_of t.plans) t.counts) x.readers)
told_few t trace w h c x at =
    let few = arrivals_few t.tokens (routes_of t.plans) t.stop w h.lawful c x at in
    subst (λ (n : List ℕ). length (w.arrivals c) ≤ sum (map (planned_count (routes_of t.plans) n) x.readers)) h.counts
    (subst (λ (rs : List Route). length (w.arrivals c) ≤ sum (map (planned_count rs w.counts) x.readers)) h.lawful.wired few)

-- Each component is led, from the beginning on.
pub are_led_first : (t : Task) (trace : Trace) (w : Plain) (followers : List Follower) → IsTold t trace w → AreOf t followers → ((c : ℕ) (f : Follower) → slice_get followers c ≡ Some f → IsFresh f)
    → AreLed t w trace.components followers []
are_led_first t trace w followers h are fresh c x component f at on there =
    let few = told_few t trace w h c x at in
    let room = are.roomy c x f at there in
    leads_first x component (names_it t.stop c) (ended_in w c) f (told_run t trace w h c x component at on) (fresh c f there) (omega (arith, few, room))

-- A message comes onto the tape that is another component's, or is played.
pub are_led_on : (t : Task) (w : Plain) (told : List TraceComponent) (followers : List Follower) (tape : List Token) (m : Token) → slice_get w.tape (length tape) ≡ Some m
    → AreLed t w told followers tape → AreLed t w told followers (tape ++ m ∷ [])
are_led_on t w told followers tape m next led c x component f at on there = leads_on x component (names_it t.stop c) (ended_in w c) tape m f (led c x component f at on there) next
