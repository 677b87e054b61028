-- The world of a walk that was followed to its end is that of a lawful run.
use Rattle.std.proofs.Common.{ℕ, ◌-◌, ◌≡◌, ◌≢◌, ◌⊎◌, ◌≤◌, ◌<◌, Bool, true, false, refl, sym, ◌∙◌, ap, ap₂, subst, inl, inr, arith, List, [], length, take, Some, None, Option, slice_get, option_and_then, is_some, le_trans}
use Rattle.std.specs.Option.{option_map_or}
use Rattle.std.proofs.Math.Seq.{take-length}
use Rattle.std.proofs.lemmas.List.{drop_all}
use Rattle.cy_msg.specs.declared.token.Token.{Token}
use Rattle.cy_msg.specs.declared.token.Tuple.{Tuple}
use Rattle.cy_msg.specs.Tokens.{on_channel, IsTimed}
use Rattle.cy_msg.proofs.Lists.{there}
use Rattle.cy_fuse.specs.Fusion.{Arrival, fused}
use Rattle.cy_fuse.specs.Fetch.{fetch}
use Rattle.cy_fuse.specs.Laws.{FetchesFind}
use Rattle.cy_comp.specs.Laws.{OutcomesAreAnswers}
use Rattle.cy_comp.specs.declared.kind.Kind.{Kind}
use Rattle.cy_comp.specs.declared.call.Call.{Call}
use Rattle.cy_comp.specs.declared.call.Out.{Out}
use Rattle.cy_comp.specs.declared.call.Outcome.{Outcome}
use Rattle.cy_comp.specs.declared.call.Outcome.TheVariants.{Emit, Hold, Last}
use Rattle.cy_comp.specs.Step.{outcome_after, out_of}
use Rattle.cy_comp.specs.Calls.{cursor_after, tuples_of, last_outcome, held_until, is_last, outs}
use Rattle.wake_core.specs.declared.route.Route.{Route}
use Rattle.wake_core.specs.Run.{routes_of, played_of, readers_of}
use Rattle.wake_core.specs.Serial.{last_clock}
use Rattle.wake_core.specs.Fields.{read}
use Rattle.wake_core.specs.Planned.{planned_count, first_reader}
use Rattle.wake_core.specs.Plain.{Plain, Stop, Ready, DataWait, Sleep, Finished, blank, stops, reads, of_role, last_of, made_of, taped_of, tail_at, found_by}
use Rattle.wake_core.specs.Sound.{HeldIn, Called, Delivered, Causal, Room, Wakes, Timely, Obedient, Sound, IsOutput}
use Rattle.wake_core.specs.LawfulRun.{Quiet, LawfulRun}
use Rattle.wake_core.specs.Rest.{IsToPlay}
use Rattle.wake_core.proofs.Cited.{read_within_equal, held_so, to_play_total, outs_take}
use Rattle.cy_trace.specs.declared.trace.TraceComponent.{TraceComponent}
use Rattle.cy_verify.specs.Verdict.{Task}
use Rattle.cy_verify.specs.declared.walk.Walk.{Walk}
use Rattle.cy_verify.specs.private.Walking.{names_it}
use Rattle.cy_verify.specs.private.Ending.{IsWhole, world_in}
use Rattle.cy_verify.proofs.CallMade.{calls_on}
use Rattle.cy_verify.proofs.Walked.{some_one}
use Rattle.cy_verify.proofs.WorldEnded.{IsAt, ended_as, at_route, past_ready, past_arrivals}

none_some : {X : Type 0} {x : X} → None ≡ Some x → ⊥
none_some e = cc

true_false : true ≡ false → ⊥
true_false e = cc

-- A stop that is raised where there is one stops the component that it names.
stops_named : (o : Option Stop) (c : ℕ) → stops o (is_some o) c ≡ names_it o c
stops_named None c = refl
stops_named (Some s) c = refl

-- An output that was held back has a time that the greatest value of the clock is past.
held_below : OutcomesAreAnswers → (k : Kind) (earlier : List Tuple) (tuple : Tuple) (out : Out) → Some out ≡ out_of (outcome_after k earlier tuple) → held_until (Some (outcome_after k earlier tuple)) ≢ None → out.time < last_clock
held_below answers k earlier tuple out e some = by (outcome_after k earlier tuple) refl e some
  where
    by : (o : Outcome) → outcome_after k earlier tuple ≡ o → Some out ≡ out_of o → held_until (Some o) ≢ None → out.time < last_clock
    by (Emit x) is e some = absurd (some refl)
    by (Hold until x) is e some =
        let s = held_so answers k earlier tuple until x is in
        let same : out.time ≡ x.time = ap (λ (o : Out). o.time) (some_one e) in
        let time = s.time in
        let wakes = s.wakes in
        omega (arith, same, time, wakes)
    by (Last x) is e some = absurd (some refl)

module _ (law : FetchesFind) (answers : OutcomesAreAnswers) (t : Task) (told : List TraceComponent) (w : Walk) (h : IsWhole t told w) where
  abbrev routes : List Route
  routes = routes_of t.plans

  abbrev tape : List Token
  tape = w.tape.items

  abbrev world : Plain
  world = world_in t w

  one_at : (c : ℕ) (x : Route) → slice_get routes c ≡ Some x → IsAt told (names_it t.stop c) w.followers.items tape c x
  one_at c x at = at_route t told w h.many h.walked c x at

  -- A number is a component's, or is none.
  side : (c : ℕ) → (slice_get routes c ≡ None) ⊎ ((x : Route) × (slice_get routes c ≡ Some x))
  side c = by (slice_get routes c) refl
    where
      by : (o : Option Route) → slice_get routes c ≡ o → (slice_get routes c ≡ None) ⊎ ((x : Route) × (slice_get routes c ≡ Some x))
      by None e = inl e
      by (Some x) e = inr (x, e)

  pub exact : played_of routes tape ≡ t.tokens
  exact = h.walked.taped.its ∙ ap (λ n. take n t.tokens) h.played ∙ take-length t.tokens

  -- All outputs are sent.
  pub all_sent : (c : ℕ) (x : Route) → slice_get routes c ≡ Some x → on_channel x.out tape ≡ outs x.out (world.calls c)
  all_sent c x at = let i = one_at c x at in i.ended.follows.sent ∙ ap (outs x.out) (sym i.calls)

  pub none_unsent : (c : ℕ) → taped_of routes tape c ≡ made_of routes world.calls c
  none_unsent c = by (slice_get routes c) refl
    where
      by : (o : Option Route) → slice_get routes c ≡ o → length (option_map_or (λ (x : Route). on_channel x.out tape) o []) ≡ length (option_map_or (λ (x : Route). outs x.out (world.calls c)) o [])
      by None e = refl
      by (Some x) e = ap length (all_sent c x e)

  no_less : (c : ℕ) → taped_of routes tape c < made_of routes world.calls c → ⊥
  no_less c l = let e = none_unsent c in omega (arith, e, l)

  last_is : (c : ℕ) (x : Route) (at : slice_get routes c ≡ Some x) → is_last (last_of routes world.calls c) ≡ (one_at c x at).follower.ended
  last_is c x at =
      let i = one_at c x at in
      ap (λ (o : Option Route). is_last (option_and_then (λ (x : Route). last_outcome x.kind (world.calls c)) o)) at
      ∙ ap (λ (cs : List Call). is_last (last_outcome x.kind cs)) i.calls ∙ sym i.ended.follows.ended

  none_last : (c : ℕ) → slice_get routes c ≡ None → is_last (last_of routes world.calls c) ≡ false
  none_last c none = ap (λ (o : Option Route). is_last (option_and_then (λ (x : Route). last_outcome x.kind (world.calls c)) o)) none

  awake : (c u : ℕ) → world.states c ≡ Sleep u → ⊥
  awake c u e = elim (side c) [
    | inl none ↦ no (sym (past_ready t told w h.many h.walked c none) ∙ e)
    | inr b ↦ let i = one_at c b.0 b.1 in elim (ended_as i.ended) [
      | inl s ↦ no' (sym s.1 ∙ sym i.states ∙ e)
      | inr s ↦ no'' (sym s.1 ∙ sym i.states ∙ e)
    ]
  ]
    where
      no : Ready ≡ Sleep u → ⊥
      no e = cc

      no' : Finished ≡ Sleep u → ⊥
      no' e = cc

      no'' : DataWait ≡ Sleep u → ⊥
      no'' e = cc

  finished_last : (c : ℕ) → world.states c ≡ Finished → stops t.stop (is_some t.stop) c ≡ false → is_last (last_of routes world.calls c) ≡ true
  finished_last c e free = elim (side c) [
    | inl none ↦ absurd (no (sym (past_ready t told w h.many h.walked c none) ∙ e))
    | inr b ↦ let i = one_at c b.0 b.1 in elim (ended_as i.ended) [
      | inl s ↦ last_is c b.0 b.1 ∙ i.ended.finished s.0 (sym (stops_named t.stop c) ∙ free)
      | inr s ↦ absurd (no' (sym s.1 ∙ sym i.states ∙ e))
    ]
  ]
    where
      no : Ready ≡ Finished → ⊥
      no e = cc

      no' : DataWait ≡ Finished → ⊥
      no' e = cc

  last_finished : (c : ℕ) → is_last (last_of routes world.calls c) ≡ true → world.states c ≡ Finished
  last_finished c e = elim (side c) [
    | inl none ↦ absurd (true_false (sym e ∙ none_last c none))
    | inr b ↦ let i = one_at c b.0 b.1 in elim (ended_as i.ended) [
      | inl s ↦ i.states ∙ s.1
      | inr s ↦ absurd (true_false (sym e ∙ last_is c b.0 b.1 ∙ i.ended.waits s.0))
    ]
  ]

  held : HeldIn world
  held = record {
    known = λ p c f e. absurd (none_some e);
    one = λ c p q f g e e'. absurd (none_some e);
    phased = λ p c f s e is. absurd (none_some e);
    stopping = λ p c f e is. absurd (none_some e);
    sleeps = λ c u e. absurd (awake c u e);
    asleep = λ c u e. absurd (awake c u e);
    finished = finished_last;
    ended = λ c e free. last_finished c e;
    called = λ p c e. absurd (none_some e);
    holds = λ p c u e is. absurd (none_some e);
    few = λ c. let e = none_unsent c in omega (arith, e);
    held_back = λ c l free. absurd (no_less c l);
    resting = λ c l free. absurd (no_less c l);
    unended = λ c l free. absurd (no_less c l);
  }

  called : Called routes world.arrivals world.calls world.cursors
  called = record {
    lawful = λ c x at. let i = one_at c x at in rw (i.arrivals, i.calls) i.ended.follows.lawful.lawful;
    cursor = λ c x at. refl;
  }

  reads_at : (v j channel : ℕ) → reads routes v j ≡ Some channel → (x : Route) × (slice_get routes v ≡ Some x) × (slice_get x.readers j ≡ Some channel)
  reads_at v j channel e = by (slice_get routes v) refl e
    where
      by : (o : Option Route) → slice_get routes v ≡ o → option_and_then (λ (x : Route). slice_get x.readers j) o ≡ Some channel → (x : Route) × (slice_get routes v ≡ Some x) × (slice_get x.readers j ≡ Some channel)
      by None at e = absurd (none_some e)
      by (Some x) at e = (x, at, e)

  whole : (v j channel : ℕ) → reads routes v j ≡ Some channel → of_role j (world.arrivals v) ≡ on_channel channel tape
  whole v j channel e =
      let r = reads_at v j channel e in
      let i = one_at v r.0 r.1 in
      ap (of_role j) i.arrivals ∙ i.ended.whole j channel r.2

  arrived_known : (v n : ℕ) (a : Arrival) → slice_get (world.arrivals v) n ≡ Some a → reads routes v a.0 ≢ None
  arrived_known v n a e = elim (side v) [
    | inl none ↦ absurd (none_some (ap (λ (came : List Arrival). slice_get came n) (sym (past_arrivals t told w h.many h.walked v none)) ∙ e))
    | inr b ↦
        let i = one_at v b.0 b.1 in
        let l = i.ended.follows.searched.roles n a (ap (λ (came : List Arrival). slice_get came n) (sym i.arrivals) ∙ e) in
        let r = there b.0.readers a.0 l in
        λ none. none_some (sym none ∙ ap (λ (o : Option Route). option_and_then (λ (x : Route). slice_get x.readers a.0) o) b.1 ∙ r.1)
  ]

  delivered : Delivered routes world.hands world.calls world.arrivals world.fills world.news world.clearing world.tokens tape
  delivered = record {
    begins = λ v j channel e. let all = whole v j channel e in
        sym (take-length (of_role j (world.arrivals v))) ∙ ap (take (length (of_role j (world.arrivals v)))) all;
    whole = λ v j channel e filled. whole v j channel e;
    owed = λ p v j e. absurd (true_false (sym e));
    known = arrived_known;
    numbered = h.walked.taped.numbered;
    history = λ c x at. let all = all_sent c x at in sym (take-length (on_channel x.out tape)) ∙ ap (take (length (on_channel x.out tape))) all;
    but_last = λ c x at.
        let calls = world.calls c in
        let less = outs_take x.out calls (length calls - 1) (length calls) (omega arith) in
        let all : length (on_channel x.out tape) ≡ length (outs x.out calls) = ap length (all_sent c x at) in
        let same : length (outs x.out (take (length calls) calls)) ≡ length (outs x.out calls) = ap (λ (l : List Call). length (outs x.out l)) (take-length calls) in
        omega (arith, less, all, same);
    suffix = λ p. let readers = readers_of routes blank.channel in drop_all (length readers - 0) readers (omega arith);
    player = λ p some none. absurd (some refl);
    holder = λ p c some e. absurd (some refl);
    told = λ p v e. absurd (true_false (sym e));
    looked = λ p v e. absurd (true_false (sym e));
  }

  causal : Causal routes world.arrivals world.calls tape
  causal = record {
    before = λ c x n call m i at out is k tuple l item j m' of.
        let a = one_at c x at in
        a.ended.follows.lawful.before n call m i (subst (λ (cs : List Call). IsOutput x cs n call m) a.calls out) is k tuple l
        (ap (λ (came : List Arrival). slice_get (fused came (length x.readers)) k) (sym a.arrivals) ∙ item) j m' of;
    own = λ c x n call at made.
        let a = one_at c x at in
        ap (λ (came : List Arrival). slice_get (take call.tail (fused came (length x.readers))) (call.position - 1)) a.arrivals
        ∙ a.ended.follows.lawful.own n call (ap (λ (cs : List Call). slice_get cs n) (sym a.calls) ∙ made);
  }

  room : Room routes t.counts world.calls tape
  room = record {
    taped = h.walked.taped.room;
    called = λ c x at.
        let i = one_at c x at in
        let f = i.ended.follows in
        let few = calls_on law x i.follower.visitor.arrivals i.follower.searched i.follower.routine.calls tape i.may.some_reader f.searched f.lawful in
        subst (λ (cs : List Call). length cs ≤ planned_count routes t.counts (first_reader x)) (sym i.calls) (le_trans few (h.walked.taped.room (first_reader x)));
    channels = h.walked.taped.channels;
  }

  none_found : (c : ℕ) (x : Route) (at : slice_get routes c ≡ Some x) → (one_at c x at).component.finished ≡ false → found_by world c ≡ None
  none_found c x at e =
      let i = one_at c x at in
      ap (λ (o : Option Route). option_and_then (λ (x : Route). fetch (world.cursors c) (tail_at x world c) x.queue x.overflow) o) at
      ∙ ap₂ (λ (cs : List Call) (came : List Arrival). fetch (cursor_after cs) (length (fused came (length x.readers))) x.queue x.overflow) i.calls i.arrivals
      ∙ i.ended.found e

  wakes : Wakes world.hands world.states world.spent (found_by world) world.news world.clearing
  wakes = record {
    none_lost = λ c spent found untold waits free. elim (side c) [
      | inl none ↦ no (sym (past_ready t told w h.many h.walked c none) ∙ waits)
      | inr b ↦ let i = one_at c b.0 b.1 in elim (ended_as i.ended) [
        | inl s ↦ no' (sym s.1 ∙ sym i.states ∙ waits)
        | inr s ↦ found (none_found c b.0 b.1 s.0)
      ]
    ];
  }
    where
      no : Ready ≡ DataWait → ⊥
      no e = cc

      no' : Finished ≡ DataWait → ⊥
      no' e = cc

  timely : Timely routes world.states world.calls tape last_clock
  timely = record {
    rises = subst IsTimed (sym exact) h.timed;
    past = λ n m e. h.long n m (sym (ap (λ (l : List Token). slice_get l n) exact) ∙ e);
    awake = λ c u ready l until. absurd (no_less c l);
    over = λ c x n call m i at out was is.
        let a = one_at c x at in
        let made = ap (λ (cs : List Call). slice_get cs n) (sym a.calls) ∙ out.made in
        let puts = a.ended.follows.lawful.lawful.outputs n call made in
        let earlier = tuples_of (take n (world.calls c)) in
        let below = held_below answers x.kind earlier call.tuple out.out
        (sym out.some ∙ puts ∙ ap (λ (cs : List Call). out_of (outcome_after x.kind (tuples_of (take n cs)) call.tuple)) (sym a.calls)) was in
        subst (λ (s : Token). s.time < last_clock) (sym out.token) below;
    later = h.later;
  }

  obedient : Obedient routes t.stop (is_some t.stop) world.hands world.calls tape
  obedient = record {
    given = λ up none. true_false (sym up ∙ ap is_some none);
    few = λ s e down. absurd (true_false (sym (ap is_some e) ∙ down));
    one = λ s e up l m n x y at_m at_n late_m late_n. h.obeyed s e m n x y at_m at_n late_m late_n;
    none_yet = λ s e up p n f x held asks at late. none_some held;
  }

  pub sound : Sound world
  sound = record {
    consistent = record {
      wired = h.walked.known.wired;
      held = held;
      called = called;
      delivered = delivered;
      causal = causal;
      room = room;
    };
    wakes = wakes;
    timely = timely;
    obedient = obedient;
  }

  to_play_all : IsToPlay world t.tokens
  to_play_all = record { counted = h.may.made.counted; unwritten = h.may.made.unwritten }

  ends : (c : ℕ) → c < length routes → (world.states c ≡ Finished) ⊎ ((world.states c ≡ DataWait) × (found_by world c ≡ None))
  ends c l =
      let r = there routes c l in
      let i = one_at c r.0 r.1 in
      elim (ended_as i.ended) [
        | inl s ↦ inl (i.states ∙ s.1)
        | inr s ↦ inr (i.states ∙ s.1, none_found c r.0 r.1 s.0)
      ]

  pub quiet : Quiet world
  quiet = record {
    played = ap length exact ∙ sym (to_play_total world t.tokens to_play_all);
    raised = λ s e. ap is_some e;
    free = λ p. refl;
    owes = λ p. record { filled = refl; looked = refl; cleared = refl };
    clock = refl;
    spent = λ c l. ap (λ (bs : List Bool). read (λ (b : Bool). b) true bs c) h.walked.spent ∙ read_within_equal true true (length routes) c l;
    ends = ends;
  }

  -- The world of the walk is that of a lawful run.
  pub whole_lawful : LawfulRun t.tokens routes t.stop world
  whole_lawful = record { wired = refl; given = refl; sound = sound; quiet = quiet; exact = exact }
