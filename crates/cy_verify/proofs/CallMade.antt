-- What a call more keeps of a component that is followed.
use Rattle.std.proofs.Common.{ℕ, zero, suc, ◌+◌, ◌-◌, ◌≡◌, ◌≤◌, ◌<◌, Bool, true, false, refl, sym, ◌∙◌, ap, subst, inl, inr, arith, List, [], ◌∷◌, ◌++◌, length, take, map, Some, None, Option, slice_get, filter, cond, slice_index, ◌==◌, option_map, option_and_then, is_some, if◌then◌else◌, nat_le, min, max, length-append}
use Rattle.std.proofs.lemmas.Bool.Decides.{nat_tests}
use Rattle.std.proofs.Math.Seq.{take-length}
use Rattle.cy_msg.specs.declared.token.Token.{Token}
use Rattle.cy_msg.specs.declared.token.Tuple.{Tuple}
use Rattle.cy_msg.specs.Tuple.{messages_of}
use Rattle.cy_msg.specs.Tokens.{on_channel, IsNumbered}
use Rattle.cy_msg.proofs.Lists.{get_snoc, take_next, there}
use Rattle.cy_fuse.specs.declared.overflow.Overflow.{Overflow}
use Rattle.cy_fuse.specs.Fusion.{Arrival, fused}
use Rattle.cy_fuse.specs.Fetch.{fetch}
use Rattle.cy_fuse.specs.Laws.{FetchesFind}
use Rattle.cy_fuse.specs.Visitor.{VisitorView, visited, tuples_at, position_at}
use Rattle.cy_comp.specs.declared.call.Call.{Call}
use Rattle.cy_comp.specs.declared.call.Out.{Out}
use Rattle.cy_comp.specs.Step.{outcome_after, out_of}
use Rattle.cy_comp.specs.Calls.{cursor_after, tuples_of, last_outcome, is_last, outs_after, outs, output, numbered}
use Rattle.cy_comp.specs.Routine.{RoutineView, MayTake, answer_to, taken}
use Rattle.wake_core.specs.declared.route.Route.{Route}
use Rattle.wake_core.specs.Planned.{first_reader}
use Rattle.wake_core.specs.Plain.{of_role}
use Rattle.wake_core.proofs.Cited.{outs_few, last_push, tail_bounded, calls_below, position_rises, fused_few, IsNextCall, lawful_call, earlier_output}
use Rattle.cy_trace.specs.TraceOfRun.{output_of_call, trace_call, trace_calls}
use Rattle.cy_trace.specs.declared.trace.TraceCall.{TraceCall}
use Rattle.cy_trace.specs.declared.trace.TraceComponent.{TraceComponent}
use Rattle.cy_verify.specs.declared.follower.Follower.{Follower}
use Rattle.cy_trace.specs.declared.trace.TraceOutput.{TraceOutput}
use Rattle.cy_verify.specs.private.Following.{MayFollow, IsSearched, IsLawful, Follows, HasCalled, Stays, Listens}
use Rattle.cy_verify.proofs.Heard.{may_further}

-- What a visitor answers to a fetch that finds something.
pub record IsFound (index : ℕ) (v : VisitorView) (tuple : Tuple) (position tail : ℕ) : Type 0 where
  pub found : position_at index v ≡ Some position
  pub at : slice_get (tuples_at v) (position - 1) ≡ Some tuple
  pub whole : tail ≡ length (tuples_at v)

pub visited_found : (index : ℕ) (v : VisitorView) (tuple : Tuple) (position tail : ℕ) → visited index v ≡ Some (tuple, position, tail) → IsFound index v tuple position tail
visited_found index v tuple position tail e = by (position_at index v) refl e
  where
    by : (o : Option ℕ) → position_at index v ≡ o
        → option_and_then (λ (n : ℕ). option_map {U = Tuple × ℕ × ℕ} (λ (t : Tuple). (t, n, length (tuples_at v))) (slice_get (tuples_at v) (n - 1))) o ≡ Some (tuple, position, tail) → IsFound index v tuple position tail
    by None is e = cc
    by (Some n) is e = at (slice_get (tuples_at v) (n - 1)) refl e
      where
        one : {a b : Tuple × ℕ × ℕ} → Some a ≡ Some b → a ≡ b
        one e = cc

        at : (o : Option Tuple) → slice_get (tuples_at v) (n - 1) ≡ o → option_map {U = Tuple × ℕ × ℕ} (λ (t : Tuple). (t, n, length (tuples_at v))) o ≡ Some (tuple, position, tail) → IsFound index v tuple position tail
        at None is' e = cc
        at (Some t) is' e =
            let p = one e in
            record {
              found = is ∙ ap (λ (q : Tuple × ℕ × ℕ). Some q.1) p;
              at = ap (λ (q : Tuple × ℕ × ℕ). slice_get (tuples_at v) (q.1 - 1)) (sym p) ∙ is' ∙ ap (λ (q : Tuple × ℕ × ℕ). Some q.0) p;
              whole = ap (λ (q : Tuple × ℕ × ℕ). q.2) (sym p);
            }

-- A buffer that keeps as many items as ever come answers as one that keeps more.
pub same_ring : FetchesFind → (index tail queue few : ℕ) (o : Overflow) → 1 ≤ queue → tail ≤ few → fetch index tail (max 1 (min queue few)) o ≡ fetch index tail queue o
same_ring law index tail queue few o some l = by (nat_le queue few) refl
  where
    kept : nat_le queue few ≡ true → max 1 (min queue few) ≡ queue
    kept e = grind (arith, nat_tests, e)

    all : nat_le queue few ≡ false → tail ≤ queue
    all e = grind (arith, nat_tests, e)

    fits : nat_le queue few ≡ false → tail ≤ max 1 (min queue few)
    fits e = grind (arith, nat_tests, e)

    by : (b : Bool) → nat_le queue few ≡ b → fetch index tail (max 1 (min queue few)) o ≡ fetch index tail queue o
    by true e = ap (λ n. fetch index tail n o) (kept e)
    by false e = law.roomy index tail (max 1 (min queue few)) queue o (fits e) (all e)

pub shorter : {X : Type 0} (p : X → Bool) (n : ℕ) (xs : List X) → length (filter p (take n xs)) ≤ length (filter p xs)
shorter p zero xs = omega arith
shorter p (suc n) [] = omega arith
shorter p (suc n) (x ∷ xs) = by (shorter p n xs) (p x)
  where
    by : length (filter p (take n xs)) ≤ length (filter p xs) → (b : Bool) → length (cond b (x ∷ filter p (take n xs)) (filter p (take n xs))) ≤ length (cond b (x ∷ filter p xs) (filter p xs))
    by l true = omega (arith, l)
    by l false = l

-- No more tuples are fused at a component than messages stand on the channel that triggers it.
pub fused_on : (x : Route) (arrivals : List Arrival) (searched : List ℕ) (tape : List Token) → 1 ≤ length x.readers → IsSearched x arrivals searched tape → length (fused arrivals (length x.readers)) ≤ length (on_channel (first_reader x) tape)
fused_on x arrivals searched tape some s =
    let first = there x.readers 0 some in
    let is : first.0 ≡ first_reader x = index_is x.readers first.0 first.1 in
    let few : length (of_role 0 arrivals) ≤ length (on_channel (first_reader x) tape) =
    rw (s.heard 0 first.0 first.1, is) (shorter (λ (t : Token). t.channel == first_reader x) (slice_index searched 0) tape) in
    omega (arith, fused_few (length x.readers) arrivals, few)
  where
    index_is : (xs : List ℕ) (n : ℕ) → slice_get xs 0 ≡ Some n → n ≡ slice_index xs 0
    index_is [] n e = cc
    index_is (y ∷ xs) n e = cc

-- .. nor are there more calls.
pub calls_on : FetchesFind → (x : Route) (arrivals : List Arrival) (searched : List ℕ) (calls : List Call) (tape : List Token) → 1 ≤ length x.readers → IsSearched x arrivals searched tape → IsLawful x arrivals calls tape → length calls ≤ length (on_channel (first_reader x) tape)
calls_on law x arrivals searched calls tape some s l = by (length calls) refl
  where
    by : (n : ℕ) → length calls ≡ n → length calls ≤ length (on_channel (first_reader x) tape)
    by zero e = omega (arith, e)
    by (suc n) e =
        let y = there calls n (omega (arith, e)) in
        let below = position_rises law x arrivals calls l.lawful n y.0 y.1 in
        let b = (law.bounds (cursor_after (take n calls)) y.0.tail x.queue x.overflow y.0.position (l.lawful.positions n y.0 y.1)).to_tail in
        let t = l.lawful.tails_fused n y.0 y.1 in
        omega (arith, e, below, b, t, fused_on x arrivals searched tape some s)

pub fused_most : (x : Route) (f : Follower) (tape : List Token) (m : MayFollow x f tape) → IsSearched x f.visitor.arrivals f.searched tape → length (fused f.visitor.arrivals (length x.readers)) ≤ m.most
fused_most x f tape m s = omega (arith, fused_on x f.visitor.arrivals f.searched tape m.some_reader s, m.few)

-- What a fetch by a component that may be followed finds.
module _ (law : FetchesFind) (x : Route) (f : Follower) (tape : List Token) (m : MayFollow x f tape) (s : IsSearched x f.visitor.arrivals f.searched tape) (l : IsLawful x f.visitor.arrivals f.routine.calls tape)
    (tuple : Tuple) (position tail : ℕ) (is : IsFound (cursor_after f.routine.calls) f.visitor tuple position tail) where
  same_tuples : tuples_at f.visitor ≡ fused f.visitor.arrivals (length x.readers)
  same_tuples = ap (fused f.visitor.arrivals) m.its.roles

  -- It finds what the component's own queue says.
  pub its_position : fetch (cursor_after f.routine.calls) (length (fused f.visitor.arrivals (length x.readers))) x.queue x.overflow ≡ Some position
  its_position =
      sym (same_ring law (cursor_after f.routine.calls) (length (fused f.visitor.arrivals (length x.readers))) x.queue m.most x.overflow m.buffered (fused_most x f tape m s))
      ∙ ap (λ q. fetch (cursor_after f.routine.calls) (length (fused f.visitor.arrivals (length x.readers))) q x.overflow) (sym m.its.queue)
      ∙ ap (λ o. fetch (cursor_after f.routine.calls) (length (fused f.visitor.arrivals (length x.readers))) f.visitor.queue o) (sym m.its.overflow)
      ∙ ap (λ (n : ℕ). fetch (cursor_after f.routine.calls) (length (fused f.visitor.arrivals n)) f.visitor.queue f.visitor.overflow) (sym m.its.roles)
      ∙ is.found

  pub position_few : position ≤ m.most
  position_few =
      let b = law.bounds (cursor_after f.routine.calls) (length (fused f.visitor.arrivals (length x.readers))) x.queue x.overflow position its_position in
      omega (arith, b.to_tail, fused_most x f tape m s)

  pub calls_few : length f.routine.calls + 1 ≤ position
  calls_few =
      let b = law.bounds (cursor_after f.routine.calls) (length (fused f.visitor.arrivals (length x.readers))) x.queue x.overflow position its_position in
      omega (arith, b.from_index, b.from_one, calls_below law x f.visitor.arrivals f.routine.calls l.lawful)

  -- The tuple may be taken.
  pub may_take : f.routine.pending ≡ None → length (messages_of tuple) ≡ length x.readers → MayTake f.routine tuple position
  may_take none many = record {
    none_waits = none;
    room = omega (arith, position_few, calls_few, m.its.calls);
    in_range = omega (arith, position_few, m.limited);
    needed = rw (many, m.its.kind) m.needed;
  }

  -- The call that is made fits behind the others.
  pub next_is : is_last (last_outcome x.kind f.routine.calls) ≡ false → tail ≡ length (tuples_at f.visitor)
      → IsNextCall x f.visitor.arrivals f.routine.calls record { position = position; tail = tail; tuple = tuple; out = out_of (answer_to f.routine tuple) }
  next_is unended whole = record {
    position = rw (whole, same_tuples) its_position;
    tail = whole ∙ ap length same_tuples;
    rises = rw (whole, same_tuples) (tail_bounded (length (fused f.visitor.arrivals (length x.readers))) f.routine.calls l.lawful.tails_fused);
    tuple = ap (λ ts. slice_get ts (position - 1)) (sym same_tuples) ∙ is.at;
    out = ap (λ k. out_of (outcome_after k (tuples_of f.routine.calls) tuple)) m.its.kind;
    unfinished = unended;
  }

-- A call more of a component.
module _ (x : Route) (arrivals : List Arrival) (calls : List Call) (tape : List Token) (call : Call) (next : IsNextCall x arrivals calls call) where
  pub called_lawful : IsNumbered tape → length (on_channel x.out tape) ≤ length (outs x.out calls) → IsLawful x arrivals calls tape → IsLawful x arrivals (calls ++ call ∷ []) tape
  called_lawful numbered few h = record {
    lawful = lawful_call x arrivals calls call next h.lawful;
    before = λ n y t i out at k tuple l item j m of.
        let old = earlier_output x calls call tape numbered few n y t i out at in
        h.before n y t i old.0 at k tuple l item j m of;
    own = λ n y made. elim (get_snoc calls call n y made) [
      | inl b ↦ h.own n y b
      | inr b ↦ subst (λ (z : Call). slice_get (take z.tail (fused arrivals (length x.readers))) (z.position - 1) ≡ Some z.tuple) b.1
          (ap (λ l. slice_get l (call.position - 1)) (ap (λ a. take a (fused arrivals (length x.readers))) next.tail ∙ take-length (fused arrivals (length x.readers))) ∙ next.tuple)
    ];
  }

-- What is told of calls, and of one more.
trace_calls_push : (channel before : ℕ) (calls : List Call) (x : Call) → trace_calls before (calls ++ x ∷ []) ≡ trace_calls before calls ++ trace_call (before + length (outs_after channel before calls)) x ∷ []
trace_calls_push channel before [] x = let same : before ≡ before + 0 = omega arith in ap (λ n. trace_call n x ∷ []) same
trace_calls_push channel before (y ∷ calls) x = by y.out refl (trace_calls_push channel before calls x) (trace_calls_push channel (before + 1) calls x)
  where
    by : (o : Option Out) → y.out ≡ o
        → trace_calls before (calls ++ x ∷ []) ≡ trace_calls before calls ++ trace_call (before + length (outs_after channel before calls)) x ∷ []
        → trace_calls (before + 1) (calls ++ x ∷ []) ≡ trace_calls (before + 1) calls ++ trace_call (before + 1 + length (outs_after channel (before + 1) calls)) x ∷ []
        → trace_call before y ∷ trace_calls (before + (if is_some y.out then 1 else 0)) (calls ++ x ∷ [])
        ≡ (trace_call before y ∷ trace_calls (before + (if is_some y.out then 1 else 0)) calls) ++ trace_call (before + length (numbered channel before y.out (λ n. outs_after channel n calls))) x ∷ []
    by None is none some =
        let step : before + (if is_some y.out then 1 else 0) ≡ before = ap (λ (o : Option Out). before + (if is_some o then 1 else 0)) is ∙ omega arith in
        let put : numbered channel before y.out (λ n. outs_after channel n calls) ≡ outs_after channel before calls = ap (λ (o : Option Out). numbered channel before o (λ n. outs_after channel n calls)) is in
        ap (λ n. trace_call before y ∷ trace_calls n (calls ++ x ∷ [])) step ∙ ap (λ l. trace_call before y ∷ l) none
        ∙ ap (λ n. (trace_call before y ∷ trace_calls n calls) ++ trace_call (before + length (outs_after channel before calls)) x ∷ []) (sym step)
        ∙ ap (λ (ts : List Token). (trace_call before y ∷ trace_calls (before + (if is_some y.out then 1 else 0)) calls) ++ trace_call (before + length ts) x ∷ []) (sym put)
    by (Some o) is none some =
        let step : before + (if is_some y.out then 1 else 0) ≡ before + 1 = ap (λ (o : Option Out). before + (if is_some o then 1 else 0)) is in
        let put : numbered channel before y.out (λ n. outs_after channel n calls) ≡ output channel (before + 1) o ∷ outs_after channel (before + 1) calls = ap (λ (o : Option Out). numbered channel before o (λ n. outs_after channel n calls)) is in
        let same : before + 1 + length (outs_after channel (before + 1) calls) ≡ before + length (output channel (before + 1) o ∷ outs_after channel (before + 1) calls) = omega arith in
        ap (λ n. trace_call before y ∷ trace_calls n (calls ++ x ∷ [])) step ∙ ap (λ l. trace_call before y ∷ l) some
        ∙ ap (λ n. (trace_call before y ∷ trace_calls (before + 1) calls) ++ trace_call n x ∷ []) same
        ∙ ap (λ n. (trace_call before y ∷ trace_calls n calls) ++ trace_call (before + length (output channel (before + 1) o ∷ outs_after channel (before + 1) calls)) x ∷ []) (sym step)
        ∙ ap (λ (ts : List Token). (trace_call before y ∷ trace_calls (before + (if is_some y.out then 1 else 0)) calls) ++ trace_call (before + length ts) x ∷ []) (sym put)

pub called_told : (channel : ℕ) (calls : List Call) (x : Call) (told : List TraceCall) (t : TraceCall) → trace_calls 0 calls ≡ take (length calls) told → slice_get told (length calls) ≡ Some t → t ≡ trace_call (length (outs channel calls)) x
    → trace_calls 0 (calls ++ x ∷ []) ≡ take (length (calls ++ x ∷ [])) told
unfolding outs
called_told channel calls x told t e at is =
    let more : length (calls ++ x ∷ []) ≡ length calls + 1 = length-append calls (x ∷ []) in
    let zero_plus : 0 + length (outs_after channel 0 calls) ≡ length (outs_after channel 0 calls) = omega arith in
    trace_calls_push channel 0 calls x ∙ ap (λ n. trace_calls 0 calls ++ trace_call n x ∷ []) zero_plus ∙ ap (λ y. trace_calls 0 calls ++ y ∷ []) (sym is)
    ∙ ap (λ l. l ++ t ∷ []) e ∙ sym (take_next told (length calls) t at) ∙ ap (λ n. take n told) (sym more)

-- A component was followed along a tape, and then so many arrivals were heard that a fetch finds something.
module _ (law : FetchesFind) (x : Route) (told : TraceComponent) (tape : List Token) (f g : Follower) (m : MayFollow x f tape) (h : Follows x told f tape) (st : Stays f g) (l : Listens x told.roles tape f g)
    (cursor : ℕ) (at : cursor ≡ cursor_after g.routine.calls) (tuple : Tuple) (position tail : ℕ) (found : visited cursor g.visitor ≡ Some (tuple, position, tail)) where
  may : MayFollow x g tape
  may = may_further m st

  is_found : IsFound (cursor_after g.routine.calls) g.visitor tuple position tail
  is_found = visited_found (cursor_after g.routine.calls) g.visitor tuple position tail (ap (λ i. visited i g.visitor) (sym at) ∙ found)

  none_waits : g.routine.pending ≡ None
  none_waits = ap (λ (r : RoutineView). r.pending) l.same ∙ h.none_waits

  pub takes : ((roles : ℕ) (arrivals : List Arrival) → 1 ≤ roles → roles ≤ 4 → (n : ℕ) (t : Tuple) → slice_get (fused arrivals roles) n ≡ Some t → length (messages_of t) ≡ roles) → MayTake g.routine tuple position
  takes law' = may_take law x g tape may l.searched l.lawful tuple position tail is_found none_waits
      (law' (length x.readers) g.visitor.arrivals m.some_reader m.few_readers (position - 1) tuple (ap (λ ts. slice_get ts (position - 1)) (sym (ap (fused g.visitor.arrivals) may.its.roles)) ∙ is_found.at))

  outputs_few : g.outputs + 1 ≤ position
  outputs_few =
      let few = calls_few law x g tape may l.searched l.lawful tuple position tail is_found in
      let same : length g.routine.calls ≡ length f.routine.calls = ap (λ (r : RoutineView). length r.calls) l.same in
      let outs_are : g.outputs ≡ length (outs x.out f.routine.calls) = l.outputs ∙ h.outputs in
      omega (arith, few, same, outs_are, outs_few x.out f.routine.calls)

  pub few_outputs : g.outputs < 4294967295
  few_outputs =
      let most = position_few law x g tape may l.searched l.lawful tuple position tail is_found in
      let limit = may.limited in
      omega (arith, outputs_few, most, limit)

  pub takes_stays : (r : RoutineView) (e : Bool) → r ≡ taken g.routine tuple position tail → Stays f (record g { routine = r; ended = e })
  takes_stays r e is =
      let room = calls_few law x g tape may l.searched l.lawful tuple position tail is_found in
      let most = position_few law x g tape may l.searched l.lawful tuple position tail is_found in
      let calls = may.its.calls in
      let one : length r.calls ≡ length g.routine.calls + 1 = ap (λ (v : RoutineView). length v.calls) is ∙ length-append g.routine.calls (record { position = position; tail = tail; tuple = tuple; out = out_of (answer_to g.routine tuple) } ∷ []) in
      let less : r.spare ≡ g.routine.spare - 1 = ap (λ (v : RoutineView). v.spare) is in
      record {
        kind = ap (λ (v : RoutineView). v.kind) is ∙ st.kind;
        roles = st.roles;
        overflow = st.overflow;
        queue = st.queue;
        arrivals = st.arrivals;
        calls = omega (arith, room, most, calls, one, less) ∙ st.calls;
      }

  pub one_more : (r : RoutineView) → r ≡ taken g.routine tuple position tail → length r.calls ≡ length f.routine.calls + 1
  one_more r is = ap (λ (v : RoutineView). length v.calls) is ∙ length-append g.routine.calls (record { position = position; tail = tail; tuple = tuple; out = out_of (answer_to g.routine tuple) } ∷ []) ∙ ap (λ (v : RoutineView). length v.calls + 1) l.same

  pub made : IsNumbered tape → (t : TraceCall) → slice_get told.calls (length f.routine.calls) ≡ Some t → f.ended ≡ false → length (tuples_at g.visitor) ≡ t.tail → position ≡ t.position → t.seqs ≡ map (λ (n : Token). n.seq) (messages_of tuple)
      → (r : RoutineView) → r ≡ taken g.routine tuple position tail → (e : Bool) → e ≡ is_last (Some (answer_to g.routine tuple)) → t.out ≡ output_of_call g.outputs r.pending → HasCalled x told (record g { routine = r; ended = e }) tape
  made numbered t there' unended its_tail its_position' its_seqs r is e ended out =
      let call : Call = record { position = position; tail = tail; tuple = tuple; out = out_of (answer_to g.routine tuple) } in
      let same : g.routine ≡ f.routine = l.same in
      let calls_same : g.routine.calls ≡ f.routine.calls = ap (λ (v : RoutineView). v.calls) same in
      let none_last : is_last (last_outcome x.kind g.routine.calls) ≡ false = ap (λ (cs : List Call). is_last (last_outcome x.kind cs)) calls_same ∙ sym h.ended ∙ unended in
      let next = next_is law x g tape may l.searched l.lawful tuple position tail is_found none_last is_found.whole in
      let sent : on_channel x.out tape ≡ outs x.out g.routine.calls = h.sent ∙ ap (outs x.out) (sym calls_same) in
      let all : r.calls ≡ g.routine.calls ++ call ∷ [] = ap (λ (v : RoutineView). v.calls) is in
      let number : g.outputs ≡ length (outs x.out g.routine.calls) = l.outputs ∙ h.outputs ∙ ap (λ (cs : List Call). length (outs x.out cs)) (sym calls_same) in
      let traced : t ≡ trace_call (length (outs x.out g.routine.calls)) call =
      traced_as t (length (outs x.out g.routine.calls)) call (sym its_position') (sym its_tail ∙ sym is_found.whole) its_seqs (out ∙ ap (λ (v : RoutineView). output_of_call g.outputs v.pending) is ∙ ap (λ n. output_of_call n (out_of (answer_to g.routine tuple))) number) in
      record {
        earlier = g.routine.calls;
        call = call;
        made = all;
        searched = l.searched;
        lawful = rw all (called_lawful x g.visitor.arrivals g.routine.calls tape call next numbered (rw sent (omega arith)) l.lawful);
        are_told = (l.told, rw all (called_told x.out g.routine.calls call told.calls t (ap (trace_calls 0) calls_same ∙ h.are_told.1 ∙ ap (λ (cs : List Call). take (length cs) told.calls) (sym calls_same)) (ap (λ (cs : List Call). slice_get told.calls (length cs)) calls_same ∙ there') traced));
        ended = ended ∙ ap (λ k. is_last (Some (outcome_after k (tuples_of g.routine.calls) tuple))) may.its.kind ∙ sym (ap is_last (ap (last_outcome x.kind) all ∙ last_push x g.routine.calls call));
        outputs = number;
        few = few_outputs;
        sent = sent;
        waits = ap (λ (v : RoutineView). v.pending) is;
      }
    where
      traced_as : (t : TraceCall) (n : ℕ) (call : Call) → t.position ≡ call.position → t.tail ≡ call.tail → t.seqs ≡ map (λ (m : Token). m.seq) (messages_of call.tuple) → t.out ≡ output_of_call n call.out → t ≡ trace_call n call
      traced_as t n call a b c d =
          ap (λ (q : ℕ). record { position = q; tail = t.tail; seqs = t.seqs; out = t.out }) a
          ∙ ap (λ (q : ℕ). record { position = call.position; tail = q; seqs = t.seqs; out = t.out }) b
          ∙ ap (λ (q : List ℕ). record { position = call.position; tail = call.tail; seqs = q; out = t.out }) c
          ∙ ap (λ (q : Option TraceOutput). record { position = call.position; tail = call.tail; seqs = map (λ (m : Token). m.seq) (messages_of call.tuple); out = q }) d
