-- The next call of a run is made.
use Rattle.std.proofs.Common.{ℕ, zero, suc, ◌+◌, ◌-◌, ◌≡◌, ◌≤◌, ◌<◌, Bool, false, refl, sym, ◌∙◌, ap, subst, arith, List, [], ◌∷◌, ◌++◌, length, take, map, Some, None, Option, slice_get, is_some, if◌then◌else◌, option_map, option_and_then, append_assoc, length-append}
use Rattle.std.proofs.lemmas.Option.{slice_get_within}
use Rattle.std.proofs.Math.Seq.{take-append_seam}
use Rattle.cy_msg.specs.declared.token.Token.{Token}
use Rattle.cy_msg.specs.declared.token.Tuple.{Tuple}
use Rattle.cy_msg.specs.Tuple.{messages_of}
use Rattle.cy_msg.proofs.Lists.{take_next}
use Rattle.cy_fuse.specs.Fusion.{Arrival, added, fused_after, fused}
use Rattle.cy_fuse.specs.Fetch.{fetch}
use Rattle.cy_fuse.specs.Laws.{FetchesFind}
use Rattle.cy_fuse.specs.Visitor.{visited, tuples_at, position_at}
use Rattle.cy_comp.specs.declared.call.Call.{Call}
use Rattle.cy_comp.specs.declared.call.Out.{Out}
use Rattle.cy_comp.specs.Step.{outcome_after, out_of}
use Rattle.cy_comp.specs.Calls.{cursor_after, tail_after, tuples_of, last_outcome, is_last, outs_after, outs, output, numbered}
use Rattle.cy_comp.specs.Routine.{RoutineView, answer_to, taken}
use Rattle.wake_core.specs.declared.route.Route.{Route}
use Rattle.cy_trace.specs.TraceOfRun.{output_of_call, trace_call, trace_calls}
use Rattle.cy_trace.specs.declared.trace.TraceCall.{TraceCall}
use Rattle.cy_trace.specs.declared.trace.TraceComponent.{TraceComponent}
use Rattle.cy_verify.specs.declared.follower.Follower.{Follower}
use Rattle.cy_verify.specs.private.Following.{MayFollow, Follows, Listens, Stays}
use Rattle.cy_verify.specs.private.Leading.{Ended, Leads, Awaits, AwaitsTo, CanCall}
use Rattle.cy_verify.proofs.Heard.{may_further}
use Rattle.cy_verify.proofs.CallMade.{same_ring, fused_most}

one : {X : Type 0} {a b : X} → Some a ≡ Some b → a ≡ b
one e = cc

abbrev triple : Tuple → ℕ → ℕ → Tuple × ℕ × ℕ
triple t n k = (t, n, k)

abbrev some_triple : Tuple × ℕ × ℕ → Option (Tuple × ℕ × ℕ)
some_triple q = Some q

triples : {a b : Tuple × ℕ × ℕ} → some_triple a ≡ some_triple b → a ≡ b
triples e = cc

-- The tuples of the first arrivals are the first tuples.
fused_after_begins : (k : ℕ) (before rest : List Arrival) (n : ℕ) → (ts : List Tuple) × (fused_after k before rest ≡ fused_after k before (take n rest) ++ ts)
fused_after_begins k before rest zero = (fused_after k before rest, refl)
fused_after_begins k before [] (suc n) = ([], refl)
fused_after_begins k before (a ∷ rest) (suc n) =
    let more = fused_after_begins k (before ++ a ∷ []) rest n in
    (more.0, ap (λ ts. added k before a ++ ts) more.1 ∙ sym (append_assoc (added k before a) (fused_after k (before ++ a ∷ []) (take n rest)) more.0))

fused_begins : (k : ℕ) (arrivals : List Arrival) (n : ℕ) → fused (take n arrivals) k ≡ take (length (fused (take n arrivals) k)) (fused arrivals k)
unfolding fused
fused_begins k arrivals n =
    let more = fused_after_begins k [] arrivals n in
    sym (ap (take (length (fused_after k [] (take n arrivals)))) more.1 ∙ take-append_seam (fused_after k [] (take n arrivals)) more.0)

traced_from : (channel before : ℕ) (calls : List Call) (n : ℕ) (x : Call) → slice_get calls n ≡ Some x
    → slice_get (trace_calls before calls) n ≡ Some (trace_call (before + length (outs_after channel before (take n calls))) x)
traced_from channel before [] n x e = cc
traced_from channel before (y ∷ calls) zero x e = let same : before ≡ before + 0 = omega arith in ap (λ z. Some (trace_call before z)) (one e) ∙ ap (λ k. Some (trace_call k x)) same
traced_from channel before (y ∷ calls) (suc n) x e = by y.out refl (traced_from channel before calls n x e) (traced_from channel (before + 1) calls n x e)
  where
    by : (o : Option Out) → y.out ≡ o
        → slice_get (trace_calls before calls) n ≡ Some (trace_call (before + length (outs_after channel before (take n calls))) x)
        → slice_get (trace_calls (before + 1) calls) n ≡ Some (trace_call (before + 1 + length (outs_after channel (before + 1) (take n calls))) x)
        → slice_get (trace_calls (before + (if is_some y.out then 1 else 0)) calls) n ≡ Some (trace_call (before + length (numbered channel before y.out (λ k. outs_after channel k (take n calls)))) x)
    by None is none some =
        let step : before + (if is_some y.out then 1 else 0) ≡ before = ap (λ (o : Option Out). before + (if is_some o then 1 else 0)) is ∙ omega arith in
        ap (λ k. slice_get (trace_calls k calls) n) step ∙ none ∙ ap (λ (o : Option Out). Some (trace_call (before + length (numbered channel before o (λ k. outs_after channel k (take n calls)))) x)) (sym is)
    by (Some o) is none some =
        let step : before + (if is_some y.out then 1 else 0) ≡ before + 1 = ap (λ (o : Option Out). before + (if is_some o then 1 else 0)) is in
        let same : before + 1 + length (outs_after channel (before + 1) (take n calls)) ≡ before + length (output channel (before + 1) o ∷ outs_after channel (before + 1) (take n calls)) = omega arith in
        ap (λ k. slice_get (trace_calls k calls) n) step ∙ some ∙ ap (λ k. Some (trace_call k x)) same ∙ ap (λ (o : Option Out). Some (trace_call (before + length (numbered channel before o (λ k. outs_after channel k (take n calls)))) x)) (sym is)

-- What is told of the n-th call.
pub traced : (channel : ℕ) (calls : List Call) (n : ℕ) (x : Call) → slice_get calls n ≡ Some x → slice_get (trace_calls 0 calls) n ≡ Some (trace_call (length (outs channel (take n calls))) x)
unfolding outs
traced channel calls n x e =
    let zero_plus : 0 + length (outs_after channel 0 (take n calls)) ≡ length (outs_after channel 0 (take n calls)) = omega arith in
    traced_from channel 0 calls n x e ∙ ap (λ k. Some (trace_call k x)) zero_plus

pub tail_push : (calls : List Call) (x : Call) → tail_after (calls ++ x ∷ []) ≡ x.tail
tail_push [] x = refl
tail_push (y ∷ []) x = refl
tail_push (y ∷ z ∷ rest) x = tail_push (z ∷ rest) x

-- A component was followed as a run leads, and the run's next call can be made.
module _ (x : Route) (told : TraceComponent) (stopped : Bool) (r : Ended) (tape : List Token) (f : Follower) (lead : Leads x told stopped r f tape) (can : CanCall x r f tape) where
  its_calls : take (length f.routine.calls) r.calls ≡ f.routine.calls
  its_calls = sym lead.made

  -- It is told of,
  pub told_next : slice_get told.calls (length f.routine.calls) ≡ Some (trace_call (length (outs x.out f.routine.calls)) can.call)
  told_next =
      ap (λ l. slice_get l (length f.routine.calls)) (sym lead.run.calls_told) ∙ traced x.out r.calls (length f.routine.calls) can.call can.next
      ∙ ap (λ (cs : List Call). Some (trace_call (length (outs x.out cs)) can.call)) its_calls

  pub told_more : length told.calls ≤ length f.routine.calls → ⊥
  told_more l = no_more (slice_get_within told.calls (length f.routine.calls) (trace_call (length (outs x.out f.routine.calls)) can.call) told_next) l
    where
      no_more : {a b : ℕ} → a < b → b ≤ a → ⊥
      no_more p q = omega (arith, p, q)

  its_trace : (t : TraceCall) → slice_get told.calls (length f.routine.calls) ≡ Some t → t ≡ trace_call (length (outs x.out f.routine.calls)) can.call
  its_trace t at = one (sym at ∙ told_next)

  -- the component hasn't ended,
  pub unended : f.ended ≡ is_last (last_outcome x.kind f.routine.calls) → f.ended ≡ false
  unended ended = ended ∙ ap (λ (cs : List Call). is_last (last_outcome x.kind cs)) lead.made ∙ lead.run.lawful.lawful.no_call_after_last (length f.routine.calls) can.call can.next

  -- and what it needs is awaited.
  pub awaits_to : AwaitsTo x told.roles r.arrivals can.call.tail f tape
  awaits_to =
      let rises = lead.run.lawful.lawful.tails_rise (length f.routine.calls) can.call can.next in
      let same = ap tail_after its_calls in
      record {
        awaits = record { came = lead.came; roles_told = lead.run.roles_told; room = lead.room };
        here = can.here;
        begun = omega (arith, lead.tails, rises, same);
        reached = lead.run.lawful.lawful.tails_fused (length f.routine.calls) can.call can.next;
      }

  pub awaits_told : (t : TraceCall) → slice_get told.calls (length f.routine.calls) ≡ Some t → AwaitsTo x told.roles r.arrivals t.tail f tape
  awaits_told t at = subst (λ (k : ℕ). AwaitsTo x told.roles r.arrivals k f tape) (sym (ap (λ (u : TraceCall). u.tail) (its_trace t at))) awaits_to

  -- With that, the fetch finds the run's own tuple.
  module _ (law : FetchesFind) (m : MayFollow x f tape) (h : Follows x told f tape) (g : Follower) (st : Stays f g) (l : Listens x told.roles tape f g) (w : Awaits x told.roles r.arrivals g)
      (t : TraceCall) (told_at : slice_get told.calls (length f.routine.calls) ≡ Some t) (tail_told : length (tuples_at g.visitor) ≡ t.tail) where
    tail : length (tuples_at g.visitor) ≡ can.call.tail
    tail = tail_told ∙ ap (λ (u : TraceCall). u.tail) (its_trace t told_at)

    may : MayFollow x g tape
    may = may_further m st

    same_tuples : tuples_at g.visitor ≡ fused g.visitor.arrivals (length x.readers)
    same_tuples = ap (fused g.visitor.arrivals) may.its.roles

    tuples_taken : tuples_at g.visitor ≡ take can.call.tail (fused r.arrivals (length x.readers))
    tuples_taken =
        let begins = fused_begins (length x.readers) r.arrivals (length g.visitor.arrivals) in
        let came : fused g.visitor.arrivals (length x.readers) ≡ fused (take (length g.visitor.arrivals) r.arrivals) (length x.readers) = ap (λ (us : List Arrival). fused us (length x.readers)) w.came in
        same_tuples ∙ came ∙ begins ∙ ap (λ k. take k (fused r.arrivals (length x.readers))) (ap length (sym came ∙ sym same_tuples) ∙ tail)

    calls_same : g.routine.calls ≡ take (length f.routine.calls) r.calls
    calls_same = ap (λ (v : RoutineView). v.calls) l.same ∙ lead.made

    finds_position : position_at (cursor_after g.routine.calls) g.visitor ≡ Some can.call.position
    finds_position =
        ap (λ (k : ℕ). fetch (cursor_after g.routine.calls) (length (fused g.visitor.arrivals k)) g.visitor.queue g.visitor.overflow) may.its.roles
        ∙ ap (λ o. fetch (cursor_after g.routine.calls) (length (fused g.visitor.arrivals (length x.readers))) g.visitor.queue o) may.its.overflow
        ∙ ap (λ q. fetch (cursor_after g.routine.calls) (length (fused g.visitor.arrivals (length x.readers))) q x.overflow) may.its.queue
        ∙ same_ring law (cursor_after g.routine.calls) (length (fused g.visitor.arrivals (length x.readers))) x.queue may.most x.overflow may.buffered (fused_most x g tape may l.searched)
        ∙ ap (λ k. fetch (cursor_after g.routine.calls) k x.queue x.overflow) (ap length (sym same_tuples) ∙ tail)
        ∙ ap (λ (cs : List Call). fetch (cursor_after cs) can.call.tail x.queue x.overflow) calls_same
        ∙ lead.run.lawful.lawful.positions (length f.routine.calls) can.call can.next

    pub finds : visited (cursor_after g.routine.calls) g.visitor ≡ Some (can.call.tuple, can.call.position, can.call.tail)
    finds =
        let at : slice_get (tuples_at g.visitor) (can.call.position - 1) ≡ Some can.call.tuple = ap (λ ts. slice_get ts (can.call.position - 1)) tuples_taken ∙ lead.run.lawful.own (length f.routine.calls) can.call can.next in
        ap (λ (o : Option ℕ). option_and_then (λ (n : ℕ). option_map {U = Tuple × ℕ × ℕ} (λ (t : Tuple). (t, n, length (tuples_at g.visitor))) (slice_get (tuples_at g.visitor) (n - 1))) o) finds_position
        ∙ ap (option_map {U = Tuple × ℕ × ℕ} (λ (t : Tuple). (t, can.call.position, length (tuples_at g.visitor)))) at
        ∙ ap (λ (k : ℕ). some_triple (triple can.call.tuple can.call.position k)) tail

    -- So it answers what the run's call has.
    module _ (cursor : ℕ) (at : cursor ≡ cursor_after g.routine.calls) where
      pub finds_some : visited cursor g.visitor ≡ None → ⊥
      finds_some e = none (sym (ap (λ i. visited i g.visitor) at ∙ finds) ∙ e)
        where
          none : some_triple (triple can.call.tuple can.call.position can.call.tail) ≡ None → ⊥
          none e = cc

      module _ (tuple : Tuple) (position tail' : ℕ) (found : visited cursor g.visitor ≡ Some (tuple, position, tail')) where
        all_same : triple tuple position tail' ≡ triple can.call.tuple can.call.position can.call.tail
        all_same = triples (sym found ∙ ap (λ i. visited i g.visitor) at ∙ finds)

        pub its_tuple : tuple ≡ can.call.tuple
        its_tuple = ap (λ (q : Tuple × ℕ × ℕ). q.0) all_same

        pub its_position : position ≡ can.call.position
        its_position = ap (λ (q : Tuple × ℕ × ℕ). q.1) all_same

        pub told_position : position ≡ t.position
        told_position = its_position ∙ sym (ap (λ (u : TraceCall). u.position) (its_trace t told_at))

        pub told_seqs : t.seqs ≡ map (λ (n : Token). n.seq) (messages_of tuple)
        told_seqs = ap (λ (u : TraceCall). u.seqs) (its_trace t told_at) ∙ ap (λ (u : Tuple). map (λ (n : Token). n.seq) (messages_of u)) (sym its_tuple)

        its_tail : tail' ≡ can.call.tail
        its_tail = ap (λ (q : Tuple × ℕ × ℕ). q.2) all_same

        pub its_out : out_of (answer_to g.routine tuple) ≡ can.call.out
        its_out =
            ap (λ t. out_of (answer_to g.routine t)) its_tuple
            ∙ ap (λ k. out_of (outcome_after k (tuples_of g.routine.calls) can.call.tuple)) may.its.kind
            ∙ ap (λ (cs : List Call). out_of (outcome_after x.kind (tuples_of cs) can.call.tuple)) calls_same
            ∙ sym (lead.run.lawful.lawful.outputs (length f.routine.calls) can.call can.next)

        pub told_out : (v : RoutineView) → v ≡ taken g.routine tuple position tail' → t.out ≡ output_of_call g.outputs v.pending
        told_out v is =
            ap (λ (u : TraceCall). u.out) (its_trace t told_at)
            ∙ ap (λ (n : ℕ). output_of_call n can.call.out) (sym (l.outputs ∙ h.outputs))
            ∙ ap (output_of_call g.outputs) (sym (ap (λ (u : RoutineView). u.pending) is ∙ its_out))

        made_same : record { position = position; tail = tail'; tuple = tuple; out = out_of (answer_to g.routine tuple) } ≡ can.call
        made_same =
            ap (λ (q : ℕ). record { position = q; tail = tail'; tuple = tuple; out = out_of (answer_to g.routine tuple) }) its_position
            ∙ ap (λ (q : ℕ). record { position = can.call.position; tail = q; tuple = tuple; out = out_of (answer_to g.routine tuple) }) its_tail
            ∙ ap (λ (q : Option Out). record { position = can.call.position; tail = can.call.tail; tuple = tuple; out = q }) its_out
            ∙ ap (λ (q : Tuple). record { position = can.call.position; tail = can.call.tail; tuple = q; out = can.call.out }) its_tuple

        pub leads_made : (v : RoutineView) (e : Bool) → v ≡ taken g.routine tuple position tail' → Leads x told stopped r (record g { routine = v; ended = e }) tape
        leads_made v e is =
            let calls : v.calls ≡ g.routine.calls ++ can.call ∷ [] = ap (λ (u : RoutineView). u.calls) is ∙ ap (λ (y : Call). g.routine.calls ++ y ∷ []) made_same in
            let more : length v.calls ≡ length f.routine.calls + 1 = ap length calls ∙ length-append g.routine.calls (can.call ∷ []) ∙ ap (λ (u : RoutineView). length u.calls + 1) l.same in
            let last : tail_after v.calls ≡ can.call.tail = ap tail_after calls ∙ tail_push g.routine.calls can.call in
            record {
              run = lead.run;
              begins = lead.begins;
              came = w.came;
              made = calls ∙ ap (λ (cs : List Call). cs ++ can.call ∷ []) calls_same ∙ sym (take_next r.calls (length f.routine.calls) can.call can.next) ∙ ap (λ k. take k r.calls) (sym more);
              tails = omega (arith, last, tail, ap length same_tuples);
              room = w.room;
            }
