-- The trace of the world of a walk is the one that was followed.
use Rattle.std.proofs.Common.{ℕ, suc, ◌+◌, ◌≡◌, Bool, refl, sym, ◌∙◌, ap, ap₂, inl, inr, arith, List, [], ◌∷◌, length, map, Some, slice_get}
use Rattle.cy_fuse.specs.declared.overflow.Overflow.{Overflow}
use Rattle.cy_fuse.specs.Fusion.{Arrival}
use Rattle.cy_fuse.specs.Laws.{FetchesFind}
use Rattle.cy_comp.specs.Laws.{OutcomesAreAnswers}
use Rattle.cy_comp.specs.declared.call.Call.{Call}
use Rattle.cy_comp.specs.declared.plan.Plan.{Plan}
use Rattle.cy_comp.specs.Calls.{cursor_after}
use Rattle.wake_core.specs.Events.{is_finished}
use Rattle.wake_core.specs.Plain.{Plain}
use Rattle.wake_core.specs.Rest.{run_shown}
use Rattle.wake_core.specs.Run.{Run, route_of, routes_of, played_of}
use Rattle.cy_trace.specs.TraceOfRun.{tape_entry, trace_calls, trace_component, trace_components, trace_of_run}
use Rattle.cy_trace.specs.LineParts.{version_of}
use Rattle.cy_trace.specs.declared.trace.TapeEntry.{TapeEntry}
use Rattle.cy_trace.specs.declared.trace.Trace.{Trace}
use Rattle.cy_trace.specs.declared.trace.TraceCall.{TraceCall}
use Rattle.cy_trace.specs.declared.trace.TraceComponent.{TraceComponent}
use Rattle.cy_verify.specs.Verdict.{Task, IsTold}
use Rattle.cy_verify.specs.declared.walk.Walk.{Walk}
use Rattle.cy_verify.specs.private.Ending.{IsWhole, IsHeaded, world_in}
use Rattle.cy_verify.proofs.Walked.{route_at, some_one}
use Rattle.cy_verify.proofs.WorldEnded.{ended_as, at_route}
use Rattle.cy_verify.proofs.WalkLawful.{exact, whole_lawful}

-- What is told of components is that of a run where it is so of each.
components_are : (w : Run) (c : ℕ) (plans : List Plan) (told : List TraceComponent) → length told ≡ length plans
    → ((n : ℕ) (p : Plan) (k : TraceComponent) → slice_get plans n ≡ Some p → slice_get told n ≡ Some k → k ≡ trace_component p (w.arrivals (c + n)) (w.calls (c + n)) (w.ended (c + n)))
    → told ≡ trace_components w c plans
components_are w c [] [] many each = refl
components_are w c [] (k ∷ told) many each = cc
components_are w c (p ∷ plans) [] many each = cc
components_are w c (p ∷ plans) (k ∷ told) many each =
    let here : c + 0 ≡ c = omega arith in
    ap₂ (λ (a : TraceComponent) (l : List TraceComponent). a ∷ l)
    (each 0 p k refl refl ∙ ap (λ n. trace_component p (w.arrivals n) (w.calls n) (w.ended n)) here)
    (components_are w (c + 1) plans told (omega (arith, many)) (λ n q j at is.
    let there : c + suc n ≡ c + 1 + n = omega arith in
    each (suc n) q j at is ∙ ap (λ m. trace_component q (w.arrivals m) (w.calls m) (w.ended m)) there))

component_is : (k : TraceComponent) (p : Plan) (arrivals : List Arrival) (calls : List Call) (ended : Bool) → k.name ≡ p.name → k.overflow ≡ p.overflow
    → k.roles ≡ map (λ (a : Arrival). a.0) arrivals → k.calls ≡ trace_calls 0 calls → k.finished ≡ ended → k.next ≡ cursor_after calls → k ≡ trace_component p arrivals calls ended
component_is k p arrivals calls ended a b c d e f =
    ap (λ (q : List ℕ). record { name = q; overflow = k.overflow; roles = k.roles; calls = k.calls; finished = k.finished; next = k.next }) a
    ∙ ap (λ (q : Overflow). record { name = p.name; overflow = q; roles = k.roles; calls = k.calls; finished = k.finished; next = k.next }) b
    ∙ ap (λ (q : List ℕ). record { name = p.name; overflow = p.overflow; roles = q; calls = k.calls; finished = k.finished; next = k.next }) c
    ∙ ap (λ (q : List TraceCall). record { name = p.name; overflow = p.overflow; roles = map (λ (a : Arrival). a.0) arrivals; calls = q; finished = k.finished; next = k.next }) d
    ∙ ap (λ (q : Bool). record { name = p.name; overflow = p.overflow; roles = map (λ (a : Arrival). a.0) arrivals; calls = trace_calls 0 calls; finished = q; next = k.next }) e
    ∙ ap (λ (q : ℕ). record { name = p.name; overflow = p.overflow; roles = map (λ (a : Arrival). a.0) arrivals; calls = trace_calls 0 calls; finished = ended; next = q }) f

trace_is : (trace : Trace) (version played shadowed : ℕ) (components : List TraceComponent) (tape : List TapeEntry) → trace.version ≡ version → trace.played ≡ played → trace.shadowed ≡ shadowed → trace.components ≡ components → trace.tape ≡ tape
    → trace ≡ record { version = version; played = played; shadowed = shadowed; components = components; tape = tape }
trace_is trace version played shadowed components tape a b c d e =
    ap (λ (q : ℕ). record { version = q; played = trace.played; shadowed = trace.shadowed; components = trace.components; tape = trace.tape }) a
    ∙ ap (λ (q : ℕ). record { version = version; played = q; shadowed = trace.shadowed; components = trace.components; tape = trace.tape }) b
    ∙ ap (λ (q : ℕ). record { version = version; played = played; shadowed = q; components = trace.components; tape = trace.tape }) c
    ∙ ap (λ (q : List TraceComponent). record { version = version; played = played; shadowed = shadowed; components = q; tape = trace.tape }) d
    ∙ ap (λ (q : List TapeEntry). record { version = version; played = played; shadowed = shadowed; components = components; tape = q }) e

module _ (law : FetchesFind) (answers : OutcomesAreAnswers) (t : Task) (trace : Trace) (w : Walk) (h : IsWhole t trace.components w) (head : IsHeaded t w.tape.items trace) where
  abbrev world : Plain
  world = world_in t w

  told_at : (c : ℕ) (p : Plan) (k : TraceComponent) → slice_get t.plans c ≡ Some p → slice_get trace.components c ≡ Some k
      → k ≡ trace_component p (world.arrivals c) (world.calls c) (is_finished (world.states c))
  told_at c p k at is =
      let i = at_route t trace.components w h.many h.walked c (route_of p) (route_at t.plans c p at) in
      let same : i.component ≡ k = some_one (sym i.told_at ∙ is) in
      let names = head.names c p k at is in
      let e = i.ended in
      component_is k p (world.arrivals c) (world.calls c) (is_finished (world.states c)) names.0 names.1
      (ap (λ (j : TraceComponent). j.roles) (sym same) ∙ sym e.roles ∙ ap (map (λ (a : Arrival). a.0)) (sym i.arrivals))
      (ap (λ (j : TraceComponent). j.calls) (sym same) ∙ sym e.calls ∙ ap (trace_calls 0) (sym i.calls))
      (ap (λ (j : TraceComponent). j.finished) (sym same) ∙ elim (ended_as e) [
        | inl s ↦ s.0 ∙ ap is_finished (sym s.1) ∙ ap is_finished (sym i.states)
        | inr s ↦ s.0 ∙ ap is_finished (sym s.1) ∙ ap is_finished (sym i.states)
      ])
      (ap (λ (j : TraceComponent). j.next) (sym same) ∙ e.next ∙ ap cursor_after (sym i.calls))

  -- The trace is that of the world's run.
  pub whole_told : trace ≡ trace_of_run t.names t.plans t.shadowed (run_shown world)
  whole_told = trace_is trace (version_of t.plans) (length (played_of (routes_of t.plans) w.tape.items)) t.shadowed (trace_components (run_shown world) 0 t.plans) (map (tape_entry t.names) w.tape.items)
      head.version (head.played ∙ sym (ap length (exact law answers t trace.components w h))) head.shadowed
      (components_are (run_shown world) 0 t.plans trace.components head.many (λ n p k at is.
      let zero_plus : n ≡ 0 + n = omega arith in
      told_at n p k at is ∙ ap (λ m. trace_component p (world.arrivals m) (world.calls m) (is_finished (world.states m))) zero_plus))
      (sym head.taped)

  -- The world is what the trace tells of.
  pub whole_is_told : IsTold t trace world
  whole_is_told = record { counts = refl; lawful = whole_lawful law answers t trace.components w h; told = whole_told }
