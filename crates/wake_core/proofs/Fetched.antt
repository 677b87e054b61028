-- What a fetch by a visitor is in a world.
use Rattle.std.proofs.Common.{ℕ, ◌-◌, ◌≡◌, ◌≤◌, Bool, true, false, refl, sym, ◌∙◌, ap, ap₂, arith, Option, Some, None, List, length, slice_get, option_map, option_and_then, nat_le, min, max}
use Rattle.std.proofs.lemmas.Bool.Decides.{nat_tests}
use Rattle.cy_msg.specs.declared.token.Tuple.{Tuple}
use Rattle.cy_fuse.specs.declared.overflow.Overflow.{Overflow}
use Rattle.cy_fuse.specs.Fusion.{fused}
use Rattle.cy_fuse.specs.Fetch.{fetch}
use Rattle.cy_fuse.specs.Laws.{FetchesFind}
use Rattle.cy_fuse.specs.Visitor.{VisitorView, visited, position_at}
use Rattle.cy_comp.specs.declared.call.Call.{Call}
use Rattle.cy_comp.specs.Routine.{RoutineView}
use Rattle.wake_core.specs.Run.{Route}
use Rattle.wake_core.specs.Planned.{planned_count, first_reader}
use Rattle.wake_core.specs.Plain.{Plain, found_by}
use Rattle.wake_core.specs.Events.{call_on, next_call}
use Rattle.wake_core.specs.Sound.{Consistent}
use Rattle.wake_core.specs.Fields.{queue_of}
use Rattle.wake_core.specs.Laws.{call_of}
use Rattle.wake_core.proofs.Arriving.{fused_planned}

-- A buffer that keeps as many items as ever come answers as one that keeps more.
same_ring : FetchesFind → (index tail queue few : ℕ) (o : Overflow) → 1 ≤ queue → tail ≤ few → fetch index tail (max 1 (min queue few)) o ≡ fetch index tail queue o
same_ring law index tail queue few o some l = by (nat_le queue few) refl
  where
    kept : nat_le queue few ≡ true → max 1 (min queue few) ≡ queue
    kept e = grind (arith, nat_tests, e)

    all : nat_le queue few ≡ false → tail ≤ queue
    all e = grind (arith, nat_tests, e)

    fits : nat_le queue few ≡ false → tail ≤ max 1 (min queue few)
    fits e = grind (arith, nat_tests, e)

    by : (b : Bool) → nat_le queue few ≡ b → fetch index tail (max 1 (min queue few)) o ≡ fetch index tail queue o
    by true e = ap (λ n. fetch index tail n o) (kept e)
    by false e = law.roomy index tail (max 1 (min queue few)) queue o (fits e) (all e)

-- What a fetch finds, mapped to the calls that it makes.
mapped : (r : RoutineView) (tuples : List Tuple) (o : Option ℕ)
    → option_and_then (λ (n : ℕ). option_map (λ (t : Tuple). call_of r (t, n, length tuples)) (slice_get tuples (n - 1))) o
    ≡ option_map (call_of r) (option_and_then (λ (n : ℕ). option_map (λ (t : Tuple). (t, n, length tuples)) (slice_get tuples (n - 1))) o)
mapped r tuples None = refl
mapped r tuples (Some n) = by (slice_get tuples (n - 1))
  where
    by : (o : Option Tuple) → option_map (λ (t : Tuple). call_of r (t, n, length tuples)) o ≡ option_map (call_of r) (option_map (λ (t : Tuple). (t, n, length tuples)) o)
    by None = refl
    by (Some t) = refl

-- A visitor's fetch finds what the component's queue says.
visited_ring : FetchesFind → (w : Plain) (c index : ℕ) (x : Route) (v : VisitorView) → slice_get w.routes c ≡ Some x
    → v.arrivals ≡ w.arrivals c → v.roles ≡ length x.readers → v.queue ≡ queue_of w.routes w.counts x → v.overflow ≡ x.overflow → 1 ≤ x.queue → index ≡ w.cursors c → Consistent w
    → position_at index v ≡ fetch (w.cursors c) (length (fused (w.arrivals c) (length x.readers))) x.queue x.overflow
visited_ring law w c index x v at arrivals roles queue overflow some cursor s =
    let tuples : List Tuple = fused (w.arrivals c) (length x.readers) in
    let same_tuples : fused v.arrivals v.roles ≡ tuples = ap₂ fused arrivals roles in
    let few : length tuples ≤ planned_count w.routes w.counts (first_reader x) = fused_planned w c x at s in
    rw (same_tuples, queue, overflow, cursor) (same_ring law (w.cursors c) (length tuples) x.queue (planned_count w.routes w.counts (first_reader x)) x.overflow some few)

pub found_visited : FetchesFind → (w : Plain) (c index : ℕ) (x : Route) (v : VisitorView) → slice_get w.routes c ≡ Some x
    → v.arrivals ≡ w.arrivals c → v.roles ≡ length x.readers → v.queue ≡ queue_of w.routes w.counts x → v.overflow ≡ x.overflow → 1 ≤ x.queue → index ≡ w.cursors c → Consistent w
    → position_at index v ≡ found_by w c
found_visited law w c index x v at arrivals roles queue overflow some cursor s = rw at (visited_ring law w c index x v at arrivals roles queue overflow some cursor s)

-- The call that a fetch makes is on what the component's visitor finds.
pub next_visited : FetchesFind → (w : Plain) (c index : ℕ) (x : Route) (r : RoutineView) (v : VisitorView) → slice_get w.routes c ≡ Some x → r.kind ≡ x.kind → r.calls ≡ w.calls c
    → v.arrivals ≡ w.arrivals c → v.roles ≡ length x.readers → v.queue ≡ queue_of w.routes w.counts x → v.overflow ≡ x.overflow → 1 ≤ x.queue → index ≡ w.cursors c → Consistent w
    → next_call w c ≡ option_map (call_of r) (visited index v)
next_visited law w c index x r v at kind calls arrivals roles queue overflow some cursor s =
    let tuples : List Tuple = fused (w.arrivals c) (length x.readers) in
    let same_tuples : fused v.arrivals v.roles ≡ tuples = ap₂ fused arrivals roles in
    let found : position_at index v ≡ fetch (w.cursors c) (length tuples) x.queue x.overflow = visited_ring law w c index x v at arrivals roles queue overflow some cursor s in
    let calls_on : (λ (n : ℕ) (t : Tuple). call_on x w c n t) ≡ (λ (n : ℕ) (t : Tuple). call_of r (t, n, length tuples)) = rw (kind, calls) refl in
    rw at (
    ap (λ (f : ℕ → Tuple → Call). option_and_then (λ (n : ℕ). option_map (f n) (slice_get tuples (n - 1))) (fetch (w.cursors c) (length tuples) x.queue x.overflow)) calls_on
    ∙ mapped r tuples (fetch (w.cursors c) (length tuples) x.queue x.overflow)
    ∙ ap (λ (o : Option ℕ). option_map (call_of r) (option_and_then (λ (n : ℕ). option_map (λ (t : Tuple). (t, n, length tuples)) (slice_get tuples (n - 1))) o)) (sym found)
    ∙ ap (λ (l : List Tuple). option_map (call_of r) (option_and_then (λ (n : ℕ). option_map (λ (t : Tuple). (t, n, length l)) (slice_get l (n - 1))) (fetch index (length (fused v.arrivals v.roles)) v.queue v.overflow))) (sym same_tuples)
    )
