-- What a fetch finds is within what is planned.
use Rattle.std.proofs.Common.{ℕ, ◌≡◌, ◌≤◌, sym, ◌∙◌, ap, subst, arith, List, length, Some, slice_get}
use Rattle.cy_msg.specs.Tuple.{messages_of}
use Rattle.cy_fuse.specs.Laws.{FetchesFind}
use Rattle.cy_comp.specs.declared.call.Call.{Call}
use Rattle.wake_core.specs.declared.entries.TheConstants.{MOST_PLANNED}
use Rattle.wake_core.specs.Run.{Route}
use Rattle.wake_core.specs.Planned.{planned_count, first_reader}
use Rattle.wake_core.specs.Plain.{Plain, tail_at}
use Rattle.wake_core.specs.Events.{next_call}
use Rattle.wake_core.specs.Sound.{Consistent}
use Rattle.wake_core.specs.Fields.{IsFixed}
use Rattle.wake_core.proofs.Making.{IsMade, call_made}
use Rattle.wake_core.proofs.Joining.{fused_messages}
use Rattle.wake_core.proofs.Arriving.{fused_planned, planned_trigger}

same_route : (w : Plain) (c : ℕ) (call : Call) (m : IsMade w c call) (x : Route) → slice_get w.routes c ≡ Some x → m.route ≡ x
same_route w c call m x at = let same : Some m.route ≡ Some x = sym m.at ∙ at in cc

pub found_messages : (w : Plain) (c : ℕ) (x : Route) (call : Call) → next_call w c ≡ Some call → slice_get w.routes c ≡ Some x → IsFixed w.routes w.counts
    → length (messages_of call.tuple) ≡ length x.readers
found_messages w c x call some at fixed =
    let m = call_made w c call some in
    fused_messages (length m.route.readers) (w.arrivals c) (fixed.some_reader c m.route m.at) (fixed.few_readers c m.route m.at) _ call.tuple m.tuple
    ∙ ap (λ (y : Route). length y.readers) (same_route w c call m x at)

pub found_position : FetchesFind → (w : Plain) (c : ℕ) (x : Route) (call : Call) → next_call w c ≡ Some call → slice_get w.routes c ≡ Some x → Consistent w
    → call.position ≤ planned_count w.routes w.counts (first_reader x)
found_position law w c x call some at s =
    let m = call_made w c call some in
    let to_tail = (law.bounds (w.cursors c) (tail_at m.route w c) m.route.queue m.route.overflow call.position m.position).to_tail in
    let few = fused_planned w c m.route m.at s in
    subst (λ (y : Route). call.position ≤ planned_count w.routes w.counts (first_reader y)) (same_route w c call m x at) (omega (arith, to_tail, few))

pub planned_kept : (routes : List Route) (counts : List ℕ) (c : ℕ) (x : Route) → slice_get routes c ≡ Some x → IsFixed routes counts → planned_count routes counts (first_reader x) ≤ MOST_PLANNED
planned_kept routes counts c x at fixed =
    let one = planned_trigger routes counts c x at in
    let most = fixed.limited in
    omega (arith, one, most)
