-- While another thread is behind the door, the pass makes steps and learns nothing.
use Rattle.std.proofs.Common.{◌≡◌, []}
use Rattle.cy_table.specs.Sights.{thread_in, Since}
use Rattle.cy_table.proofs.table.FlagTable.enter_at_last.Given as goal

abbrev pub invariant-loop : goal.invariant-loop
invariant-loop g l = (goal.iterator-loop g).can_next l.iterator' × (goal.iterator-loop g).is_finite l.iterator'
    × (l.pass.seat.table_id ≡ l.initial.pass.seat.table_id) × (l.pass.seat.id ≡ l.initial.pass.seat.id) × (thread_in l.pass.seat.me ≡ thread_in l.initial.pass.seat.me)
    × Since [] l.initial.pass.seat.me.0 l.pass.seat.me.0
