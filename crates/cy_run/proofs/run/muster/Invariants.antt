use Rattle.std.proofs.Common.{◌≡◌, All, length}
use Rattle.std.specs.Vec.Iter.{into_iter_items, into_iter_len}
use Rattle.cy_table.specs.Calls.{seat_of}
use Rattle.cy_run.specs.Passes.{IsFree}
use Rattle.cy_run.specs.Playing.{IsFreePlayer}
use Rattle.cy_run.proofs.run.muster.Given as goal

abbrev pub invariant-loop-worker : goal.invariant-loop-worker
invariant-loop-worker l =
    (goal.iterator-loop-worker).can_next l.worker-iterator × (goal.iterator-loop-worker).is_finite l.worker-iterator
    × (into_iter_len l.worker-iterator ≡ length (into_iter_items l.worker-iterator))
    × IsFreePlayer l.table l.player × ((seat_of l.player).split ≡ length (into_iter_items l.worker-iterator))
    × ((seat_of l.player).played ≡ (seat_of l.initial.player).played) × ((seat_of l.player).clock ≡ (seat_of l.initial.player).clock)
    × ((seat_of l.player).raised ≡ (seat_of l.initial.player).raised)
    × All (λ w. IsFree l.table w.pass) (into_iter_items l.worker-iterator)
