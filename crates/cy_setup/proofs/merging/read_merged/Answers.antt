use Rattle.std.proofs.lemmas.Result.{err_from_is_err_and}
use Rattle.cy_salvage.specs.Joined.{Gathered}
use Rattle.cy_setup.proofs.JoinedRecords.{all_joined, join_stops, record_joins, record_stops}
use Rattle.cy_setup.proofs.merging.read_merged.Goals as goal

pub returns-in_err-merged-in-Ok : goal.returns-in_err-merged-in-Ok
returns-in_err-merged-in-Ok g c =
    let p = err_from_is_err_and c.from_residual.result c.from_residual.ensures.1 in
    rw (p.1, p.2) (join_stops (λ (m : Gathered). m) c.args.names.now c.loop-name.name-index _ c.loop-name.merged c.in-Ok.later _ _ _ _ _ c.loop-name.invariant c.loop-name-test.true c.in-Ok.ensures c.in_err-merged-in-Ok.ensures)

pub returns-in-Err : goal.returns-in-Err
returns-in-Err g c = record_stops (λ (m : Gathered). m) c.args.names.now c.loop-name.name-index _ c.loop-name.merged c.in-Err.error _ _ _ c.loop-name.invariant c.loop-name-test.true c.in-Err.ensures

pub loop-name-preserved : goal.loop-name-preserved
loop-name-preserved g c = record_joins c.args.names.now c.loop-name.name-index _ c.loop-name.merged c.in_ok-merged-in-Ok.merged c.in-Ok.later _ _ _ _ c.loop-name.invariant c.loop-name-test.true c.in-Ok.ensures c.in_ok-merged-in-Ok.ensures

pub returns : goal.returns
returns g c = all_joined c.args.names.now c.loop-name.name-index c.loop-name.merged _ _ c.loop-name-test.false c.loop-name.invariant
