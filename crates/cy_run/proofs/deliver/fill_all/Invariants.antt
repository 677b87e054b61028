use Rattle.std.proofs.Common.{◌≡◌}
use Rattle.cy_table.specs.Calls.{made_of, seat_of}
use Rattle.cy_run.specs.private.Sending.{fills_at, FillsOn}
use Rattle.cy_run.proofs.deliver.fill_all.Given as goal

abbrev pub invariant-loop-component : goal.invariant-loop-component
invariant-loop-component g l = FillsOn l.table l.token l.initial.pass l.pass
    × ((seat_of l.pass).fills ≡ fills_at (made_of l.table).routes l.token.channel l.component)
