use Rattle.std.proofs.Common.{◌≡◌}
use Rattle.cy_table.specs.Calls.{made_of, seat_of}
use Rattle.cy_run.specs.private.Sending.{fills_in, FillsOn}
use Rattle.cy_run.proofs.deliver.fill_roles.Given as goal

abbrev pub invariant-loop-role : goal.invariant-loop-role
invariant-loop-role g l = FillsOn l.table l.token l.initial.pass l.pass
    × ((seat_of l.pass).fills ≡ fills_in (made_of l.table).routes l.token.channel l.component l.role l.readers)
