use Rattle.std.proofs.Common.{◌≡◌}
use Rattle.cy_table.specs.Calls.{made_of, seat_of}
use Rattle.cy_run.specs.private.Sending.{news_at, Tells, TellsOn}
use Rattle.cy_run.proofs.deliver.tell_all.Given as goal

abbrev pub invariant-loop-component : goal.invariant-loop-component
invariant-loop-component l = Tells l.table l.pass × TellsOn l.table l.initial.pass l.pass
    × ((seat_of l.pass).news ≡ news_at (made_of l.table).routes l.channel l.component)
