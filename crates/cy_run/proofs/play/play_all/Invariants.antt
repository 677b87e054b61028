use Rattle.std.proofs.Common.{◌≡◌, is_some}
use Rattle.cy_table.specs.Calls.{Stays, seat_of}
use Rattle.cy_run.specs.Playing.{PlaysOn, IsRaisedBefore}
use Rattle.cy_run.specs.Driving.{MayDepute}
use Rattle.cy_run.proofs.play.play_all.Given as goal

abbrev pub invariant-loop-played : goal.invariant-loop-played
invariant-loop-played g l = Stays l.table l.initial.player l.player × PlaysOn l.table l.list.tokens l.played l.initial.player l.player
    × IsRaisedBefore l.played (seat_of l.player) × MayDepute l.table l.contexts l.deputy × (is_some l.deputy ≡ is_some l.initial.deputy)
