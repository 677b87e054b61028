-- A seat is split off the player's.
use Rattle.std.proofs.Common.{[], ap, arith}
use Rattle.atomic_table.specs.Table.{Me}
use Rattle.wake_core.specs.WorldOf.{plain_of}
use Rattle.cy_table.specs.declared.part.Part.{Part}
use Rattle.cy_table.specs.Seats.{Sight}
use Rattle.cy_table.specs.Sights.{staying}
use Rattle.cy_table.proofs.Marking.{since_is, since_split}
use Rattle.cy_table.proofs.Words.{splits}
use Rattle.cy_table.proofs.table.FlagTable.split.Goals as goal

pub split_seat-seat-requires : goal.split_seat-seat-requires
split_seat-seat-requires c =
    let table = c.args.self.now.table.shared in
    let made = plain_of table.key.value in
    let seat = c.args.pass.now.seat in
    (c.requires.mine.at.table, omega (arith, c.args.self.now.words), splits c.bench_steps.ensures made seat.id seat.me.0 c.requires.mine.at.live c.requires.mine.player)

pub returns-clause-noted : goal.returns-clause-noted
returns-clause-noted c = let v = c.args.pass.now.seat.me.0 in since_is [] v (staying v) _ (since_split v) (ap (λ (m : Me Part Sight). m.0) c.split_seat-seat.ensures.2)
