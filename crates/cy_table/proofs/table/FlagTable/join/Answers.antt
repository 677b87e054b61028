-- A seat is joined into the player's.
use Rattle.std.proofs.Common.{arith}
use Rattle.wake_core.specs.WorldOf.{plain_of}
use Rattle.cy_table.proofs.Words.{joins}
use Rattle.cy_table.proofs.table.FlagTable.join.Goals as goal

pub join_seat-requires : goal.join_seat-requires
join_seat-requires c =
    let table = c.args.self.now.table.shared in
    let made = plain_of table.key.value in
    let seat = c.args.pass.now.seat in
    (c.requires.mine.at.table, c.requires.at.table, c.requires.out, omega (arith, c.args.self.now.words), joins c.bench_steps.ensures made seat.id seat.me.0 c.args.other.seat.id c.args.other.seat.me.0 c.requires.mine.at.live c.requires.mine.player c.requires.here c.requires.empty)
