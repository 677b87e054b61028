use Rattle.std.proofs.Common.{◌∷◌, [], length-append, arith}
use Rattle.cy_reader.proofs.Tied.{tied-added}
use Rattle.cy_reader.proofs.channels.add.Goals as goal

pub returns-in_ok-push-in-Ok-clause-kept : goal.returns-in_ok-push-in-Ok-clause-kept
returns-in_ok-push-in-Ok-clause-kept c =
    let list = c.args.channels.now.list.items in
    let room = c.in-Ok.ensures in
    let longer = length-append list (c.args.known ∷ []) in
    record {
      small = rw (c.in_ok-push-in-Ok.ensures.items, room.list) room.fits;
      tied = rw (c.in_ok-push-in-Ok.ensures.items, room.list) (tied-added c.args.channels.now.numbers c.make_room.new.channels.numbers list c.args.known c.requires.tied c.requires.fresh room.kept);
      grown = rw (c.in_ok-push-in-Ok.ensures.items, room.list) (omega (arith, longer));
    }
