use Rattle.std.proofs.Common.{refl}
use Rattle.cy_play_list.proofs.Playing.{number_given}
use Rattle.cy_play_list.proofs.play.number_of.Goals as goal

pub returns-in-Some : goal.returns-in-Some
returns-in-Some c =
    let found = rw c.in-Some.is at c.number_of.ensures.found in
    number_given c.args.names.now c.args.name.now c.in-Some.number c.requires.once found

pub returns-in-None : goal.returns-in-None
returns-in-None c =
    let none = rw c.in-None.is at c.number_of.ensures.none in
    absurd (none.0 refl c.requires.kept)
