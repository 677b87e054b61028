use Rattle.std.proofs.Common.{◌∙◌, sym, ap, List, slice_get}
use Rattle.cy_msg.specs.declared.token.Token.{Token}
use Rattle.wake_core.specs.WorldOf.{plain_of}
use Rattle.wake_core.proofs.world.World.tape_list.Goals as goal

pub returns-clause-tape : goal.returns-clause-tape
unfolding plain_of
returns-clause-tape c = c.as_slice.ensures.value

pub returns-clause-known : goal.returns-clause-known
unfolding plain_of
returns-clause-known c = λ n t at. c.args.self.now.sound.consistent.room.channels n t (ap (λ (xs : List Token). slice_get xs n) (sym c.as_slice.ensures.value) ∙ at)
