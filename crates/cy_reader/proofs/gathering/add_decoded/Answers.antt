use Rattle.std.proofs.Common.{refl, arith}
use Rattle.cy_reader.proofs.Growing.{alone_few}
use Rattle.cy_reader.proofs.Moved.{alone_leads}
use Rattle.cy_reader.proofs.gathering.add_decoded.Goals as goal

pub add_alone-met-requires-clause-few : goal.add_alone-met-requires-clause-few
add_alone-met-requires-clause-few c = omega (arith, alone_few c.args.part.now c.in-Some.alone (rw c.in-Some.is at c.requires.alone), c.requires.room.1)

pub returns-in-Some-clause-met : goal.returns-in-Some-clause-met
returns-in-Some-clause-met c =
    alone_leads c.add_alone-met.result c.args.part.now c.in-Some.alone c.args.before.now c.args.loading.now c.add_alone-met.new.loading (rw c.in-Some.is at c.requires.alone)
    (c.add_alone-met.ensures.met c.args.before.now c.args.part.now.body refl)
