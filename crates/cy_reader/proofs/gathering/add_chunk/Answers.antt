use Rattle.std.proofs.Common.{length, ap, arith}
use Rattle.cy_cut.specs.Sections.{WholeSection}
use Rattle.cy_cut.specs.Found.{seen_section}
use Rattle.cy_reader.proofs.Bodies.{chunk_leads}
use Rattle.cy_reader.proofs.gathering.add_chunk.Goals as goal

pub add_body-requires-clause-few : goal.add_body-requires-clause-few
add_body-requires-clause-few c = omega (arith, ap (λ (s : WholeSection). length s.body) c.view_of.ensures, c.requires.room.1)

pub returns-clause-met : goal.returns-clause-met
returns-clause-met c =
    chunk_leads c.add_body.result (seen_section c.view_of.result) c.args.part.now c.args.before.now c.as_slice-bytes.result.now c.args.loading.now c.add_body.new.loading c.view_of.ensures c.as_slice-bytes.ensures c.requires.sound
    c.add_body.ensures.met
