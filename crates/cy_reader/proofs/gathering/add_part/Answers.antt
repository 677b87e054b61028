use Rattle.cy_cut.specs.Cutting.{seen_part}
use Rattle.cy_reader.specs.private.Loading.{met_of}
use Rattle.cy_reader.proofs.Bodies.{chunk_section}
use Rattle.cy_reader.proofs.gathering.add_part.Goals as goal

pub returns-in-ChunkBody-clause-met : goal.returns-in-ChunkBody-clause-met
returns-in-ChunkBody-clause-met c =
    rw (chunk_section (seen_part c.args.part) (met_of c.args.bodies.now.items c.args.loading.now) c.in-ChunkBody.is) c.keep_chunk.ensures.met
