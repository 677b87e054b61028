use Rattle.std.proofs.Common.{length, ap, arith}
use Rattle.cy_reader.proofs.Moved.{nothing_sound, alone_made}
use Rattle.cy_reader.proofs.decoding.alone_of.Goals as goal

pub add_chunk-requires-clause-sound : goal.add_chunk-requires-clause-sound
add_chunk-requires-clause-sound c = nothing_sound 0 c.none-loading.result c.none-loading.ensures

pub add_chunk-requires-clause-room : goal.add_chunk-requires-clause-room
add_chunk-requires-clause-room c = (omega (arith, c.requires), omega (arith, c.requires, ap length c.none-loading.ensures.messages))

pub returns-in-Ok : goal.returns-in-Ok
returns-in-Ok c =
    alone_made c.args.part.now c.of.result c.none-loading.result c.add_chunk.new.loading c.none-loading.ensures c.in-Ok.ensures.met c.of.ensures.channels c.of.ensures.messages c.in-Ok.ensures.still_sound
