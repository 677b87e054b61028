use Rattle.std.proofs.Common.{rules, ◌+◌, length, refl, sym}
use Rattle.cy_writer.proofs.Chunks.{too_long, far_from_full, room}
use Rattle.cy_writer.proofs.chunk.Chunk.has_room.Goals as goal

pub returns-then-bytes-gt-CHUNK_RAW_SIZE : goal.returns-then-bytes-gt-CHUNK_RAW_SIZE
returns-then-bytes-gt-CHUNK_RAW_SIZE c messages held =
    sym (too_long messages record { channel_name = c.args.name.now; time = c.args.time; content = c.args.content.now }
    (length c.args.name.now + length c.args.content.now) refl (search rules))

pub returns-then-most-le-SURE_ROOM : goal.returns-then-most-le-SURE_ROOM
returns-then-most-le-SURE_ROOM c messages held =
    sym (far_from_full c.args.self.now messages record { channel_name = c.args.name.now; time = c.args.time; content = c.args.content.now }
    (length c.args.name.now + length c.args.content.now) held refl (search rules))

pub returns : goal.returns
returns c messages held =
    room c.args.self.now messages record { channel_name = c.args.name.now; time = c.args.time; content = c.args.content.now }
    c.saturating_add.result c.body_len.result c.message_size-size.result held c.body_len.ensures c.message_size-size.ensures c.saturating_add.ensures
