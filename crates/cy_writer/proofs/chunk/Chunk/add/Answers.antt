use Rattle.std.proofs.Common.{◌++◌, ◌∙◌, List, ℕ, ap, sym, refl, length}
use Rattle.cy_section.specs.declared.types.BodyMessage.{BodyMessage}
use Rattle.cy_section.specs.declared.types.ChunkHeader.{ChunkHeader}
use Rattle.cy_section.specs.Section.{message_field}
use Rattle.cy_writer.specs.private.Counted.{counted_with}
use Rattle.cy_writer.proofs.Chunks.{chunk_more}
use Rattle.cy_writer.proofs.chunk.Chunk.add.Goals as goal

pub returns-clause-added : goal.returns-clause-added
returns-clause-added c messages held =
    let m : BodyMessage = record { channel_name = c.args.name.now; time = c.args.time; content = c.args.content.now } in
    let begun = c.begin.ensures.same messages held in
    chunk_more c.begin.new.self _ messages m begun
    (c.in_ok-header.ensures.counted ∙ ap (λ (h : ChunkHeader). counted_with h m.time (length m.content)) (sym c.begin.ensures.header))
    (rw c.put.ensures.first (c.in_ok-begin.ensures.first messages m held refl))
    (c.in_ok-put.ensures.put ∙ ap (λ (bytes : List ℕ). bytes ++ message_field m) begun.body)
