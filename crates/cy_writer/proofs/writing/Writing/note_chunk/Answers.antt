use Rattle.std.proofs.Common.{rules, ◌≡◌, ◌+◌, ◌++◌, ◌∷◌, [], List, ℕ, length, refl, ap, arith, ◌∙◌}
use Rattle.cy_section.specs.declared.types.ChunkHeader.{ChunkHeader}
use Rattle.cy_section.specs.RecordText.{chunk_header_part}
use Rattle.cy_writer.specs.declared.kept.KeptChunk.{KeptChunk}
use Rattle.cy_writer.proofs.Standing.{stands_chunk}
use Rattle.cy_writer.proofs.writing.Writing.note_chunk.Goals as goal

pub returns : goal.returns
returns c = record {
  given = λ given held header body at end.
      let old = c.args.self.now in
      let place : c.args.prepared.now.body_position ≡ old.place + length (chunk_header_part given.gathered).bytes = at ∙ ap (λ (b : List ℕ). old.place + length b) header in
      let Chunk : ℕ → ChunkHeader → List KeptChunk = λ n h. old.chunks.items ++ record { header_position = old.place; body_position = n; header = h } ∷ [] in
      stands_chunk old _ given held refl refl
      (c.push_reserved.ensures.items ∙ ap (λ (n : ℕ). Chunk n old.chunk.header) place ∙ ap (Chunk _) held.chunk.header)
      (end ∙ omega (arith, place, ap length body))
      c.clear.ensures refl;
  name = search rules;
  place = search rules;
  channels = search rules;
}
