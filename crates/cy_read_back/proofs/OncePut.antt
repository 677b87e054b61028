-- The pieces of a record that are put are its sections, one by one.
use Rattle.std.proofs.Common.{◌≡◌, ℕ, ◌+◌, ◌-◌, ◌≤◌, List, [], ◌∷◌, ◌++◌, length, map, refl, sym, ap, ◌∙◌, arith, length-append, Some}
use Rattle.std.specs.List.{AllByRecursion, flat_map}
use Rattle.cy_section.specs.declared.types.BodyMessage.{BodyMessage}
use Rattle.cy_section.specs.declared.types.Channel.{Channel}
use Rattle.cy_section.specs.declared.types.SectionKind.TheVariants as kind
use Rattle.cy_section.specs.Section.{section, channel_body, chunk_header_body, chunk_body, index_body}
use Rattle.cy_section.specs.Chunks.{messages_in}
use Rattle.cy_section.specs.RecordText.{Part, bytes_of, parts_of, channel_part, chunk_header_part, chunk_body_part, chunk_header_of, header_end, index_section}
use Rattle.cy_section.proofs.Lengths.{length-section}
use Rattle.cy_cut.specs.Heads.{PlacedIndex, index_head}
use Rattle.cy_writer.specs.RecordWrites.{record_puts, record_sections}
use Rattle.cy_writer.specs.Writes.{placed}
use Rattle.cy_read_back.specs.Records.{heads_from, text_entries, text_index}
use Rattle.cy_read_back.specs.Puts.{ArePutOnce, put_range, section_range}
use Rattle.cy_read_back.proofs.TextFits.{join_all}
use Rattle.cy_read_back.proofs.TextMet.{chunk_parts}

-- each part has a head
abbrev HasHead : Part → Type 0
HasHead p = 16 ≤ length p.bytes

channels_have : (others : List BodyMessage) (cs : List Channel) → AllByRecursion HasHead (map (channel_part others) cs)
channels_have others [] = tt
channels_have others (c ∷ cs) = (omega (arith, length-section kind.Channel (channel_body c)), channels_have others cs)

chunks_have : (chunks : List (List BodyMessage)) → AllByRecursion HasHead (chunk_parts chunks)
chunks_have [] = tt
chunks_have (chunk ∷ chunks) = (
  omega (arith, length-section kind.ChunkHeader (chunk_header_body (chunk_header_of chunk))),
  (omega (arith, length-section kind.ChunkBody (chunk_body chunk)), chunks_have chunks),
)

-- the pieces from a place on
ranges : (parts : List Part) (at : ℕ) (last : List ℕ) (i : PlacedIndex) → AllByRecursion HasHead parts → i.at ≡ at + length (bytes_of parts) → length last ≡ 16 + i.size
    → map put_range (placed at (map (λ (p : Part). p.bytes) parts ++ last ∷ [])) ≡ map section_range (heads_from at parts ++ index_head (Some i))
ranges [] at last i have there size =
    let here : at ≡ i.at = omega (arith, there) in
    ap (λ (n : ℕ). (n, length last) ∷ []) here ∙ ap (λ (n : ℕ). (i.at, n) ∷ []) size
ranges (p ∷ rest) at last i have there size =
    let whole : length p.bytes ≡ 16 + (length p.bytes - 16) = omega (arith, have.0) in
    let next : i.at ≡ at + length p.bytes + length (bytes_of rest) = omega (arith, there, length-append p.bytes (bytes_of rest)) in
    let more = ranges rest (at + length p.bytes) last i have.1 next size in
    ap (λ (n : ℕ). (at, n) ∷ map put_range (placed (at + length p.bytes) (map (λ (q : Part). q.bytes) rest ++ last ∷ []))) whole
    ∙ ap (λ (l : List (ℕ × ℕ)). (at, 16 + (length p.bytes - 16)) ∷ l) more

pub put_once : (channels : List Channel) (chunks : List (List BodyMessage)) → ArePutOnce channels chunks
unfolding record_puts
put_once channels chunks =
    let parts = parts_of channels chunks in
    let have = join_all HasHead (map (channel_part (messages_in chunks)) channels) (chunk_parts chunks) (channels_have (messages_in chunks) channels) (chunks_have chunks) in
    record {
      pieces = placed header_end (record_sections channels chunks);
      puts = refl;
      sections = ranges parts header_end (index_section parts) (text_index channels chunks) have refl (omega (arith, length-section kind.Index (index_body (text_entries channels chunks))));
    }
