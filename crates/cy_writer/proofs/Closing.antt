-- What is put when a writer is closed, and the file that this leaves.
use Rattle.std.proofs.Common.{◌≡◌, ℕ, suc, ◌+◌, ◌<◌, true, List, take, get_or, [], ◌∷◌, ◌++◌, length, map, refl, sym, ap, ◌∙◌, arith, append_assoc, append-nil, length-append}
use Rattle.std.specs.List.{flat_map}
use Rattle.std.proofs.lemmas.List.{drop_at, map-append, flat_map_more, take_more}
use Rattle.cy_store.specs.Write.{written_at}
use Rattle.cy_section.specs.declared.types.SectionKind.TheVariants as kind
use Rattle.cy_section.specs.declared.types.Channel.{Channel}
use Rattle.cy_section.specs.declared.types.Header.{Header}
use Rattle.cy_section.specs.declared.types.ChunkHeader.{ChunkHeader}
use Rattle.cy_section.specs.declared.types.IndexEntry.{IndexEntry}
use Rattle.cy_section.specs.declared.types.BodyMessage.{BodyMessage}
use Rattle.cy_section.specs.Section.{section, channel_body, header_section, index_body}
use Rattle.cy_section.specs.Chunks.{messages_in}
use Rattle.cy_section.specs.RecordText.{Part, parts_of, bytes_of, entries_from, channel_part, chunk_header_part, chunk_body_part, index_section, incomplete_header, complete_header, record_bytes, chunk_header_of}
use Rattle.cy_section.proofs.Lengths.{length-header_section}
use Rattle.cy_writer.specs.Writes.{placed, puts_into}
use Rattle.cy_writer.specs.Given.{Given, with_chunk, chunks_of, kept_chunk, messages_of, front_of, chunk_parts, chunk_puts, close_puts, sections_of, IsTextOf}
use Rattle.cy_writer.specs.Kept.{kept_channels, kept_chunks, channel_entry, header_entry, body_entry}
use Rattle.cy_writer.specs.Stands.{StandsFor, channels_end}
use Rattle.cy_writer.specs.declared.kept.KeptChannel.{KeptChannel}
use Rattle.cy_writer.specs.declared.kept.KeptChunk.{KeptChunk}
use Rattle.cy_writer.specs.declared.writing.Writing.{Writing}
use Rattle.cy_writer.proofs.Puts.{written_at-end, put_of}
use Rattle.cy_writer.proofs.Standing.{same_channels, messages_of-is, front-chunk}

-- The index.

entries_from-append : (at : ℕ) (xs ys : List Part) → entries_from at (xs ++ ys) ≡ entries_from at xs ++ entries_from (at + length (bytes_of xs)) ys
entries_from-append at [] ys = ap (λ (n : ℕ). entries_from n ys) (omega arith)
entries_from-append at (x ∷ xs) ys =
    ap (λ (es : List IndexEntry). x.entry at ∷ es)
    (entries_from-append (at + length x.bytes) xs ys
    ∙ ap (λ (n : ℕ). entries_from (at + length x.bytes) xs ++ entries_from n ys) (omega (arith, length-append x.bytes (bytes_of xs))))

channel_entries : (at : ℕ) (ms : List BodyMessage) (channels : List Channel) → map channel_entry (kept_channels at ms channels) ≡ entries_from at (map (channel_part ms) channels)
channel_entries at ms [] = refl
channel_entries at ms (c ∷ rest) =
    ap (λ (es : List IndexEntry). (channel_part ms c).entry at ∷ es) (channel_entries (at + length (section kind.Channel (channel_body c))) ms rest)

chunk_entries : (at : ℕ) (closed : List (List BodyMessage))
    → flat_map (λ (k : KeptChunk). header_entry k ∷ body_entry k ∷ []) (kept_chunks at closed) ≡ entries_from at (flat_map chunk_parts closed)
chunk_entries at [] = refl
chunk_entries at (chunk ∷ rest) =
    let body_at = at + length (chunk_header_part chunk).bytes in
    ap (λ (es : List IndexEntry). (chunk_header_part chunk).entry at ∷ (chunk_body_part chunk).entry body_at ∷ es)
    (chunk_entries (body_at + length (chunk_body_part chunk).bytes) rest)

-- the entries of what was put, where no chunk is kept
pub entries_put : (o : Writing) (g : Given) → StandsFor o g → g.gathered ≡ []
    → map channel_entry o.channels.items ++ flat_map (λ (k : KeptChunk). header_entry k ∷ body_entry k ∷ []) o.chunks.items
    ≡ entries_from 2064 (parts_of g.channels g.closed)
entries_put o g held none =
    let all : messages_of g ≡ messages_in g.closed = messages_of-is g ∙ ap (λ (ms : List BodyMessage). messages_in g.closed ++ ms) none ∙ append-nil (messages_in g.closed) in
    let channels = map (channel_part (messages_in g.closed)) g.channels in
    let end : channels_end g.channels ≡ 2064 + length (bytes_of channels) = ap (λ (b : List ℕ). 2064 + length b) (same_channels [] (messages_in g.closed) g.channels) in
    let Chunks : List KeptChunk → List IndexEntry = flat_map (λ k. header_entry k ∷ body_entry k ∷ []) in
    ap (λ (ks : List KeptChannel). map channel_entry ks ++ Chunks o.chunks.items) held.channels
    ∙ ap (λ (ks : List KeptChunk). map channel_entry (kept_channels 2064 (messages_of g) g.channels) ++ Chunks ks) held.chunks
    ∙ ap (λ (ms : List BodyMessage). map channel_entry (kept_channels 2064 ms g.channels) ++ Chunks (kept_chunks (channels_end g.channels) g.closed)) all
    ∙ ap (λ (es : List IndexEntry). es ++ Chunks (kept_chunks (channels_end g.channels) g.closed)) (channel_entries 2064 (messages_in g.closed) g.channels)
    ∙ ap (λ (es : List IndexEntry). entries_from 2064 channels ++ es) (chunk_entries (channels_end g.channels) g.closed)
    ∙ ap (λ (n : ℕ). entries_from 2064 channels ++ entries_from n (flat_map chunk_parts g.closed)) end
    ∙ sym (entries_from-append 2064 channels (flat_map chunk_parts g.closed))

-- the entries of one chunk more
pub entries_more : (front : List IndexEntry) (chunks : List KeptChunk) (i : ℕ) (d : KeptChunk) (before mid new : List IndexEntry) (header body : IndexEntry)
    → before ≡ front ++ flat_map (λ (k : KeptChunk). header_entry k ∷ body_entry k ∷ []) (take i chunks) → mid ≡ before ++ header ∷ [] → new ≡ mid ++ body ∷ []
    → header ≡ header_entry (get_or chunks i d) → body ≡ body_entry (get_or chunks i d) → i < length chunks
    → new ≡ front ++ flat_map (λ (k : KeptChunk). header_entry k ∷ body_entry k ∷ []) (take (i + 1) chunks)
entries_more front chunks i d before mid new header body so_far one other of_header of_body there =
    let f : KeptChunk → List IndexEntry = λ k. header_entry k ∷ body_entry k ∷ [] in
    let both : new ≡ before ++ header ∷ body ∷ [] = other ∙ ap (λ (es : List IndexEntry). es ++ body ∷ []) one ∙ append_assoc before (header ∷ []) (body ∷ []) in
    both
    ∙ ap (λ (es : List IndexEntry). es ++ header ∷ body ∷ []) so_far
    ∙ ap (λ (h : IndexEntry). (front ++ flat_map f (take i chunks)) ++ h ∷ body ∷ []) of_header
    ∙ ap (λ (b : IndexEntry). (front ++ flat_map f (take i chunks)) ++ header_entry (get_or chunks i d) ∷ b ∷ []) of_body
    ∙ append_assoc front (flat_map f (take i chunks)) (f (get_or chunks i d))
    ∙ ap (λ (es : List IndexEntry). front ++ es) (flat_map_more f [] (take i chunks) (get_or chunks i d))
    ∙ ap (λ (ks : List KeptChunk). front ++ flat_map f ks) (sym (take_more chunks i d there))

-- the section of the index, put behind nothing
pub indexed : (whole old : List ℕ) (entries items expected : List IndexEntry) → whole ≡ old ++ section kind.Index (index_body entries) → old ≡ []
    → entries ≡ items → items ≡ expected → whole ≡ section kind.Index (index_body expected)
indexed whole old entries items expected put none of_items same =
    put ∙ ap (λ (bytes : List ℕ). bytes ++ section kind.Index (index_body entries)) none
    ∙ ap (λ (es : List IndexEntry). section kind.Index (index_body es)) (of_items ∙ same)

-- The complete header.

pub length-kept_channels : (at : ℕ) (ms : List BodyMessage) (channels : List Channel) → length (kept_channels at ms channels) ≡ length channels
length-kept_channels at ms [] = refl
length-kept_channels at ms (c ∷ rest) = ap suc (length-kept_channels (at + length (section kind.Channel (channel_body c))) ms rest)

length-kept_chunks : (at : ℕ) (closed : List (List BodyMessage)) → length (kept_chunks at closed) ≡ length closed
length-kept_chunks at [] = refl
length-kept_chunks at (chunk ∷ rest) =
    ap suc (length-kept_chunks (at + length (chunk_header_part chunk).bytes + length (chunk_body_part chunk).bytes) rest)

-- where no chunk is kept, the chunks are those that were put
pub no_more : (g : Given) → g.gathered ≡ [] → chunks_of g ≡ g.closed
no_more g none = ap (λ (ms : List BodyMessage). g.closed ++ kept_chunk ms) none ∙ append-nil g.closed

-- the header with the counted numbers
abbrev pub header_with : (position chunks channels size : ℕ) → ChunkHeader → Header
header_with position chunks channels size counted = record incomplete_header {
  index_position = position;
  chunk_number = chunks;
  channel_number = channels;
  begin_time = counted.begin_time;
  end_time = counted.end_time;
  message_number = counted.message_number;
  size = size;
  is_complete = true;
}

place_put : (o : Writing) (g : Given) → StandsFor o g → o.place ≡ 2064 + length (bytes_of (parts_of g.channels g.closed))
place_put o g held =
    held.place ∙ length-append (header_section incomplete_header) (bytes_of (parts_of g.channels g.closed))
    ∙ ap (λ (n : ℕ). n + length (bytes_of (parts_of g.channels g.closed))) (length-header_section incomplete_header)

pub header_put : (o : Writing) (g : Given) (index : List ℕ) → StandsFor o g → g.gathered ≡ [] → index ≡ index_section (parts_of g.channels g.closed)
    → header_with o.place (length o.chunks.items) (length o.channels.items) (o.place + length index) o.counted ≡ complete_header g.channels (chunks_of g)
header_put o g index held none e =
    let chunks : length o.chunks.items ≡ length g.closed = ap length held.chunks ∙ length-kept_chunks (channels_end g.channels) g.closed in
    let channels : length o.channels.items ≡ length g.channels = ap length held.channels ∙ length-kept_channels 2064 (messages_of g) g.channels in
    let counted : o.counted ≡ chunk_header_of (messages_in g.closed) =
    held.counted ∙ ap chunk_header_of (messages_of-is g ∙ ap (λ (ms : List BodyMessage). messages_in g.closed ++ ms) none ∙ append-nil (messages_in g.closed)) in
    rw (chunks, channels, counted, place_put o g held, e) refl ∙ ap (complete_header g.channels) (sym (no_more g none))

-- The writes.

pub close_puts-none : (g : Given) → g.gathered ≡ []
    → close_puts g ≡ (length (front_of g), index_section (parts_of g.channels g.closed)) ∷ (0, header_section (complete_header g.channels (chunks_of g))) ∷ []
close_puts-none g none =
    let last = (0, header_section (complete_header g.channels (chunks_of g))) ∷ [] in
    ap (λ (ms : List BodyMessage). placed (length (front_of g)) (sections_of (flat_map chunk_parts (kept_chunk ms)) ++ index_section (parts_of g.channels (chunks_of g)) ∷ []) ++ last) none
    ∙ ap (λ (chunks : List (List BodyMessage)). (length (front_of g), index_section (parts_of g.channels chunks)) ∷ last) (no_more g none)

record_bytes-is : (channels : List Channel) (chunks : List (List BodyMessage))
    → record_bytes channels chunks ≡ header_section (complete_header channels chunks) ++ (bytes_of (parts_of channels chunks) ++ index_section (parts_of channels chunks))
unfolding record_bytes
record_bytes-is channels chunks =
    append_assoc (header_section (complete_header channels chunks)) (bytes_of (parts_of channels chunks)) (index_section (parts_of channels chunks))

-- the file then has the text
pub text_put : (g : Given) (at : ℕ) → g.gathered ≡ [] → at ≡ length (front_of g)
    → written_at (written_at (front_of g) at (index_section (parts_of g.channels g.closed))) 0 (header_section (complete_header g.channels (chunks_of g)))
    ≡ record_bytes g.channels (chunks_of g)
text_put g at none e =
    let first = header_section incomplete_header in
    let last = header_section (complete_header g.channels (chunks_of g)) in
    let parts = bytes_of (parts_of g.channels g.closed) in
    let index = index_section (parts_of g.channels g.closed) in
    let length_last = length-header_section (complete_header g.channels (chunks_of g)) in
    ap (λ (bytes : List ℕ). written_at bytes 0 last) (written_at-end (front_of g) index at (sym e) ∙ append_assoc first parts index)
    ∙ ap (λ (bytes : List ℕ). last ++ bytes) (drop_at first (parts ++ index) (0 + length last) (omega (arith, length-header_section incomplete_header, length_last)))
    ∙ ap (λ (chunks : List (List BodyMessage)). last ++ (bytes_of (parts_of g.channels chunks) ++ index_section (parts_of g.channels chunks))) (sym (no_more g none))
    ∙ sym (record_bytes-is g.channels (chunks_of g))

pub text_of : (g : Given) (bytes : List ℕ) → bytes ≡ record_bytes g.channels (chunks_of g) → IsTextOf g bytes
text_of g bytes e = record {
  text = e;
  record_text = λ cut named. record { named = named; chunks = chunks_of g; cut = record { whole = refl; cut = cut.chunks }; text = e };
}

-- The last chunk first.

pub chunks_of-put : (g : Given) (m : BodyMessage) (rest : List BodyMessage) → g.gathered ≡ m ∷ rest → chunks_of (with_chunk g) ≡ chunks_of g
chunks_of-put g m rest e =
    append-nil (g.closed ++ g.gathered ∷ [])
    ∙ ap (λ (ms : List BodyMessage). g.closed ++ ms ∷ []) e
    ∙ ap (λ (ms : List BodyMessage). g.closed ++ kept_chunk ms) (sym e)

pub placed-append : (at : ℕ) (xs ys : List (List ℕ)) → placed at (xs ++ ys) ≡ placed at xs ++ placed (at + length (flat_map (λ (piece : List ℕ). piece) xs)) ys
placed-append at [] ys = ap (λ (n : ℕ). placed n ys) (omega arith)
placed-append at (x ∷ xs) ys =
    ap (λ (ps : List (ℕ × List ℕ)). (at, x) ∷ ps)
    (placed-append (at + length x) xs ys
    ∙ ap (λ (n : ℕ). placed (at + length x) xs ++ placed n ys) (omega (arith, length-append x (flat_map (λ (piece : List ℕ). piece) xs))))

pub length-sections_of : (parts : List Part) → length (flat_map (λ (piece : List ℕ). piece) (sections_of parts)) ≡ length (bytes_of parts)
length-sections_of [] = refl
length-sections_of (p ∷ rest) =
    omega (arith, length-append p.bytes (flat_map (λ (piece : List ℕ). piece) (sections_of rest)), length-append p.bytes (bytes_of rest), length-sections_of rest)

-- what is put for the last chunk, and then what is put at the end
pub close_puts-chunk : (g : Given) (m : BodyMessage) (rest : List BodyMessage) → g.gathered ≡ m ∷ rest → chunk_puts g ++ close_puts (with_chunk g) ≡ close_puts g
close_puts-chunk g m rest e =
    let pieces = sections_of (chunk_parts g.gathered) in
    let at = length (front_of g) in
    let index : List (List BodyMessage) → List ℕ = λ chunks. index_section (parts_of g.channels chunks) in
    let last : List (List BodyMessage) → List (ℕ × List ℕ) = λ chunks. (0, header_section (complete_header g.channels chunks)) ∷ [] in
    let front : length (front_of (with_chunk g)) ≡ at + length (flat_map (λ (piece : List ℕ). piece) pieces) =
    omega (
      arith,
      ap length (front-chunk g),
      length-append (front_of g ++ (chunk_header_part g.gathered).bytes) (chunk_body_part g.gathered).bytes,
      length-append (front_of g) (chunk_header_part g.gathered).bytes,
      length-append (chunk_header_part g.gathered).bytes ((chunk_body_part g.gathered).bytes ++ []),
      length-append (chunk_body_part g.gathered).bytes [],
    ) in
    ap (λ (ps : List (ℕ × List ℕ)). placed at pieces ++ ps) (close_puts-none (with_chunk g) refl)
    ∙ ap (λ (n : ℕ). placed at pieces ++ (n, index (g.closed ++ g.gathered ∷ [])) ∷ last (chunks_of (with_chunk g))) front
    ∙ ap (λ (chunks : List (List BodyMessage)). placed at pieces ++ (at + length (flat_map (λ (piece : List ℕ). piece) pieces), index (g.closed ++ g.gathered ∷ [])) ∷ last chunks) (chunks_of-put g m rest e)
    ∙ ap (λ (ms : List BodyMessage). placed at pieces ++ (at + length (flat_map (λ (piece : List ℕ). piece) pieces), index (g.closed ++ ms ∷ [])) ∷ last (chunks_of g)) e
    ∙ sym (append_assoc (placed at pieces) ((at + length (flat_map (λ (piece : List ℕ). piece) pieces), index (g.closed ++ (m ∷ rest) ∷ [])) ∷ []) (last (chunks_of g)))
    ∙ ap (λ (ps : List (ℕ × List ℕ)). ps ++ last (chunks_of g)) (sym (placed-append at pieces (index (g.closed ++ (m ∷ rest) ∷ []) ∷ [])))
    ∙ ap (λ (ms : List BodyMessage). placed at (pieces ++ index (g.closed ++ kept_chunk ms) ∷ []) ++ last (chunks_of g)) (sym e)
    ∙ ap (λ (parts : List Part). placed at (sections_of parts ++ index (chunks_of g) ∷ []) ++ last (chunks_of g)) (sym (kept_parts g.gathered m rest e))
  where
    kept_parts : (ms : List BodyMessage) (m : BodyMessage) (rest : List BodyMessage) → ms ≡ m ∷ rest → flat_map chunk_parts (kept_chunk ms) ≡ chunk_parts ms
    kept_parts ms m rest e = ap (λ (xs : List BodyMessage). flat_map chunk_parts (kept_chunk xs)) e ∙ append-nil (chunk_parts (m ∷ rest)) ∙ ap chunk_parts (sym e)

-- the text of what is then given is that of what was
pub text_then : (g : Given) (m : BodyMessage) (rest : List BodyMessage) (bytes : List ℕ) → g.gathered ≡ m ∷ rest → IsTextOf (with_chunk g) bytes → IsTextOf g bytes
text_then g m rest bytes e text = text_of g bytes (text.text ∙ ap (record_bytes g.channels) (chunks_of-put g m rest e))

-- the writes of both
pub puts_into-chunk : (g : Given) (m : BodyMessage) (rest : List BodyMessage) → g.gathered ≡ m ∷ rest
    → puts_into g.name (chunk_puts g) ++ puts_into g.name (close_puts (with_chunk g)) ≡ puts_into g.name (close_puts g)
puts_into-chunk g m rest e = sym (map-append (put_of g.name) (chunk_puts g) (close_puts (with_chunk g))) ∙ ap (puts_into g.name) (close_puts-chunk g m rest e)
