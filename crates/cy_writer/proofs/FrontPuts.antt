-- What is put of a record, call by call.
use Rattle.std.proofs.Common.{◌≡◌, ℕ, Bool, true, false, List, [], ◌∷◌, ◌++◌, length, map, refl, sym, ap, ◌∙◌, arith, append_assoc, append-nil, length-append}
use Rattle.std.specs.List.{flat_map}
use Rattle.std.proofs.lemmas.Grind.{flat_map-append}
use Rattle.std.proofs.lemmas.List.{map-append}
use Rattle.cy_section.specs.declared.types.SectionKind.TheVariants as kind
use Rattle.cy_section.specs.declared.types.Channel.{Channel}
use Rattle.cy_section.specs.declared.types.BodyMessage.{BodyMessage}
use Rattle.cy_section.specs.Section.{section, channel_body, header_section}
use Rattle.cy_section.specs.Chunks.{messages_in, takes}
use Rattle.cy_section.specs.RecordText.{Part, parts_of, bytes_of, channel_part, index_section, header_end, incomplete_header, complete_header}
use Rattle.cy_section.proofs.Lengths.{length-header_section}
use Rattle.cy_writer.specs.Writes.{placed}
use Rattle.cy_writer.specs.Given.{Given, with_message, chunks_of, kept_chunk, front_of, chunk_parts, chunk_puts, channel_puts, message_puts, close_puts}
use Rattle.cy_writer.proofs.Closing.{placed-append, length-sections_of}
use Rattle.cy_writer.specs.RecordWrites.{record_puts, with_messages, front_puts, given_channels}

-- The sections of parts.

abbrev pub pieces : List Part → List (List ℕ)
pieces parts = map (λ (p : Part). p.bytes) parts

same_pieces : (ms ns : List BodyMessage) (channels : List Channel) → pieces (map (channel_part ms) channels) ≡ pieces (map (channel_part ns) channels)
same_pieces ms ns [] = refl
same_pieces ms ns (c ∷ rest) = ap (λ (l : List (List ℕ)). section kind.Channel (channel_body c) ∷ l) (same_pieces ms ns rest)

pieces-parts : (channels : List Channel) (chunks : List (List BodyMessage))
    → pieces (parts_of channels chunks) ≡ pieces (map (channel_part []) channels) ++ pieces (flat_map chunk_parts chunks)
pieces-parts channels chunks =
    map-append (λ (p : Part). p.bytes) (map (channel_part (messages_in chunks)) channels) (flat_map chunk_parts chunks)
    ∙ ap (λ (l : List (List ℕ)). l ++ pieces (flat_map chunk_parts chunks)) (same_pieces (messages_in chunks) [] channels)

pieces-more : (channels : List Channel) (closed later : List (List BodyMessage))
    → pieces (parts_of channels (closed ++ later)) ≡ pieces (parts_of channels closed) ++ pieces (flat_map chunk_parts later)
pieces-more channels closed later =
    let a = pieces (map (channel_part []) channels) in
    let c = pieces (flat_map chunk_parts later) in
    pieces-parts channels (closed ++ later)
    ∙ ap (λ (ps : List Part). a ++ pieces ps) (flat_map-append chunk_parts closed later)
    ∙ ap (λ (l : List (List ℕ)). a ++ l) (map-append (λ (p : Part). p.bytes) (flat_map chunk_parts closed) (flat_map chunk_parts later))
    ∙ sym (append_assoc a (pieces (flat_map chunk_parts closed)) c)
    ∙ ap (λ (l : List (List ℕ)). l ++ c) (sym (pieces-parts channels closed))

-- what stands behind the sections put so far
front-then : (g : Given) (later : List (List ℕ)) → placed header_end (pieces (parts_of g.channels g.closed) ++ later)
    ≡ placed header_end (pieces (parts_of g.channels g.closed)) ++ placed (length (front_of g)) later
front-then g later =
    let parts = parts_of g.channels g.closed in
    placed-append header_end (pieces parts) later
    ∙ ap (λ (n : ℕ). placed header_end (pieces parts) ++ placed n later)
    (omega (arith, length-sections_of parts, length-append (header_section incomplete_header) (bytes_of parts), length-header_section incomplete_header))

-- One call more.

-- one channel more, before any message
pub front-channel : (name : List ℕ) (channels : List Channel) (c : Channel)
    → front_puts (channels ++ c ∷ []) [] ≡ front_puts channels [] ++ channel_puts (given_channels name channels) c
front-channel name channels c =
    let g : Given = given_channels name channels in
    let first : ℕ × List ℕ = (0, header_section incomplete_header) in
    let last : List (List ℕ) = section kind.Channel (channel_body c) ∷ [] in
    let alone : (cs : List Channel) → pieces (parts_of cs []) ≡ pieces (map (channel_part []) cs) = λ cs. pieces-parts cs [] ∙ append-nil (pieces (map (channel_part []) cs)) in
    let more : pieces (parts_of (channels ++ c ∷ []) []) ≡ pieces (parts_of channels []) ++ last =
    alone (channels ++ c ∷ [])
    ∙ ap pieces (map-append (channel_part []) channels (c ∷ []))
    ∙ map-append (λ (p : Part). p.bytes) (map (channel_part []) channels) (channel_part [] c ∷ [])
    ∙ ap (λ (l : List (List ℕ)). l ++ last) (sym (alone channels)) in
    ap (λ (l : List (List ℕ)). first ∷ placed header_end l) more
    ∙ ap (λ (l : List (ℕ × List ℕ)). first ∷ l) (front-then g last)

front-chunk : (g : Given) → front_puts g.channels (g.closed ++ g.gathered ∷ []) ≡ front_puts g.channels g.closed ++ chunk_puts g
front-chunk g =
    let first : ℕ × List ℕ = (0, header_section incomplete_header) in
    ap (λ (l : List (List ℕ)). first ∷ placed header_end l) (pieces-more g.channels g.closed (g.gathered ∷ []))
    ∙ ap (λ (l : List (ℕ × List ℕ)). first ∷ l) (front-then g (pieces (chunk_parts g.gathered)))

pub front-message : (g : Given) (m : BodyMessage)
    → front_puts (with_message g m).channels (with_message g m).closed ≡ front_puts g.channels g.closed ++ message_puts g m
front-message g m = either (takes g.gathered m) refl
  where
    either : (b : Bool) → takes g.gathered m ≡ b
        → front_puts (with_message g m).channels (with_message g m).closed ≡ front_puts g.channels g.closed ++ message_puts g m
    either true e = rw e (sym (append-nil (front_puts g.channels g.closed)))
    either false e = rw e (front-chunk g)

pub closing : (g : Given) → front_puts g.channels g.closed ++ close_puts g ≡ record_puts g.channels (chunks_of g)
unfolding record_puts
closing g =
    let first : ℕ × List ℕ = (0, header_section incomplete_header) in
    let front = pieces (parts_of g.channels g.closed) in
    let kept = pieces (flat_map chunk_parts (kept_chunk g.gathered)) in
    let index = index_section (parts_of g.channels (chunks_of g)) ∷ [] in
    let last : List (ℕ × List ℕ) = (0, header_section (complete_header g.channels (chunks_of g))) ∷ [] in
    ap (λ (l : List (ℕ × List ℕ)). first ∷ l) (
    sym (append_assoc (placed header_end front) (placed (length (front_of g)) (kept ++ index)) last)
    ∙ ap (λ (l : List (ℕ × List ℕ)). l ++ last) (
    sym (front-then g (kept ++ index))
    ∙ ap (placed header_end) (
    sym (append_assoc front kept index)
    ∙ ap (λ (l : List (List ℕ)). l ++ index) (sym (pieces-more g.channels g.closed (kept_chunk g.gathered))))))

-- what is put of a record after some messages is a front of what is put of all
pub rest_of : (g : Given) (later : List BodyMessage) → (more : List (ℕ × List ℕ))
    × (front_puts g.channels g.closed ++ more ≡ record_puts (with_messages g later).channels (chunks_of (with_messages g later)))
rest_of g [] = (close_puts g, closing g)
rest_of g (m ∷ rest) =
    let next = rest_of (with_message g m) rest in (
      message_puts g m ++ next.0,
      sym (append_assoc (front_puts g.channels g.closed) (message_puts g m) next.0)
          ∙ ap (λ (l : List (ℕ × List ℕ)). l ++ next.0) (sym (front-message g m))
          ∙ next.1,
    )

-- What messages leave as it is.

pub same_given : (g : Given) (m : BodyMessage) → ((with_message g m).name ≡ g.name) × ((with_message g m).channels ≡ g.channels)
same_given g m = either (takes g.gathered m) refl
  where
    either : (b : Bool) → takes g.gathered m ≡ b → ((with_message g m).name ≡ g.name) × ((with_message g m).channels ≡ g.channels)
    either true e = rw e (refl, refl)
    either false e = rw e (refl, refl)

pub same_name : (g : Given) (messages : List BodyMessage) → (with_messages g messages).name ≡ g.name
same_name g [] = refl
same_name g (m ∷ rest) = same_name (with_message g m) rest ∙ (same_given g m).0

pub same_channels : (g : Given) (messages : List BodyMessage) → (with_messages g messages).channels ≡ g.channels
same_channels g [] = refl
same_channels g (m ∷ rest) = same_channels (with_message g m) rest ∙ (same_given g m).1

pub with_messages-append : (g : Given) (ms ns : List BodyMessage) → with_messages g (ms ++ ns) ≡ with_messages (with_messages g ms) ns
with_messages-append g [] ns = refl
with_messages-append g (m ∷ rest) ns = with_messages-append (with_message g m) rest ns
