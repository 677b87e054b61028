-- What a writer stands for, step by step.
use Rattle.std.proofs.Common.{◌≡◌, ℕ, zero, suc, ◌+◌, Bool, true, false, List, [], ◌∷◌, ◌++◌, length, map, get_or, slice_set, Some, refl, sym, ap, ◌∙◌, inl, inr, ◌⊎◌, arith, append_assoc, append-nil, length-append}
use Rattle.std.specs.Prelude.{slice_get, filter, if◌then◌else◌}
use Rattle.std.specs.List.{flat_map}
use Rattle.std.specs.Str.{bytes_eq}
use Rattle.std.proofs.lemmas.Grind.{flat_map-append}
use Rattle.std.proofs.lemmas.List.{flat_map_more}
use Rattle.std.proofs.lemmas.List.Elements.{filter-append}
use Rattle.std.proofs.lemmas.Option.{none-some, same_Some}
use Rattle.std.proofs.lemmas.Slice.Eq.{bytes_eq-Decides}
use Rattle.cy_section.specs.declared.types.SectionKind.TheVariants as kind
use Rattle.cy_section.specs.declared.types.Channel.{Channel}
use Rattle.cy_section.specs.declared.types.BodyMessage.{BodyMessage}
use Rattle.cy_section.specs.Section.{section, channel_body, header_section}
use Rattle.cy_section.specs.Chunks.{messages_in, takes}
use Rattle.cy_section.specs.RecordText.{Part, parts_of, bytes_of, channel_part, chunk_header_part, chunk_body_part, chunk_header_of, count_on, incomplete_header}
use Rattle.cy_section.proofs.Lengths.{length-header_section}
use Rattle.cy_writer.specs.Given.{Given, nothing_given, message_on, with_channel, with_chunk, with_message, kept_chunk, messages_of, front_of, chunk_parts}
use Rattle.cy_writer.specs.private.Counted.{counted_with}
use Rattle.cy_writer.proofs.Chunks.{counted_more}
use Rattle.cy_writer.specs.Kept.{cache_of, kept_channels, kept_chunks, IsChunkOf}
use Rattle.cy_writer.specs.Stands.{StandsFor, HaveOwnNames, IsNewName, channels_end}
use Rattle.cy_writer.specs.declared.kept.KeptChannel.{KeptChannel}
use Rattle.cy_writer.specs.declared.kept.KeptChunk.{KeptChunk}
use Rattle.cy_writer.specs.declared.writing.Writing.{Writing}

-- Bytes of parts.

pub bytes_of-append : (xs ys : List Part) → bytes_of (xs ++ ys) ≡ bytes_of xs ++ bytes_of ys
bytes_of-append xs ys = flat_map-append (λ (p : Part). p.bytes) xs ys

-- a channel's bytes do not depend on the messages
pub same_channels : (ms ns : List BodyMessage) (channels : List Channel) → bytes_of (map (channel_part ms) channels) ≡ bytes_of (map (channel_part ns) channels)
same_channels ms ns [] = refl
same_channels ms ns (c ∷ rest) = ap (λ (l : List ℕ). section kind.Channel (channel_body c) ++ l) (same_channels ms ns rest)

-- the length of the file so far
pub length-front_of : (g : Given) → length (front_of g) ≡ channels_end g.channels + length (bytes_of (flat_map chunk_parts g.closed))
length-front_of g =
    let channels = map (channel_part (messages_in g.closed)) g.channels in
    omega (
      arith,
      length-append (header_section incomplete_header) (bytes_of (parts_of g.channels g.closed)),
      length-header_section incomplete_header,
      ap length (bytes_of-append channels (flat_map chunk_parts g.closed)),
      length-append (bytes_of channels) (bytes_of (flat_map chunk_parts g.closed)),
      ap length (same_channels (messages_in g.closed) [] g.channels),
    )

-- Messages.

pub messages_of-is : (g : Given) → messages_of g ≡ messages_in g.closed ++ g.gathered
messages_of-is g = parts g.gathered
  where
    parts : (gathered : List BodyMessage) → messages_in (g.closed ++ kept_chunk gathered) ≡ messages_in g.closed ++ gathered
    parts [] = flat_map-append (λ (chunk : List BodyMessage). chunk) g.closed []
    parts (m ∷ rest) = sym (flat_map_more (λ (chunk : List BodyMessage). chunk) [] g.closed (m ∷ rest))

pub messages_of-more : (g : Given) (m : BodyMessage) → messages_of (record g { gathered = g.gathered ++ m ∷ [] }) ≡ messages_of g ++ m ∷ []
messages_of-more g m =
    messages_of-is (record g { gathered = g.gathered ++ m ∷ [] })
    ∙ sym (append_assoc (messages_in g.closed) g.gathered (m ∷ []))
    ∙ ap (λ (ms : List BodyMessage). ms ++ m ∷ []) (sym (messages_of-is g))

pub messages_of-put : (g : Given) → messages_of (with_chunk g) ≡ messages_of g
messages_of-put g =
    messages_of-is (with_chunk g)
    ∙ append-nil (messages_in (g.closed ++ g.gathered ∷ []))
    ∙ sym (flat_map_more (λ (chunk : List BodyMessage). chunk) [] g.closed g.gathered)
    ∙ sym (messages_of-is g)

-- Nothing yet.

pub stands_new : (o : Writing) (name : List ℕ) → o.name ≡ name → o.place ≡ 2064 → o.channels.items ≡ [] → o.chunks.items ≡ []
    → IsChunkOf o.chunk [] → o.counted ≡ chunk_header_of [] → StandsFor o (nothing_given name)
stands_new o name named at channels chunks chunk counted = record {
  name = named;
  own_names = λ i j c d e f. absurd (none-some c e);
  channels = channels;
  chunks = chunks;
  place = at ∙ sym (length-front_of (nothing_given name));
  chunk = chunk;
  counted = counted;
}

-- One more channel.

kept_channels-push : (at : ℕ) (ms : List BodyMessage) (channels : List Channel) (c : Channel) → kept_channels at ms (channels ++ c ∷ [])
    ≡ kept_channels at ms channels ++ record { position = at + length (bytes_of (map (channel_part []) channels)); cache = cache_of ms c } ∷ []
kept_channels-push at ms [] c = ap (λ (n : ℕ). record { position = n; cache = cache_of ms c } ∷ []) (omega arith)
kept_channels-push at ms (first ∷ rest) c =
    let size = length (section kind.Channel (channel_body first)) in
    ap (λ (ks : List KeptChannel). record { position = at; cache = cache_of ms first } ∷ ks)
    (kept_channels-push (at + size) ms rest c
    ∙ ap (λ (n : ℕ). kept_channels (at + size) ms rest ++ record { position = n; cache = cache_of ms c } ∷ [])
    (omega (arith, length-append (section kind.Channel (channel_body first)) (bytes_of (map (channel_part []) rest)))))

pub own_names_more : (channels : List Channel) (c : Channel) → HaveOwnNames channels → IsNewName c.name channels → HaveOwnNames (channels ++ c ∷ [])
own_names_more channels c own new i j d e at_i at_j same = both (which channels c i d at_i) (which channels c j e at_j)
  where
    which : (channels : List Channel) (c : Channel) (i : ℕ) (d : Channel) → slice_get (channels ++ c ∷ []) i ≡ Some d
        → (slice_get channels i ≡ Some d) ⊎ ((i ≡ length channels) × (c ≡ d))
    which [] c zero d e = inr (refl, same_Some c d e)
    which [] c (suc i) d e = absurd (none-some d e)
    which (first ∷ rest) c zero d e = inl e
    which (first ∷ rest) c (suc i) d e = later (which rest c i d e)
      where
        later : (slice_get rest i ≡ Some d) ⊎ ((i ≡ length rest) × (c ≡ d)) → (slice_get rest i ≡ Some d) ⊎ ((suc i ≡ suc (length rest)) × (c ≡ d))
        later (inl h) = inl h
        later (inr (h, k)) = inr (ap suc h, k)

    both : (slice_get channels i ≡ Some d) ⊎ ((i ≡ length channels) × (c ≡ d)) → (slice_get channels j ≡ Some e) ⊎ ((j ≡ length channels) × (c ≡ e)) → i ≡ j
    both (inl at_i) (inl at_j) = own i j d e at_i at_j same
    both (inl at_i) (inr (end_j, is_e)) = absurd (new i d at_i (same ∙ ap (λ (x : Channel). x.name) (sym is_e)))
    both (inr (end_i, is_d)) (inl at_j) = absurd (new j e at_j (sym same ∙ ap (λ (x : Channel). x.name) (sym is_d)))
    both (inr (end_i, is_d)) (inr (end_j, is_e)) = end_i ∙ sym end_j

no_chunks : (a b : ℕ) (closed : List (List BodyMessage)) → closed ≡ [] → kept_chunks a closed ≡ kept_chunks b closed
no_chunks a b [] e = refl
no_chunks a b (first ∷ rest) e = absurd (omega (arith, ap length e))

length-channels-push : (channels : List Channel) (c : Channel)
    → length (bytes_of (map (channel_part []) (channels ++ c ∷ []))) ≡ length (bytes_of (map (channel_part []) channels)) + length (section kind.Channel (channel_body c))
length-channels-push [] c = omega (arith, length-append (section kind.Channel (channel_body c)) [])
length-channels-push (first ∷ rest) c =
    omega (
      arith,
      length-append (section kind.Channel (channel_body first)) (bytes_of (map (channel_part []) (rest ++ c ∷ []))),
      length-append (section kind.Channel (channel_body first)) (bytes_of (map (channel_part []) rest)),
      length-channels-push rest c,
    )

pub stands_channel : (old new : Writing) (g : Given) (c : Channel) → StandsFor old g → g.closed ≡ [] → g.gathered ≡ [] → IsNewName c.name g.channels
    → new.name ≡ old.name → new.channels.items ≡ old.channels.items ++ record { position = old.place; cache = cache_of [] c } ∷ []
    → new.chunks.items ≡ old.chunks.items → new.place ≡ old.place + length (section kind.Channel (channel_body c))
    → IsChunkOf new.chunk g.gathered → new.counted ≡ old.counted → StandsFor new (with_channel g c)
stands_channel old new g c held closed gathered fresh name channels chunks at chunk counted =
    let none : messages_of g ≡ [] = messages_of-is g ∙ rw (closed, gathered) refl in
    let front : length (front_of g) ≡ channels_end g.channels = omega (arith, length-front_of g, ap (λ (cs : List (List BodyMessage)). length (bytes_of (flat_map chunk_parts cs))) closed) in
    let more = length-channels-push g.channels c in
    record {
      name = name ∙ held.name;
      own_names = own_names_more g.channels c held.own_names fresh;
      channels = channels
          ∙ ap (λ (ks : List KeptChannel). ks ++ record { position = old.place; cache = cache_of [] c } ∷ []) held.channels
          ∙ ap (λ (n : ℕ). kept_channels 2064 (messages_of g) g.channels ++ record { position = n; cache = cache_of [] c } ∷ []) (held.place ∙ front)
          ∙ ap (λ (ms : List BodyMessage). kept_channels 2064 (messages_of g) g.channels ++ record { position = channels_end g.channels; cache = cache_of ms c } ∷ []) (sym none)
          ∙ sym (kept_channels-push 2064 (messages_of g) g.channels c);
      chunks = chunks ∙ held.chunks ∙ no_chunks (channels_end g.channels) (channels_end (g.channels ++ c ∷ [])) g.closed closed;
      place = at ∙ omega (arith, held.place, length-front_of g, length-front_of (with_channel g c), more);
      chunk = chunk;
      counted = counted ∙ held.counted;
    }

-- the file has the channel behind what it had
pub bytes-parts : (channels : List Channel) (chunks : List (List BodyMessage))
    → bytes_of (parts_of channels chunks) ≡ bytes_of (map (channel_part []) channels) ++ bytes_of (flat_map chunk_parts chunks)
bytes-parts channels chunks =
    bytes_of-append (map (channel_part (messages_in chunks)) channels) (flat_map chunk_parts chunks)
    ∙ ap (λ (bytes : List ℕ). bytes ++ bytes_of (flat_map chunk_parts chunks)) (same_channels (messages_in chunks) [] channels)

pub front-channel : (g : Given) (c : Channel) → g.closed ≡ [] → front_of (with_channel g c) ≡ front_of g ++ section kind.Channel (channel_body c)
front-channel g c closed =
    let header = header_section incomplete_header in
    let s = section kind.Channel (channel_body c) in
    let channels = bytes_of (map (channel_part []) g.channels) in
    let alone : (cs : List Channel) → bytes_of (parts_of cs g.closed) ≡ bytes_of (map (channel_part []) cs) =
    λ cs. bytes-parts cs g.closed ∙ rw closed (append-nil (bytes_of (map (channel_part []) cs))) in
    ap (λ (b : List ℕ). header ++ b) (
    alone (g.channels ++ c ∷ [])
    ∙ channels-push g.channels c
    ∙ ap (λ (b : List ℕ). b ++ s) (sym (alone g.channels)))
    ∙ sym (append_assoc header (bytes_of (parts_of g.channels g.closed)) s)
  where
    channels-push : (cs : List Channel) (c : Channel) → bytes_of (map (channel_part []) (cs ++ c ∷ [])) ≡ bytes_of (map (channel_part []) cs) ++ section kind.Channel (channel_body c)
    channels-push [] c = append-nil (section kind.Channel (channel_body c))
    channels-push (first ∷ rest) c =
        ap (λ (b : List ℕ). section kind.Channel (channel_body first) ++ b) (channels-push rest c)
        ∙ sym (append_assoc (section kind.Channel (channel_body first)) (bytes_of (map (channel_part []) rest)) (section kind.Channel (channel_body c)))

-- The chunk is put.

kept_chunks-push : (at : ℕ) (closed : List (List BodyMessage)) (chunk : List BodyMessage) → kept_chunks at (closed ++ chunk ∷ [])
    ≡ kept_chunks at closed ++ kept_chunks (at + length (bytes_of (flat_map chunk_parts closed))) (chunk ∷ [])
kept_chunks-push at [] chunk = ap (λ (n : ℕ). kept_chunks n (chunk ∷ [])) (omega arith)
kept_chunks-push at (first ∷ rest) chunk =
    let header = (chunk_header_part first).bytes in
    let body = (chunk_body_part first).bytes in
    let k : KeptChunk = record { header_position = at; body_position = at + length header; header = chunk_header_of first } in
    ap (λ (ks : List KeptChunk). k ∷ ks)
    (kept_chunks-push (at + length header + length body) rest chunk
    ∙ ap (λ (n : ℕ). kept_chunks (at + length header + length body) rest ++ kept_chunks n (chunk ∷ []))
    (omega (arith, length-append header (body ++ bytes_of (flat_map chunk_parts rest)), length-append body (bytes_of (flat_map chunk_parts rest)))))

pub front-chunk : (g : Given) → front_of (with_chunk g) ≡ (front_of g ++ (chunk_header_part g.gathered).bytes) ++ (chunk_body_part g.gathered).bytes
front-chunk g =
    let first = header_section incomplete_header in
    let header = (chunk_header_part g.gathered).bytes in
    let body = (chunk_body_part g.gathered).bytes in
    let channels = bytes_of (map (channel_part []) g.channels) in
    let chunks = bytes_of (flat_map chunk_parts g.closed) in
    ap (λ (b : List ℕ). first ++ b) (
    bytes-parts g.channels (g.closed ++ g.gathered ∷ [])
    ∙ ap (λ (ps : List Part). channels ++ bytes_of ps) (sym (flat_map_more chunk_parts [] g.closed g.gathered))
    ∙ ap (λ (b : List ℕ). channels ++ b) (bytes_of-append (flat_map chunk_parts g.closed) (chunk_parts g.gathered)))
    ∙ seams first channels chunks header body
    ∙ ap (λ (b : List ℕ). ((first ++ b) ++ header) ++ body) (sym (bytes-parts g.channels g.closed))
  where
    seams : (first channels chunks header body : List ℕ) → first ++ (channels ++ (chunks ++ (header ++ (body ++ [])))) ≡ ((first ++ (channels ++ chunks)) ++ header) ++ body
    seams first channels chunks header body = simp (append_assoc, append-nil) refl

pub stands_chunk : (old new : Writing) (g : Given) → StandsFor old g → new.name ≡ old.name → new.channels.items ≡ old.channels.items
    → new.chunks.items ≡ old.chunks.items ++ record { header_position = old.place; body_position = old.place + length (chunk_header_part g.gathered).bytes; header = chunk_header_of g.gathered } ∷ []
    → new.place ≡ old.place + length (chunk_header_part g.gathered).bytes + length (chunk_body_part g.gathered).bytes
    → IsChunkOf new.chunk [] → new.counted ≡ old.counted → StandsFor new (with_chunk g)
stands_chunk old new g held name channels chunks at chunk counted =
    let same = messages_of-put g in
    record {
      name = name ∙ held.name;
      own_names = held.own_names;
      channels = channels ∙ held.channels ∙ ap (λ (ms : List BodyMessage). kept_channels 2064 ms g.channels) (sym same);
      chunks = chunks
          ∙ ap (λ (ks : List KeptChunk). ks ++ kept_chunks old.place (g.gathered ∷ [])) held.chunks
          ∙ ap (λ (n : ℕ). kept_chunks (channels_end g.channels) g.closed ++ kept_chunks n (g.gathered ∷ [])) (held.place ∙ length-front_of g)
          ∙ sym (kept_chunks-push (channels_end g.channels) g.closed g.gathered);
      place = at ∙ omega (
        arith,
        held.place,
        ap length (front-chunk g),
        length-append (front_of g ++ (chunk_header_part g.gathered).bytes) (chunk_body_part g.gathered).bytes,
        length-append (front_of g) (chunk_header_part g.gathered).bytes,
      );
      chunk = chunk;
      counted = counted ∙ held.counted ∙ ap chunk_header_of (sym same);
    }

-- One more message.

count_on-more : (name : List ℕ) (ms : List BodyMessage) (m : BodyMessage) → count_on name (ms ++ m ∷ []) ≡ count_on name ms + (if bytes_eq m.channel_name name then 1 else 0)
count_on-more name ms m =
    let p : BodyMessage → Bool = λ x. bytes_eq x.channel_name name in
    ap length (filter-append p ms (m ∷ [])) ∙ length-append (filter p ms) (filter p (m ∷ [])) ∙ ap (λ (n : ℕ). count_on name ms + n) (one (bytes_eq m.channel_name name) refl)
  where
    one : (b : Bool) → bytes_eq m.channel_name name ≡ b
        → length (filter (λ (x : BodyMessage). bytes_eq x.channel_name name) (m ∷ [])) ≡ (if bytes_eq m.channel_name name then 1 else 0)
    one true e = rw e refl
    one false e = rw e refl

count_here : (name : List ℕ) (ms : List BodyMessage) (m : BodyMessage) → m.channel_name ≡ name → count_on name (ms ++ m ∷ []) ≡ count_on name ms + 1
count_here name ms m e = count_on-more name ms m ∙ rw ((bytes_eq-Decides m.channel_name name).1 e) refl

count_there : (name : List ℕ) (ms : List BodyMessage) (m : BodyMessage) → (m.channel_name ≡ name → ⊥) → count_on name (ms ++ m ∷ []) ≡ count_on name ms
count_there name ms m differ = count_on-more name ms m ∙ other (bytes_eq m.channel_name name) refl
  where
    other : (b : Bool) → bytes_eq m.channel_name name ≡ b → count_on name ms + (if bytes_eq m.channel_name name then 1 else 0) ≡ count_on name ms
    other true e = absurd (differ ((bytes_eq-Decides m.channel_name name).0 e))
    other false e = rw e (omega arith)

-- a channel with one more message
abbrev pub one_more : KeptChannel → KeptChannel
one_more k = record k { cache = record k.cache { message_number = k.cache.message_number + 1 } }

kept_others : (at : ℕ) (ms : List BodyMessage) (m : BodyMessage) (channels : List Channel)
    → ((i : ℕ) (c : Channel) → slice_get channels i ≡ Some c → m.channel_name ≡ c.name → ⊥)
    → kept_channels at (ms ++ m ∷ []) channels ≡ kept_channels at ms channels
kept_others at ms m [] other = refl
kept_others at ms m (c ∷ rest) other =
    let next = at + length (section kind.Channel (channel_body c)) in
    let same = count_there c.name ms m (other 0 c refl) in
    ap (λ (n : ℕ). record { position = at; cache = record { message_number = n; name = c.name; message_type = c.message_type; proto_desc = c.proto_desc } } ∷ kept_channels next (ms ++ m ∷ []) rest) same
    ∙ ap (λ (ks : List KeptChannel). record { position = at; cache = cache_of ms c } ∷ ks) (kept_others next ms m rest (λ i d e. other (suc i) d e))

pub kept_more : (at : ℕ) (ms : List BodyMessage) (m : BodyMessage) (channels : List Channel) (i : ℕ) (c : Channel) (d : KeptChannel) → HaveOwnNames channels
    → slice_get channels i ≡ Some c → m.channel_name ≡ c.name
    → kept_channels at (ms ++ m ∷ []) channels ≡ slice_set (kept_channels at ms channels) i (one_more (get_or (kept_channels at ms channels) i d))
kept_more at ms m [] i c d own here named = absurd (none-some c here)
kept_more at ms m (first ∷ rest) zero c d own here named =
    let next = at + length (section kind.Channel (channel_body first)) in
    let same : c ≡ first = sym (same_Some first c here) in
    let more = count_here first.name ms m (named ∙ ap (λ (x : Channel). x.name) same) in
    ap (λ (n : ℕ). record { position = at; cache = record { message_number = n; name = first.name; message_type = first.message_type; proto_desc = first.proto_desc } } ∷ kept_channels next (ms ++ m ∷ []) rest) more
    ∙ ap (λ (ks : List KeptChannel). one_more record { position = at; cache = cache_of ms first } ∷ ks)
    (kept_others next ms m rest (λ j e at_j name. absurd (apart j (own zero (suc j) first e refl at_j (ap (λ (x : Channel). x.name) (sym same) ∙ sym named ∙ name)))))
  where
    apart : (j : ℕ) → zero ≡ suc j → ⊥
    apart j e = absurd (omega (arith, e))
kept_more at ms m (first ∷ rest) (suc i) c d own here named =
    let next = at + length (section kind.Channel (channel_body first)) in
    let same = count_there first.name ms m (λ name. absurd (apart i (own zero (suc i) first c refl here (sym name ∙ named)))) in
    ap (λ (n : ℕ). record { position = at; cache = record { message_number = n; name = first.name; message_type = first.message_type; proto_desc = first.proto_desc } } ∷ kept_channels next (ms ++ m ∷ []) rest) same
    ∙ ap (λ (ks : List KeptChannel). record { position = at; cache = cache_of ms first } ∷ ks)
    (kept_more next ms m rest i c d (λ j k x y at_j at_k e. before j k (own (suc j) (suc k) x y at_j at_k e)) here named)
  where
    apart : (j : ℕ) → zero ≡ suc j → ⊥
    apart j e = absurd (omega (arith, e))

    before : (j k : ℕ) → suc j ≡ suc k → j ≡ k
    before j k e = omega (arith, e)

-- a message is taken
pub stands_message : (old new : Writing) (g : Given) (m : BodyMessage) (i : ℕ) (c : Channel) (d : KeptChannel) → StandsFor old g → slice_get g.channels i ≡ Some c
    → m.channel_name ≡ c.name → takes g.gathered m ≡ true
    → new.name ≡ old.name → new.channels.items ≡ slice_set old.channels.items i (one_more (get_or old.channels.items i d))
    → new.chunks.items ≡ old.chunks.items → new.place ≡ old.place → IsChunkOf new.chunk (g.gathered ++ m ∷ [])
    → new.counted ≡ counted_with old.counted m.time (length m.content) → StandsFor new (with_message g m)
stands_message old new g m i c d held here named taken name channels chunks at chunk counted =
    rw taken record {
      name = name ∙ held.name;
      own_names = held.own_names;
      channels = channels
          ∙ ap (λ (ks : List KeptChannel). slice_set ks i (one_more (get_or ks i d))) held.channels
          ∙ sym (kept_more 2064 (messages_of g) m g.channels i c d held.own_names here named)
          ∙ ap (λ (ms : List BodyMessage). kept_channels 2064 ms g.channels) (sym (messages_of-more g m));
      chunks = chunks ∙ held.chunks;
      place = at ∙ held.place;
      chunk = chunk;
      counted = counted ∙ counted_more old.counted (messages_of g) m held.counted ∙ ap chunk_header_of (sym (messages_of-more g m));
    }

-- the name of a channel
pub name_at : (at : ℕ) (ms : List BodyMessage) (channels : List Channel) (i : ℕ) (c : Channel) (d : KeptChannel) → slice_get channels i ≡ Some c
    → (get_or (kept_channels at ms channels) i d).cache.name ≡ c.name
name_at at ms [] i c d here = absurd (none-some c here)
name_at at ms (first ∷ rest) zero c d here = ap (λ (x : Channel). x.name) (same_Some first c here)
name_at at ms (first ∷ rest) (suc i) c d here = name_at (at + length (section kind.Channel (channel_body first))) ms rest i c d here

-- the chunk's answer, asked by the kept name, is that for the channel
pub named_takes : (o : Writing) (g : Given) (i : ℕ) (c : Channel) (kept : KeptChannel) (name : List ℕ) (time : ℕ) (content : List ℕ) (answer : Bool)
    → StandsFor o g → slice_get g.channels i ≡ Some c → kept ≡ get_or o.channels.items i kept → name ≡ kept.cache.name
    → answer ≡ takes g.gathered record { channel_name = name; time = time; content = content }
    → takes g.gathered (message_on c time content) ≡ answer
named_takes o g i c kept name time content answer held here is named asked =
    let same : name ≡ c.name =
    named
    ∙ ap (λ (k : KeptChannel). k.cache.name) is
    ∙ ap (λ (ks : List KeptChannel). (get_or ks i kept).cache.name) held.channels
    ∙ name_at 2064 (messages_of g) g.channels i c kept here in
    ap (λ (n : List ℕ). takes g.gathered record { channel_name = n; time = time; content = content }) (sym same) ∙ sym asked
