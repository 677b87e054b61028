-- Within the limits, each number and length of a record's text has the bits that it needs.
use Rattle.std.proofs.Common.{◌≡◌, ℕ, ◌+◌, ◌*◌, ◌^◌, ◌<◌, ◌≤◌, List, [], ◌∷◌, ◌++◌, length, map, refl, sym, subst, arith, append_assoc, append-nil, length-append, lit<, lit≤, le_trans, Bool, true, false}
use Rattle.std.specs.Prelude.{sum_by, filter, nat_le, ◌&&◌, IsTrue}
use Rattle.std.specs.List.{AllByRecursion}
use Rattle.std.specs.Str.{IsUtf8, bytes_eq}
use Rattle.std.proofs.lemmas.Bool.{leb-true}
use Rattle.std.proofs.lemmas.List.Sums.{sum_by-cons, sum-map}
use Rattle.cy_wire.specs.Wire.{field_bytes}
use Rattle.cy_wire.proofs.Varints.{length-varint_bytes}
use Rattle.cy_section.specs.declared.types.BodyMessage.{BodyMessage}
use Rattle.cy_section.specs.declared.types.Channel.{Channel}
use Rattle.cy_section.specs.declared.types.ChannelCache.{ChannelCache}
use Rattle.cy_section.specs.declared.types.ChunkHeader.{ChunkHeader}
use Rattle.cy_section.specs.Rows.{numbered, chunk_header_rows}
use Rattle.cy_section.specs.Section.{channel_body, chunk_header_body, chunk_body, message_field, channel_cache_body}
use Rattle.cy_section.specs.Chunks.{messages_in, takes, all_taken, chunk_raw_size, chunk_interval, is_nonempty, is_full, are_chunks}
use Rattle.cy_section.specs.RecordText.{least_time, greatest_time, raw_size, count_on, chunk_header_of}
use Rattle.cy_read_back.specs.Sections.{ChannelFits, ChunkHeaderFits, MessageFits}
use Rattle.cy_section.proofs.Lengths.{length-numbers_body, length-message_field, length-of-message_field, length-message_fields}
use Rattle.cy_cut.specs.Sections.{longest_section}
use Rattle.cy_reader.specs.Record.{size_of, with_section, longest_name, longest_content, largest_channels}
use Rattle.cy_read_back.specs.Records.{IsReadableChannel, IsReadableMessage}

left_of : (a b : Bool) → IsTrue (a && b) → IsTrue a
left_of true b e = refl
left_of false b e = e

right_of : (a b : Bool) → IsTrue (a && b) → IsTrue b
right_of true b e = e
right_of false b e = absurd cc

-- what holds of all items of two lists
pub split_all : {X : Type 0} (P : X → Type 0) (xs ys : List X) → AllByRecursion P (xs ++ ys) → AllByRecursion P xs × AllByRecursion P ys
split_all P [] ys all = (tt, all)
split_all P (x ∷ xs) ys all =
    let rest = split_all P xs ys all.1 in
    ((all.0, rest.0), rest.1)

pub join_all : {X : Type 0} (P : X → Type 0) (xs ys : List X) → AllByRecursion P xs → AllByRecursion P ys → AllByRecursion P (xs ++ ys)
join_all P [] ys front back = back
join_all P (x ∷ xs) ys front back = (front.0, join_all P xs ys front.1 back)

pub each_chunk : (P : BodyMessage → Type 0) (chunks : List (List BodyMessage)) → AllByRecursion P (messages_in chunks) → AllByRecursion (AllByRecursion P) chunks
each_chunk P [] all = tt
each_chunk P (chunk ∷ chunks) all =
    let parts = split_all P chunk (messages_in chunks) all in
    (parts.0, each_chunk P chunks parts.1)

-- a message whose name and content are within their limits
pub record IsShort (m : BodyMessage) : Type 0 where
  pub name : length m.channel_name ≤ longest_name
  pub content : length m.content ≤ longest_content

-- a chunk takes it, and stays short
taken_short : (before : List BodyMessage) (m : BodyMessage) → IsTrue (takes before m) → IsShort m → length (chunk_body (before ++ m ∷ [])) ≤ longest_section
taken_short [] m e short = omega (arith, length-message_field m, length-append (message_field m) [], short.name, short.content)
taken_short (first ∷ rest) m e short =
    let size = length (chunk_body ((first ∷ rest) ++ m ∷ [])) in
    let low = leb-true size chunk_raw_size (left_of (nat_le size chunk_raw_size) (nat_le m.time (first.time + chunk_interval)) e) in
    omega arith

all_short : (before rest : List BodyMessage) → IsTrue (all_taken before rest) → length (chunk_body before) ≤ longest_section → AllByRecursion IsShort rest
    → length (chunk_body (before ++ rest)) ≤ longest_section
all_short before [] e start short = subst (λ (ms : List BodyMessage). length (chunk_body ms) ≤ longest_section) (sym (append-nil before)) start
all_short before (m ∷ rest) e start short =
    subst (λ (ms : List BodyMessage). length (chunk_body ms) ≤ longest_section) (append_assoc before (m ∷ []) rest)
    (all_short (before ++ m ∷ []) rest (right_of (takes before m) (all_taken (before ++ m ∷ []) rest) e) (taken_short before m (left_of (takes before m) (all_taken (before ++ m ∷ []) rest) e) short.0) short.1)

pub chunk_short : (chunk : List BodyMessage) → IsTrue (all_taken [] chunk) → AllByRecursion IsShort chunk → length (chunk_body chunk) ≤ longest_section
chunk_short chunk taken short = all_short [] chunk taken (lit≤ tt) short

pub each_taken : (chunks : List (List BodyMessage)) → IsTrue (are_chunks chunks) → AllByRecursion (λ chunk. IsTrue (all_taken [] chunk)) chunks
each_taken [] are = tt
each_taken (chunk ∷ later) are =
    let front = left_of (is_nonempty chunk && all_taken [] chunk && is_full chunk later) (are_chunks later) are in
    let start = left_of (is_nonempty chunk && all_taken [] chunk) (is_full chunk later) front in (
      right_of (is_nonempty chunk) (all_taken [] chunk) start,
      each_taken later (right_of (is_nonempty chunk && all_taken [] chunk && is_full chunk later) (are_chunks later) are),
    )

-- times
abbrev pub HasTime : BodyMessage → Type 0
HasTime m = m.time < 2 ^ 64

pub least_fits : (ms : List BodyMessage) → AllByRecursion HasTime ms → least_time ms < 2 ^ 64
least_fits [] all = lit< tt
least_fits (m ∷ []) all = all.0
least_fits (m ∷ n ∷ rest) all =
    let more = least_fits (n ∷ rest) all.1 in
    let here = all.0 in
    omega arith

pub greatest_fits : (ms : List BodyMessage) → AllByRecursion HasTime ms → greatest_time ms < 2 ^ 64
greatest_fits [] all = lit< tt
greatest_fits (m ∷ rest) all =
    let more = greatest_fits rest all.1 in
    let here = all.0 in
    omega arith

-- the bytes of messages are more than they, and than those of their contents
content_within : (m : BodyMessage) → length m.content + 1 ≤ length (message_field m)
content_within m = omega (arith, length-of-message_field m, length-message_fields m.channel_name m.time m.content)

pub many_bytes : (ms : List BodyMessage) → length ms ≤ length (chunk_body ms)
many_bytes [] = lit≤ tt
many_bytes (m ∷ ms) = omega (arith, content_within m, many_bytes ms, length-append (message_field m) (chunk_body ms))

contents_within : (ms : List BodyMessage) → sum_by (λ m. length m.content) ms ≤ length (chunk_body ms)
contents_within [] = lit≤ tt
contents_within (m ∷ ms) =
    omega (arith, content_within m, contents_within ms, length-append (message_field m) (chunk_body ms), sum_by-cons (λ (m : BodyMessage). length m.content) m ms)

raw_within : (ms : List BodyMessage) → raw_size ms ≤ length (chunk_body ms)
raw_within ms = subst (λ (n : ℕ). n ≤ length (chunk_body ms)) (sym (sum-map (λ (m : BodyMessage). length m.content) ms)) (contents_within ms)

pub chunk_header_fits : (chunk : List BodyMessage) → AllByRecursion HasTime chunk → length (chunk_body chunk) ≤ longest_section → ChunkHeaderFits (chunk_header_of chunk)
unfolding chunk_header_rows
chunk_header_fits chunk all short =
    let begin = least_fits chunk all in
    let end = greatest_fits chunk all in
    let many = many_bytes chunk in
    let raw = raw_within chunk in
    search (arith, begin, end, many, raw)

-- what a message's fields take
pub message_fits : (m : BodyMessage) → IsShort m → IsUtf8 m.channel_name → m.time < 2 ^ 64 → MessageFits m
message_fits m short is time =
    let name = short.name in
    let content = short.content in
    record {
      name = omega arith;
      time = time;
      content = omega arith;
      whole = omega (arith, length-message_fields m.channel_name m.time m.content, length-varint_bytes (length m.channel_name), length-varint_bytes m.time, length-varint_bytes (length m.content));
      name_is_text = is;
    }

-- channels whose names, types and descriptions are within their limit together
pub each_small : (cs : List Channel) (n : ℕ) → sum_by size_of (map with_section cs) ≤ n → AllByRecursion (λ c. size_of (with_section c) ≤ n) cs
each_small [] n small = tt
each_small (c ∷ cs) n small =
    let whole = sum_by-cons size_of (with_section c) (map with_section cs) in
    (omega arith, each_small cs n (omega arith))

pub channel_fits : (c : Channel) → IsReadableChannel c → size_of (with_section c) ≤ largest_channels → ChannelFits c
channel_fits c are small = record {
  name = omega arith;
  message_type = omega arith;
  proto_desc = omega arith;
  name_is_text = are.name_is_text;
  type_is_text = are.type_is_text;
}

pub channels_fit : (cs : List Channel) → AllByRecursion IsReadableChannel cs → AllByRecursion (λ c. size_of (with_section c) ≤ largest_channels) cs → AllByRecursion ChannelFits cs
channels_fit [] are small = tt
channels_fit (c ∷ cs) are small = (channel_fits c are.0 small.0, channels_fit cs are.1 small.1)

pub channel_short : (c : Channel) → size_of (with_section c) ≤ largest_channels → length (channel_body c) ≤ longest_section
unfolding channel_body
channel_short c small =
    simp length-append (omega (arith, length-varint_bytes 10, length-varint_bytes (length c.name), length-varint_bytes 18, length-varint_bytes (length c.message_type), length-varint_bytes 26, length-varint_bytes (length c.proto_desc)))

pub header_short : (h : ChunkHeader) → length (chunk_header_body h) ≤ longest_section
unfolding chunk_header_body chunk_header_rows
header_short h = le_trans (length-numbers_body (numbered (chunk_header_rows h))) (lit≤ tt)

-- a field with bytes, and what the index keeps of a channel
pub length-any_field : (number : ℕ) (bytes : List ℕ) → length (field_bytes number bytes) ≤ length bytes + 20
length-any_field number bytes = simp length-append (omega (arith, length-varint_bytes (8 * number + 2), length-varint_bytes (length bytes)))

pub cache_short : (c : ChannelCache) → length (channel_cache_body c) ≤ length c.name + length c.message_type + length c.proto_desc + 80
unfolding channel_cache_body
cache_short c =
    simp length-append (omega (arith, length-varint_bytes 8, length-varint_bytes c.message_number, length-varint_bytes 18, length-varint_bytes (length c.name), length-varint_bytes 26, length-varint_bytes (length c.message_type), length-varint_bytes 34, length-varint_bytes (length c.proto_desc)))

-- no more messages stand on one channel than there are
kept_within : {X : Type 0} (p : X → Bool) (xs : List X) → length (filter p xs) ≤ length xs
kept_within p [] = lit≤ tt
kept_within p (x ∷ xs) = by_first (p x) refl (kept_within p xs)
  where
    by_first : (b : Bool) → p x ≡ b → length (filter p xs) ≤ length xs → length (filter p (x ∷ xs)) ≤ length (x ∷ xs)
    by_first true is more = rw is (omega arith)
    by_first false is more = rw is (omega arith)

pub count_within : (name : List ℕ) (ms : List BodyMessage) → count_on name ms ≤ length ms
count_within name ms = kept_within (λ (m : BodyMessage). bytes_eq m.channel_name name) ms
