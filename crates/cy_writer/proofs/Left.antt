-- The file that a writer leaves, and what its next puts make of that.
use Rattle.std.proofs.Common.{◌≡◌, ℕ, zero, suc, ◌+◌, ◌-◌, ◌/◌, ◌≤◌, ◌⊎◌, List, [], ◌∷◌, ◌++◌, length, take, drop, Option, Some, None, refl, sym, ap, ◌∙◌, subst, inl, inr, arith, length-append, append-nil, append_assoc}
use Rattle.std.specs.Option.{option_map}
use Rattle.std.proofs.lemmas.Bool.{cases_lt}
use Rattle.std.proofs.lemmas.List.{length-drop, drop-drop, drop_all, drop_at, take_at, nil_from_length}
use Rattle.cy_store.specs.Files.{Files, Holds}
use Rattle.std.specs.FinMap.{get, insert}
use Rattle.cy_store.specs.Write.{Create, after_writes, written_at}
use Rattle.cy_wire.specs.Wire.{varint_within, varint_bytes, field_u64}
use Rattle.cy_wire.proofs.Varints.{varint_within-small, varint_within-large, varint_within-zero, length-varint_bytes, some-varint_bytes}
use Rattle.cy_section.specs.declared.types.SectionKind.TheVariants as kind
use Rattle.cy_section.specs.declared.types.ChunkHeader.{ChunkHeader}
use Rattle.cy_section.specs.declared.types.BodyMessage.{BodyMessage}
use Rattle.cy_section.specs.declared.types.Channel.{Channel}
use Rattle.cy_section.specs.Rows.{chunk_header_rows}
use Rattle.cy_section.specs.Section.{section, header_section, chunk_header_body, channel_body, chunk_body}
use Rattle.cy_section.specs.RecordText.{parts_of, index_section, incomplete_header, complete_header, chunk_header_of, chunk_header_part, chunk_body_part, greatest_time, raw_size}
use Rattle.cy_section.proofs.Lengths.{length-section}
use Rattle.cy_writer.specs.Writes.{file_after, puts_into}
use Rattle.cy_writer.specs.Given.{Given, with_channel, with_chunk, nothing_given, chunks_of, front_of, header_room, IsAsLeft, IsLeft, IsTextOf, start_puts, channel_puts, chunk_puts, close_puts}
use Rattle.cy_writer.proofs.Puts.{some_held, get-inserted, get-after, holds-after, holds_weaker, written_at-end}
use Rattle.cy_writer.proofs.Closing.{close_puts-none, text_put, text_of}
use Rattle.cy_writer.proofs.Chunks.{raw_size-push}
use Rattle.cy_writer.proofs.Standing.{front-channel, front-chunk}

-- A header of more messages is at most nine bytes shorter.

varint_within-longer : (k m n : ℕ) → m ≤ n → length (varint_within k m) ≤ length (varint_within k n)
varint_within-longer zero m n h = rw (varint_within-zero, varint_within-zero) (omega arith)
varint_within-longer (suc k) m n h = elim (cases_lt m 128) [
  | inl small ↦ rw (varint_within-small (suc k) m small) (some k n)
  | inr large ↦
      let also : 128 ≤ n = omega arith in
      rw (varint_within-large k m large, varint_within-large k n also) (omega (arith, varint_within-longer k (m / 128) (n / 128) (omega arith)))
]
  where
    some : (k n : ℕ) → 1 ≤ length (varint_within (suc k) n)
    some k n = elim (cases_lt n 128) [
      | inl small ↦ rw (varint_within-small (suc k) n small) (omega arith)
      | inr large ↦ rw (varint_within-large k n large) (omega arith)
    ]

varint_bytes-longer : (m n : ℕ) → m ≤ n → length (varint_bytes m) ≤ length (varint_bytes n)
unfolding varint_bytes
varint_bytes-longer m n h = varint_within-longer 9 m n h

length-chunk_header_body : (h : ChunkHeader) → length (chunk_header_body h)
    ≡ length (varint_bytes 8) + length (varint_bytes h.begin_time) + length (varint_bytes 16) + length (varint_bytes h.end_time)
    + length (varint_bytes 24) + length (varint_bytes h.message_number) + length (varint_bytes 32) + length (varint_bytes h.raw_size)
unfolding chunk_header_body chunk_header_rows
length-chunk_header_body h =
    let fields : chunk_header_body h ≡ field_u64 1 h.begin_time ++ (field_u64 2 h.end_time ++ (field_u64 3 h.message_number ++ (field_u64 4 h.raw_size ++ []))) = refl in
    rw fields (simp length-append (omega arith))

greatest_time-later : (xs ys : List BodyMessage) → greatest_time xs ≤ greatest_time (xs ++ ys)
greatest_time-later [] ys = omega arith
greatest_time-later (x ∷ xs) ys = omega (arith, greatest_time-later xs ys)

raw_size-later : (xs ys : List BodyMessage) → raw_size xs ≤ raw_size (xs ++ ys)
raw_size-later xs [] = omega (arith, ap raw_size (append-nil xs))
raw_size-later xs (y ∷ ys) =
    omega (arith, raw_size-push xs y, raw_size-later (xs ++ y ∷ []) ys, ap raw_size (append_assoc xs (y ∷ []) ys))

length-header-later : (xs ys : List BodyMessage) → length (chunk_header_part xs).bytes ≤ length (chunk_header_part (xs ++ ys)).bytes + 9
length-header-later xs ys =
    let few = chunk_header_of xs in
    let more = chunk_header_of (xs ++ ys) in
    omega (
      arith,
      length-section kind.ChunkHeader (chunk_header_body few),
      length-section kind.ChunkHeader (chunk_header_body more),
      length-chunk_header_body few,
      length-chunk_header_body more,
      length-varint_bytes few.begin_time,
      some-varint_bytes more.begin_time,
      varint_bytes-longer few.end_time more.end_time (greatest_time-later xs ys),
      varint_bytes-longer few.message_number more.message_number (omega (arith, length-append xs ys)),
      varint_bytes-longer few.raw_size more.raw_size (raw_size-later xs ys),
    )

-- what stands behind is no longer than the next chunk
room_in_chunk : (first later gathered : List BodyMessage) → first ++ later ≡ gathered
    → header_room first ≤ length (chunk_header_part gathered).bytes + length (chunk_body_part gathered).bytes
room_in_chunk [] later gathered e = omega arith
room_in_chunk (m ∷ rest) later gathered e =
    let whole : length (chunk_header_part ((m ∷ rest) ++ later)).bytes ≡ length (chunk_header_part gathered).bytes = ap (λ (ms : List BodyMessage). length (chunk_header_part ms).bytes) e in
    omega (arith, whole, length-header-later (m ∷ rest) later, length-section kind.ChunkBody (chunk_body gathered))

-- What is put over it.

over : (front rest piece : List ℕ) (at : ℕ) → at ≡ length front → written_at (front ++ rest) at piece ≡ (front ++ piece) ++ drop (length piece) rest
over front rest piece at e =
    let before : take at (front ++ rest) ≡ front = take_at front rest at (sym e) in
    let after : drop (at + length piece) (front ++ rest) ≡ drop (length piece) rest = drop_over front rest (length piece) at e in
    rw (before, after) refl
  where
    drop_over : (front rest : List ℕ) (n at : ℕ) → at ≡ length front → drop (at + n) (front ++ rest) ≡ drop n rest
    drop_over front rest n at e = sym (drop-drop n at (front ++ rest)) ∙ ap (drop n) (drop_at front rest at (sym e))

pub exactly : (g : Given) (bytes : List ℕ) → front_of g ≡ bytes → IsAsLeft g bytes
exactly g bytes e = record {
  rest = [];
  split = sym e ∙ sym (append-nil (front_of g));
  first = [];
  later = g.gathered;
  kept = refl;
  short = omega arith;
}

-- nothing stands behind where no chunk is kept
pub only_front : (g : Given) (bytes : List ℕ) → g.gathered ≡ [] → IsAsLeft g bytes → bytes ≡ front_of g
only_front g bytes none left =
    let empty : left.rest ≡ [] = nil_from_length left.rest (no_room left.first left.later (left.kept ∙ none) left.rest left.short) in
    left.split ∙ ap (λ (r : List ℕ). front_of g ++ r) empty ∙ append-nil (front_of g)
  where
    no_room : (first later : List BodyMessage) → first ++ later ≡ [] → (rest : List ℕ) → length rest ≤ header_room first → length rest ≡ 0
    no_room [] later e rest h = omega arith
    no_room (m ∷ ms) later e rest h = absurd (no_more (ap length e))
      where
        no_more : suc (length (ms ++ later)) ≡ 0 → ⊥
        no_more f = omega arith

-- one more message is kept
pub one_more_kept : (g : Given) (m : BodyMessage) (bytes : List ℕ) → IsAsLeft g bytes → IsAsLeft (record g { gathered = g.gathered ++ m ∷ [] }) bytes
one_more_kept g m bytes left = record {
  rest = left.rest;
  split = left.split;
  first = left.first;
  later = left.later ++ m ∷ [];
  kept = sym (append_assoc left.first left.later (m ∷ [])) ∙ ap (λ (ms : List BodyMessage). ms ++ m ∷ []) left.kept;
  short = left.short;
}

-- the header of the next chunk is put
pub header_over : (g : Given) (m : BodyMessage) (ms : List BodyMessage) (bytes : List ℕ) → g.gathered ≡ m ∷ ms → IsAsLeft g bytes
    → IsAsLeft g (written_at bytes (length (front_of g)) (chunk_header_part g.gathered).bytes)
header_over g m ms bytes some left =
    let header = (chunk_header_part g.gathered).bytes in
    let front = front_of g in
    let rest = header ++ drop (length header) left.rest in
    let is : written_at bytes (length front) header ≡ front ++ rest =
    ap (λ (b : List ℕ). written_at b (length front) header) left.split
    ∙ over front left.rest header (length front) refl ∙ append_assoc front header (drop (length header) left.rest) in
    let long : length rest ≡ length header + (length left.rest - length header) = length-append header (drop (length header) left.rest) ∙ ap (λ (n : ℕ). length header + n) (length-drop (length header) left.rest) in
    elim (cases_lt (length header) (length left.rest)) [
      | inl longer ↦ record { rest = rest; split = is; first = left.first; later = left.later; kept = left.kept; short = omega (arith, left.short, long) }
      | inr shorter ↦ record {
        rest = rest;
        split = is;
        first = g.gathered;
        later = [];
        kept = append-nil g.gathered;
        short = subst (λ (k : List BodyMessage). length rest ≤ header_room k) (sym some) (omega (arith, long, ap (λ (k : List BodyMessage). length (chunk_header_part k).bytes) some));
      }
    ]

-- both sections of it are
pub chunk_over : (g : Given) (bytes : List ℕ) → IsAsLeft g bytes → file_after bytes (chunk_puts g) ≡ front_of (with_chunk g)
chunk_over g bytes left =
    let header = (chunk_header_part g.gathered).bytes in
    let body = (chunk_body_part g.gathered).bytes in
    let front = front_of g in
    let behind = drop (length header) left.rest in
    let none : drop (length body) behind ≡ [] =
    drop_all (length body) behind (omega (arith, length-drop (length header) left.rest, left.short, room_in_chunk left.first left.later g.gathered left.kept)) in
    ap (λ (b : List ℕ). written_at (written_at b (length front) header) (length front + length header) body) left.split
    ∙ ap (λ (b : List ℕ). written_at b (length front + length header) body) (over front left.rest header (length front) refl)
    ∙ over (front ++ header) behind body (length front + length header) (sym (length-append front header))
    ∙ ap (λ (b : List ℕ). ((front ++ header) ++ body) ++ b) none
    ∙ append-nil ((front ++ header) ++ body)
    ∙ sym (front-chunk g)

-- The file in a store.

pub left_after : (g h : Given) (puts : List (ℕ × List ℕ)) (old new : Option Files) → h.name ≡ g.name
    → ((bytes : List ℕ) → IsAsLeft g bytes → IsAsLeft h (file_after bytes puts))
    → new ≡ option_map (after_writes (puts_into g.name puts)) old → IsLeft g old → IsLeft h new
left_after g h puts old new named step made left =
    subst (λ (name : List ℕ). Holds new name (IsAsLeft h)) (sym named) (holds-after g.name puts (IsAsLeft g) (IsAsLeft h) old new step made left)

pub left_channel : (g : Given) (c : Channel) (old new : Option Files) → g.closed ≡ [] → g.gathered ≡ []
    → new ≡ option_map (after_writes (puts_into g.name (channel_puts g c))) old → IsLeft g old → IsLeft (with_channel g c) new
left_channel g c old new closed none made left =
    left_after g (with_channel g c) (channel_puts g c) old new refl
    (λ bytes as_left. exactly (with_channel g c) _
    (front-channel g c closed
    ∙ sym (written_at-end (front_of g) (section kind.Channel (channel_body c)) (length (front_of g)) refl)
    ∙ ap (λ (b : List ℕ). written_at b (length (front_of g)) (section kind.Channel (channel_body c))) (sym (only_front g bytes none as_left))))
    made left

pub left_chunk : (g : Given) (old new : Option Files)
    → new ≡ option_map (after_writes (puts_into g.name (chunk_puts g))) old → IsLeft g old → IsLeft (with_chunk g) new
left_chunk g old new made left =
    left_after g (with_chunk g) (chunk_puts g) old new refl
    (λ bytes as_left. exactly (with_chunk g) _ (sym (chunk_over g bytes as_left))) made left

-- one more message is kept
pub left_more : (g : Given) (m : BodyMessage) (files : Option Files) → IsLeft g files → IsLeft (record g { gathered = g.gathered ++ m ∷ [] }) files
left_more g m files left =
    holds_weaker files g.name (IsAsLeft g) (IsAsLeft (record g { gathered = g.gathered ++ m ∷ [] })) (λ bytes as_left. one_more_kept g m bytes as_left) left

-- only the header was put
pub left_header : (g : Given) (m : BodyMessage) (ms : List BodyMessage) (old new : Option Files) → g.gathered ≡ m ∷ ms
    → new ≡ option_map (after_writes (puts_into g.name ((length (front_of g), (chunk_header_part g.gathered).bytes) ∷ []))) old → IsLeft g old → IsLeft g new
left_header g m ms old new some made left =
    left_after g g ((length (front_of g), (chunk_header_part g.gathered).bytes) ∷ []) old new refl
    (λ bytes as_left. header_over g m ms bytes some as_left) made left

-- nothing was put, or only the header
pub left_starved : (g : Given) (m : BodyMessage) (ms : List BodyMessage) (old new : Option Files) → g.gathered ≡ m ∷ ms
    → (new ≡ old) ⊎ (new ≡ option_map (after_writes (puts_into g.name ((length (front_of g), (chunk_header_part g.gathered).bytes) ∷ []))) old)
    → IsLeft g old → IsLeft g new
left_starved g m ms old new some (inl same) left = subst (λ (files : Option Files). IsLeft g files) (sym same) left
left_starved g m ms old new some (inr made) left = left_header g m ms old new some made left

-- The header of a record that is still being written is put into a file that was made.
pub left_begun : (name : List ℕ) (old new : Option Files) → new ≡ option_map (after_writes (Create name ∷ puts_into name start_puts)) old
    → IsLeft (nothing_given name) new
left_begun name None new made = rw made tt
left_begun name (Some m) new made =
    let first = header_section incomplete_header in
    let found = get-after name start_puts (insert m name []) [] (get-inserted m name []) in
    subst (λ (files : Option Files). IsLeft (nothing_given name) files) (sym made)
    (some_held (get (after_writes (puts_into name start_puts) (insert m name [])) name) (IsAsLeft (nothing_given name)) _ found
    (exactly (nothing_given name) _ (append-nil first ∙ sym (written_at-end [] first 0 refl))))

-- The file has the text once the index and the complete header are put.
pub text_left : (g : Given) (old new : Option Files) → g.gathered ≡ []
    → new ≡ option_map (after_writes (puts_into g.name (close_puts g))) old → IsLeft g old → Holds new g.name (IsTextOf g)
text_left g old new none made left =
    holds-after g.name (close_puts g) (IsAsLeft g) (IsTextOf g) old new
    (λ bytes as_left. text_of g _
    (ap (λ (puts : List (ℕ × List ℕ)). file_after bytes puts) (close_puts-none g none)
    ∙ ap (λ (b : List ℕ). written_at (written_at b (length (front_of g)) (index_section (parts_of g.channels g.closed))) 0 (header_section (complete_header g.channels (chunks_of g)))) (only_front g bytes none as_left)
    ∙ text_put g (length (front_of g)) none refl))
    made left
