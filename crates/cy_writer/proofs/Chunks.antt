-- What a chunk is with one message more, and whether there is room for it.
use Rattle.std.proofs.Common.{◌≡◌, ℕ, suc, ◌+◌, ◌≤◌, ◌==◌, true, false, List, [], ◌∷◌, ◌++◌, length, drop, get_or, min, max, refl, ap, sym, ◌∙◌, arith, length-append}
use Rattle.std.specs.Prelude.{nat_le, if◌then◌else◌, ◌-◌, ◌^◌}
use Rattle.std.proofs.lemmas.Bool.Decides.{nat_tests}
use Rattle.std.proofs.lemmas.Bool.{lt-leb, le-leb, leb-false}
use Rattle.std.proofs.lemmas.List.{flat_map_more, length-drop}
use Rattle.std.proofs.lemmas.List.Sums.{sum-map, sum_by_push}
use Rattle.cy_section.specs.declared.types.ChunkHeader.{ChunkHeader}
use Rattle.cy_section.specs.declared.types.BodyMessage.{BodyMessage}
use Rattle.cy_section.specs.Section.{chunk_body, message_field}
use Rattle.cy_section.specs.Chunks.{chunk_raw_size}
use Rattle.cy_section.specs.RecordText.{least_time, greatest_time, raw_size, chunk_header_of}
use Rattle.cy_section.proofs.Lengths.{length-section, length-of-message_field, length-message_fields, length-message_field, length-chunk_body-more}
use Rattle.cy_section.specs.declared.types.SectionKind.{SectionKind}
use Rattle.cy_section.specs.Section.{section, head_bytes}
use Rattle.cy_section.specs.declared.types.SectionKind.TheVariants as kind
use Rattle.cy_writer.specs.declared.chunk.Chunk.{Chunk}
use Rattle.cy_writer.specs.private.Counted.{counted_with}
use Rattle.cy_writer.specs.Kept.{IsChunkOf, BeginsAt}

-- one more message behind the others
least_time-push : (first : BodyMessage) (rest : List BodyMessage) (m : BodyMessage)
    → least_time (first ∷ (rest ++ m ∷ [])) ≡ min (least_time (first ∷ rest)) m.time
least_time-push first [] m = refl
least_time-push first (next ∷ rest) m = omega (arith, least_time-push next rest m)

greatest_time-push : (messages : List BodyMessage) (m : BodyMessage)
    → greatest_time (messages ++ m ∷ []) ≡ max (greatest_time messages) m.time
greatest_time-push [] m = omega arith
greatest_time-push (first ∷ rest) m = omega (arith, greatest_time-push rest m)

pub raw_size-push : (messages : List BodyMessage) (m : BodyMessage)
    → raw_size (messages ++ m ∷ []) ≡ raw_size messages + length m.content
raw_size-push messages m =
    let size = λ (x : BodyMessage). length x.content in
    sum-map size (messages ++ m ∷ []) ∙ sum_by_push size messages m ∙ ap (λ (n : ℕ). n + length m.content) (sym (sum-map size messages))

-- the least time is the first one's, where there was none
begins : (messages : List BodyMessage) (m : BodyMessage)
    → least_time (messages ++ m ∷ []) ≡ (if length messages == 0 then m.time else min (least_time messages) m.time)
begins [] m = refl
begins (first ∷ rest) m = rw (some (length rest)) (least_time-push first rest m)
  where
    some : (n : ℕ) → (suc n == 0) ≡ false
    some n = grind (arith, nat_tests)

-- the numbers of messages with one more
pub counted_more : (h : ChunkHeader) (messages : List BodyMessage) (m : BodyMessage) → h ≡ chunk_header_of messages
    → counted_with h m.time (length m.content) ≡ chunk_header_of (messages ++ m ∷ [])
counted_more h messages m e =
    let number : length (messages ++ m ∷ []) ≡ length messages + 1 = omega (arith, length-append messages (m ∷ [])) in
    rw (e, begins messages m, greatest_time-push messages m, number, raw_size-push messages m) refl

-- a chunk with one more message, where its first one's time stands
pub chunk_more : (old new : Chunk) (messages : List BodyMessage) (m : BodyMessage) → IsChunkOf old messages
    → new.header ≡ counted_with old.header m.time (length m.content) → BeginsAt new.first_time (messages ++ m ∷ [])
    → drop 16 new.section ≡ chunk_body messages ++ message_field m
    → IsChunkOf new (messages ++ m ∷ [])
chunk_more old new messages m held header first body = record {
  header = header ∙ counted_more old.header messages m held.header;
  first = first;
  body = body ∙ flat_map_more message_field [] messages m;
}

-- a body with a message that is too long by itself
pub too_long : (messages : List BodyMessage) (m : BodyMessage) (bytes : ℕ) → bytes ≡ length m.channel_name + length m.content
    → nat_le bytes chunk_raw_size ≡ false → nat_le (length (chunk_body (messages ++ m ∷ []))) chunk_raw_size ≡ false
too_long messages m bytes e over =
    lt-leb _ _ (omega (
      arith,
      leb-false bytes chunk_raw_size over,
      e,
      length-chunk_body-more messages m,
      length-of-message_field m,
      length-message_fields m.channel_name m.time m.content,
    ))

-- a body so far from full that each message of so many bytes fits
pub far_from_full : (c : Chunk) (messages : List BodyMessage) (m : BodyMessage) (bytes : ℕ) → IsChunkOf c messages
    → bytes ≡ length m.channel_name + length m.content → length c.section + bytes ≤ chunk_raw_size - 64
    → nat_le (length (chunk_body (messages ++ m ∷ []))) chunk_raw_size ≡ true
far_from_full c messages m bytes held e few =
    le-leb _ _ (omega (
      arith,
      few,
      e,
      length-chunk_body-more messages m,
      length-message_field m,
      ap length held.body,
      length-drop 16 c.section,
    ))

same_test : (a b limit : ℕ) → (a ≤ limit → b ≤ limit) → (b ≤ limit → a ≤ limit) → nat_le a limit ≡ nat_le b limit
same_test a b limit there back = grind (arith, nat_tests)

-- whether there is room for a message, by a sum that stops at the greatest number of 64 bits
pub room : (c : Chunk) (messages : List BodyMessage) (m : BodyMessage) (total body size : ℕ) → IsChunkOf c messages
    → body ≡ length (drop 16 c.section) → size ≡ length (message_field m) → total ≡ min (body + size) (2 ^ 64 - 1)
    → nat_le total chunk_raw_size ≡ nat_le (length (chunk_body (messages ++ m ∷ []))) chunk_raw_size
room c messages m total body size held b s t =
    let whole : length (chunk_body (messages ++ m ∷ [])) ≡ body + size = omega (arith, length-chunk_body-more messages m, b, s, ap length held.body) in
    same_test total (length (chunk_body (messages ++ m ∷ []))) chunk_raw_size (λ h. omega (arith, whole, t, h)) (λ h. omega (arith, whole, t, h))

-- a section with its head has room for the head
pub headed : (k : SectionKind) (body whole : List ℕ) → whole ≡ section k body → 16 ≤ length whole
headed k body whole e = omega (arith, ap length e, length-section k body)

head_of : {X : Type 0} (x : X) (xs : List X) (y : X) (ys : List X) → x ∷ xs ≡ y ∷ ys → x ≡ y
head_of x xs y ys e = ap (λ (l : List _). get_or l 0 x) e

no_cons : {X : Type 0} (x : X) (xs : List X) → x ∷ xs ≡ [] → ⊥
no_cons x xs e = absurd (omega (arith, ap length e))

-- a chunk with a message has a first one, which stays it
pub still_first : (c : Chunk) (messages : List BodyMessage) (m : BodyMessage) → IsChunkOf c messages → (c.header.message_number ≡ 0 → ⊥)
    → BeginsAt c.first_time (messages ++ m ∷ [])
still_first c [] m held some = absurd (some (ap (λ (h : ChunkHeader). h.message_number) held.header))
still_first c (first ∷ rest) m held some = λ n later e. held.first first rest refl ∙ ap (λ (x : BodyMessage). x.time) (head_of first (rest ++ m ∷ []) n later e)

-- an empty one has none
pub no_first : (c : Chunk) (messages : List BodyMessage) → IsChunkOf c messages → c.header.message_number ≡ 0 → messages ≡ []
no_first c [] held none = refl
no_first c (first ∷ rest) held none = absurd (omega (arith, none, ap (λ (h : ChunkHeader). h.message_number) held.header))

-- the body stands behind the head
behind_head : (bytes : List ℕ) → drop 16 (section kind.ChunkBody bytes) ≡ bytes
unfolding section
behind_head bytes = refl

-- a chunk whose section got its head
pub finished : (old new : Chunk) (messages : List BodyMessage) → IsChunkOf old messages → new.header ≡ old.header → new.first_time ≡ old.first_time
    → new.section ≡ section kind.ChunkBody (drop 16 old.section) → IsChunkOf new messages
finished old new messages held header first body = record {
  header = header ∙ held.header;
  first = λ m rest e. first ∙ held.first m rest e;
  body = ap (drop 16) body ∙ behind_head (drop 16 old.section) ∙ held.body;
}

-- a chunk that is not empty has a first message
pub some_first : (c : Chunk) (messages : List BodyMessage) → IsChunkOf c messages → (c.header.message_number ≡ 0 → ⊥)
    → (m : BodyMessage) × ((rest : List BodyMessage) × (messages ≡ m ∷ rest))
some_first c [] held some = absurd (some (ap (λ (h : ChunkHeader). h.message_number) held.header))
some_first c (m ∷ rest) held some = (m, (rest, refl))

-- a chunk with no message yet, whose body is empty
pub begun : (c d : Chunk) (messages : List BodyMessage) → IsChunkOf c messages → c.header.message_number ≡ 0 → d.header ≡ c.header
    → drop 16 d.section ≡ [] → IsChunkOf d messages
begun c d messages held none header body =
    let empty : messages ≡ [] = no_first c messages held none in
    record {
      header = header ∙ held.header;
      first = λ m rest e. absurd (no_cons m rest (sym e ∙ empty));
      body = body ∙ ap chunk_body (sym empty);
    }

-- and its first time
pub begun_first : (c : Chunk) (time : ℕ) (messages : List BodyMessage) (m : BodyMessage) → IsChunkOf c messages → c.header.message_number ≡ 0
    → m.time ≡ time → BeginsAt time (messages ++ m ∷ [])
begun_first c time messages m held none same =
    let empty : messages ≡ [] = no_first c messages held none in
    λ n later e. sym same ∙ ap (λ (x : BodyMessage). x.time) (head_of m [] n later (ap (λ (ms : List BodyMessage). ms ++ m ∷ []) (sym empty) ∙ e))

-- a head alone has no body
pub head_alone : (k : SectionKind) (old whole : List ℕ) → old ≡ [] → whole ≡ old ++ head_bytes k 0 → drop 16 whole ≡ []
head_alone k old whole none e = ap (drop 16) (e ∙ ap (λ (bytes : List ℕ). bytes ++ head_bytes k 0) none)

pub head_whole : (k : SectionKind) (old whole : List ℕ) → old ≡ [] → whole ≡ old ++ head_bytes k 0 → 16 ≤ length whole
head_whole k old whole none e = omega (arith, ap length e, ap length none, length-append old (head_bytes k 0))
