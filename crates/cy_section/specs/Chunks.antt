-- Where a chunk of a record ends.
use Rattle.std.specs.Prelude.{ℕ, ◌+◌, ◌≡◌, nat_le, ◌&&◌, not, Bool, true, false, List, [], ◌∷◌}
use Rattle.std.specs.Prelude.{◌++◌, length, IsTrue}
use Rattle.std.specs.List.{flat_map}
use Rattle.cy_section.specs.declared.types.BodyMessage.{BodyMessage}
use Rattle.cy_section.specs.Section.{chunk_body}

-- The longest body of a chunk, in bytes, and the longest time from its first message to another, in
-- nanoseconds. A first message is taken however long it is.
abbrev pub chunk_raw_size : ℕ
chunk_raw_size = 200000000

abbrev pub chunk_interval : ℕ
chunk_interval = 20000000000

-- Whether a chunk that holds these messages takes a further one.
abbrev pub takes : List BodyMessage → BodyMessage → Bool
takes [] m = true
takes (first ∷ rest) m =
    nat_le (length (chunk_body ((first ∷ rest) ++ m ∷ []))) chunk_raw_size && nat_le m.time
    (first.time + chunk_interval)

-- Whether each of the messages was taken by those before it.
abbrev pub all_taken : List BodyMessage → List BodyMessage → Bool
all_taken before [] = true
all_taken before (m ∷ rest) = takes before m && all_taken (before ++ m ∷ []) rest

-- Whether a chunk is full: it does not take the message that comes next.
abbrev pub is_full : List BodyMessage → List (List BodyMessage) → Bool
is_full chunk [] = true
is_full chunk ([] ∷ later) = false
is_full chunk ((next ∷ rest) ∷ later) = not (takes chunk next)

abbrev pub is_nonempty : List BodyMessage → Bool
is_nonempty [] = false
is_nonempty (m ∷ rest) = true

-- Whether these are chunks: each holds some messages, all of which it took, and could not take the
-- next.
abbrev pub are_chunks : List (List BodyMessage) → Bool
are_chunks [] = true
are_chunks (chunk ∷ later) = is_nonempty chunk && all_taken [] chunk && is_full chunk later &&
    are_chunks later

-- The messages of chunks, in order.
abbrev pub messages_in : List (List BodyMessage) → List BodyMessage
messages_in chunks = flat_map (λ chunk. chunk) chunks

-- These are the chunks of a list of messages.
pub record AreChunksOf (messages : List BodyMessage) (chunks : List (List BodyMessage)) : Type 0
  where
    pub whole : messages_in chunks ≡ messages
    pub cut : IsTrue (are_chunks chunks)
