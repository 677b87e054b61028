-- The messages that a writer is given stand in chunks that end where they have to.
use Rattle.std.proofs.Common.{◌≡◌, ℕ, List, [], ◌∷◌, ◌++◌, refl, sym, ap, ◌∙◌, append_assoc, append-nil}
use Rattle.cy_section.specs.declared.types.BodyMessage.{BodyMessage}
use Rattle.cy_section.specs.declared.types.Channel.{Channel}
use Rattle.cy_section.specs.Chunks.{AreChunksOf}
use Rattle.cy_writer.specs.Given.{Given, with_message, messages_of, IsCut}
use Rattle.cy_writer.proofs.Cut.{message_cut, message_last}
use Rattle.cy_writer.specs.RecordWrites.{given_channels, with_messages, chunks_given}

cut_all : (g : Given) (messages : List BodyMessage) → IsCut g → IsCut (with_messages g messages)
cut_all g [] cut = cut
cut_all g (m ∷ rest) cut = cut_all (with_message g m) rest (message_cut g m cut)

all_messages : (g : Given) (messages : List BodyMessage) → messages_of (with_messages g messages) ≡ messages_of g ++ messages
all_messages g [] = sym (append-nil (messages_of g))
all_messages g (m ∷ rest) =
    all_messages (with_message g m) rest
    ∙ ap (λ (ms : List BodyMessage). ms ++ rest) (message_last g m)
    ∙ append_assoc (messages_of g) (m ∷ []) rest

-- so they are the chunks of the messages
pub are_chunks_given : (name : List ℕ) (channels : List Channel) (messages : List BodyMessage) → AreChunksOf messages (chunks_given name channels messages)
are_chunks_given name channels messages = record {
  whole = all_messages (given_channels name channels) messages;
  cut = (cut_all (given_channels name channels) messages (record { chunks = refl; begun = λ none. refl })).chunks;
}
