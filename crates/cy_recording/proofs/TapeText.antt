-- What is written of a tape is the record text of its messages.
use Rattle.std.proofs.Common.{◌≡◌, ◌<◌, ℕ, List, [], ◌∷◌, length, map, refl, ◌∙◌}
use Rattle.cy_msg.specs.Names.{channel_name}
use Rattle.cy_msg.specs.Once.{IsOnce}
use Rattle.cy_msg.specs.declared.token.Token.{Token}
use Rattle.cy_section.specs.declared.types.Channel.{Channel}
use Rattle.cy_section.specs.RecordText.{IsRecordText, record_bytes}
use Rattle.cy_recording.specs.Recording.{Source, IsWritable, numbers_on, channel_of, message_of, channels_of_tape, messages_of_tape, chunks_of_tape}
use Rattle.cy_writer.proofs.OrderNames.{names_follow}
use Rattle.cy_writer.proofs.RecordChunks.{are_chunks_given}
use Rattle.cy_recording.proofs.TapeRecord.{named, one_channel}

names_of : (s : Source) (numbers : List ℕ) → map (λ (c : Channel). c.name) (map (channel_of s) numbers) ≡ map (channel_name s.names) numbers
names_of s [] = refl
names_of s (n ∷ rest) = (λ i. named s n i ∷ names_of s rest i)

pub record_text : (name : List ℕ) (s : Source) (tape : List Token) → IsOnce s.names → IsWritable s tape
    → IsRecordText (channels_of_tape s tape) (messages_of_tape s tape) (record_bytes (channels_of_tape s tape) (chunks_of_tape name s tape))
record_text name s tape once writable =
    let own = λ (c d : ℕ). one_channel s.names c d once in
    record {
      named = names_of s (numbers_on tape)
          ∙ names_follow (λ (t : Token). t.channel) (message_of s) (channel_name s.names) (λ c. c < length s.names) (λ t. refl) own tape writable.channels;
      chunks = chunks_of_tape name s tape;
      cut = are_chunks_given name (channels_of_tape s tape) (messages_of_tape s tape);
      text = refl;
    }
