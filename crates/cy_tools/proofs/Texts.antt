-- What is written of messages that are kept is their record text.
use Rattle.std.proofs.Common.{◌≡◌, ◌<◌, ℕ, List, [], ◌∷◌, length, map, refl, ap, ◌∙◌, arith, Some, slice_get}
use Rattle.std.proofs.lemmas.List.{length-map, get_or-map}
use Rattle.std.proofs.lemmas.Option.{slice_get-get_or}
use Rattle.cy_msg.specs.Once.{IsOnce}
use Rattle.cy_section.specs.declared.types.Channel.{Channel}
use Rattle.cy_reader.specs.declared.known.Known.{Known}
use Rattle.cy_reader.specs.Record.{Met, Message, named_only}
use Rattle.cy_reader.specs.Named.{name_in, with_name}
use Rattle.cy_reader.specs.Said.{StandOnChannels, names_of}
use Rattle.cy_writer.proofs.OrderNames.{names_follow}
use Rattle.cy_writer.proofs.RecordChunks.{are_chunks_given}
use Rattle.cy_tools.specs.Kept.{channel_at, numbers_of, channels_with, messages_with, chunks_with, IsKeptText}

-- a channel's name
name_there : (channels : List Known) (c : ℕ) → c < length channels → slice_get (names_of channels) c ≡ Some (name_in channels c)
name_there channels c low =
    slice_get-get_or (names_of channels) c [] (omega (arith, low, length-map channels (λ (k : Known). k.channel.name)))
    ∙ ap (λ (n : List ℕ). Some n) (get_or-map (λ (k : Known). k.channel.name) channels c (named_only []) [] low)

-- two channels of one name are one
pub one_channel : (channels : List Known) (c d : ℕ) → IsOnce (names_of channels) → c < length channels → d < length channels → name_in channels c ≡ name_in channels d → c ≡ d
one_channel channels c d once low_c low_d same =
    once c d (name_in channels d) (name_there channels c low_c ∙ ap (λ (n : List ℕ). Some n) same) (name_there channels d low_d)

names_in : (channels : List Known) (numbers : List ℕ) → map (λ (c : Channel). c.name) (map (channel_at channels) numbers) ≡ map (name_in channels) numbers
names_in channels [] = refl
names_in channels (n ∷ rest) = ap (λ (l : List (List ℕ)). name_in channels n ∷ l) (names_in channels rest)

pub kept_text : (name : List ℕ) (met : Met) (kept : List Message) → StandOnChannels met.channels kept → IsKeptText name met kept
kept_text name met kept stand =
    let own = λ (c d : ℕ). one_channel met.channels c d stand.once in
    record {
      named = names_in met.channels (numbers_of kept)
          ∙ names_follow (λ (m : Message). m.channel) (with_name met.channels) (name_in met.channels) (λ c. c < length met.channels) (λ m. refl) own kept stand.on_channels;
      chunks = chunks_with name met kept;
      cut = are_chunks_given name (channels_with met kept) (messages_with met kept);
      text = refl;
    }
