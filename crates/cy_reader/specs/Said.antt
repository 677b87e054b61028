-- What sections say, one by one, and what their record has of it.
use Rattle.std.specs.Prelude.{◌≡◌, ◌<◌, ℕ, List, [], map, length, slice_get, Some, None, Ok}
use Rattle.std.specs.List.{flat_map}
use Rattle.cy_wire.specs.Field.{fields_of}
use Rattle.cy_msg.specs.Once.{IsOnce}
use Rattle.cy_section.specs.declared.types.SectionKind.{SectionKind}
use Rattle.cy_section.specs.declared.types.SectionKind.TheVariants as kind
use Rattle.cy_section.specs.declared.types.BodyMessage.{BodyMessage}
use Rattle.cy_section.specs.Reading.{messages_of}
use Rattle.cy_reader.specs.declared.known.Known.{Known}
use Rattle.cy_cut.specs.Sections.{WholeSection}
use Rattle.cy_reader.specs.Record.{Met, Message, Contents, nothing, add_sections, record_of}
use Rattle.cy_reader.specs.Named.{named_messages}

-- The messages of a section: those of a chunk's body.
abbrev pub messages_under : SectionKind → ℕ → List ℕ → List BodyMessage
messages_under kind.Header at body = []
messages_under kind.ChunkHeader at body = []
messages_under kind.ChunkBody at body =
    map (λ m. m.message) (messages_of (fields_of at body)).messages
messages_under kind.Index at body = []
messages_under kind.Channel at body = []

unfoldable pub section_messages : WholeSection → List BodyMessage
section_messages s = messages_under s.kind s.body_at s.body

-- The names of channels.
abbrev pub names_of : List Known → List (List ℕ)
names_of channels = map (λ (k : Known). k.channel.name) channels

-- No two channels have one name, and each message stands on one of them.
pub record StandOnChannels (channels : List Known) (messages : List Message) : Type 0 where
  pub once : IsOnce (names_of channels)
  pub on_channels : (n : ℕ) (m : Message) → slice_get messages n ≡ Some m
      → m.channel < length channels

-- The messages of sections that are met are theirs, in file order, each on the channel of its name;
-- and no two channels have one name.
pub record IsSaid (sections : List WholeSection) (met : Met) : Type 0 where
  pub messages : named_messages met ≡ flat_map section_messages sections
  pub once : IsOnce (names_of met.channels)

abbrev pub MeetsWhatIsSaid : Type 0
MeetsWhatIsSaid = (sections : List WholeSection) (met : Met)
    → add_sections sections None nothing ≡ Ok met → IsSaid sections met

-- No two channels of a record have one name.
abbrev pub NamesDiffer : Type 0
NamesDiffer = (name file : List ℕ) (c : Contents) → record_of name file ≡ Ok c
    → IsOnce (names_of c.channels)
