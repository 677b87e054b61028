-- What is found of a record before its text is made.
use Rattle.std.specs.Prelude.{◌≡◌, ⊤, ℕ, ◌<◌, nat_eq, ◌&&◌, Bool, List, [], length, slice_index_or}
use Rattle.std.specs.HashSet.{HashSet, contains_by}
use Rattle.cy_section.specs.declared.types.IndexEntry.{IndexEntry}
use Rattle.cy_reader.specs.declared.known.Known.{Known}
use Rattle.cy_info.specs.declared.facts.IndexFound.{IndexFound}
use Rattle.cy_info.specs.declared.facts.IndexFound.TheVariants.{Present}
use Rattle.cy_info.specs.declared.facts.Facts.{Facts}
use Rattle.cy_cut.specs.declared.heads.PlacedHead.{PlacedHead}
use Rattle.cy_reader.specs.Record.{Contents}
use Rattle.cy_info.specs.Info.{channels_of, count_on, counted_of, index_found, is_head}
use Rattle.cy_info.specs.Info.{channel_line, entry_line, numbered}

-- The number of messages on each channel, where they stand on these.
pub record AreCounts (on : List ℕ) (channels : ℕ) (counts : List ℕ) : Type 0 where
  pub all : length counts ≡ channels
  pub each : (n : ℕ) → n < channels → slice_index_or counts n 0 ≡ count_on n on

-- The line of a channel, by its number.
abbrev pub counted_line : List ℕ → ℕ → Known → List ℕ
counted_line counts n known = channel_line known (slice_index_or counts n 0)

-- Whether the head of a section of this type stands at a place, as the places say at which heads
-- stand, each with the number of its section's type.
abbrev pub has_head : {S : Type 0} → HashSet (ℕ × ℕ) S → ℕ → ℕ → Bool
has_head places position number =
    contains_by (λ k. nat_eq position k.0 && nat_eq number k.1) places

abbrev pub ArePlaces : {S : Type 0} → List PlacedHead → HashSet (ℕ × ℕ) S → Type 0
ArePlaces heads places = (position number : ℕ)
    → has_head places position number ≡ is_head heads position number

-- They are needed where there are entries of an index to compare with them.
abbrev pub ArePlacesFor : {S : Type 0} → IndexFound → List PlacedHead → HashSet (ℕ × ℕ) S → Type 0
ArePlacesFor (Present entries) heads places = ArePlaces heads places
ArePlacesFor other heads places = ⊤

-- The line of an entry of the index, by its number and by the places; and all of them.
abbrev pub placed_line : {S : Type 0} → HashSet (ℕ × ℕ) S → ℕ → IndexEntry → List ℕ
placed_line places n e = entry_line n e (has_head places e.position e.kind)

abbrev pub placed_lines : {S : Type 0} → HashSet (ℕ × ℕ) S → IndexFound → List ℕ
placed_lines places (Present entries) = numbered (placed_line places) 0 entries
placed_lines places other = []

-- All of this is found of a record.
pub record AreFacts (c : Contents) (facts : Facts) : Type 0 where
  pub counted : facts.counted ≡ counted_of c
  pub counts : AreCounts (channels_of c.messages) (length c.channels) facts.counts.items
  pub index : facts.index ≡ index_found c.source.index
  pub places : ArePlacesFor facts.index c.source.heads facts.places
