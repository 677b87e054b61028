-- What becomes of the messages of each channel, as it is found once for all of them.
use Rattle.std.specs.Prelude.{◌≡◌, ℕ, ℤ, ◌+◌, ◌<◌, ◌==◌, Bool, false, not, ◌&&◌, List, [], ◌∷◌}
use Rattle.std.specs.Prelude.{◌++◌, length, filter, slice_index_or, Option, None}
use Rattle.std.specs.List.{list_any}
use Rattle.std.specs.List.Sorted.{IsSortedByKey, IsStableByKey}
use Rattle.std.specs.Ordering.{nat_cmp}
use Rattle.cy_value.specs.Values.{form_at, place_of, value_by}
use Rattle.cy_value.specs.declared.values.ChannelValue.{ChannelValue}
use Rattle.cy_msg.specs.declared.filter.Filter.{Filter}
use Rattle.cy_play_list.specs.declared.play.ChannelUse.{ChannelUse}
use Rattle.cy_reader.specs.Record.{Contents}
use Rattle.cy_msg.specs.Filter.{lets_channel, lets_time}
use Rattle.cy_play_list.specs.Play.{Choice, number_in, name_of, time_at}
use Rattle.cy_reader.specs.Named.{message_at}

-- The use of a channel's name, and those of all channels.
abbrev pub use_of : Choice → List ℕ → ChannelUse
use_of choice name = record {
  number = number_in choice.names name;
  is_let = lets_channel choice.filter name;
  is_written = list_any (λ one. one == number_in choice.names name) choice.written;
  form = place_of choice.values name;
}

abbrev pub no_use : ChannelUse
no_use = record { number = 0; is_let = false; is_written = false; form = None }

pub record AreUses (whole : Contents) (choice : Choice) (uses : List ChannelUse) : Type 0 where
  pub all : length uses ≡ length whole.channels
  pub each : (n : ℕ) → n < length uses → slice_index_or uses n no_use
      ≡ use_of choice (name_of whole n)

-- The use of the message at a place.
abbrev pub use_at : List ChannelUse → Contents → ℕ → ChannelUse
use_at uses whole place = slice_index_or uses (message_at whole place).channel no_use

abbrev pub number_by : List ChannelUse → Contents → ℕ → ℕ
number_by uses whole place = (use_at uses whole place).number

abbrev pub value_from : List ChannelUse → List ChannelValue → Contents → ℕ → Option ℤ
value_from uses values whole place =
    value_by (form_at values (use_at uses whole place).form) (message_at whole place).content

abbrev pub passes_by : List ChannelUse → Filter → Contents → ℕ → Bool
passes_by uses f whole place = (use_at uses whole place).is_let
    && lets_time f (time_at whole place)

abbrev pub is_played_by : List ChannelUse → Filter → Contents → ℕ → Bool
is_played_by uses f whole place = passes_by uses f whole place
    && not (use_at uses whole place).is_written

abbrev pub is_shadowed_by : List ChannelUse → Filter → Contents → ℕ → Bool
is_shadowed_by uses f whole place = passes_by uses f whole place
    && (use_at uses whole place).is_written

-- Those of some places that are played, and how many are shadowed.
abbrev pub played_by : List ChannelUse → Filter → Contents → List ℕ → List ℕ
played_by uses f whole places = filter (is_played_by uses f whole) places

abbrev pub shadowed_by : List ChannelUse → Filter → Contents → List ℕ → ℕ
shadowed_by uses f whole places = length (filter (is_shadowed_by uses f whole) places)

-- These are the places of those that are played, of some that were looked at, and so many of them
-- are shadowed.
pub record ArePassed (uses : List ChannelUse) (f : Filter) (whole : Contents)
    (looked found : List ℕ) (count : ℕ) : Type 0 where
  pub places : found ≡ played_by uses f whole looked
  pub shadowed : count ≡ shadowed_by uses f whole looked

-- A place more was looked at.
pub record LooksAt (uses : List ChannelUse) (f : Filter) (whole : Contents) (place : ℕ)
    (old new : List ℕ) (before after : ℕ) : Type 0 where
  pub places : new ≡ old ++ played_by uses f whole (place ∷ [])
  pub shadowed : after ≡ before + shadowed_by uses f whole (place ∷ [])

-- Places in the order of their times, and equal times as they stood.
pub record AreInOrder (whole : Contents) (old new : List ℕ) : Type 0 where
  pub by_time : IsSortedByKey (time_at whole) nat_cmp new
  pub stable : IsStableByKey (time_at whole) nat_cmp old new
