-- Which messages of a record are played, and in which order.
use Rattle.std.specs.Prelude.{◌≡◌, ◌⊎◌, ℕ, ℤ, ◌+◌, ◌<◌, ◌≤◌, ◌==◌, Bool, not, ◌&&◌}
use Rattle.std.specs.Prelude.{List, [], ◌∷◌, ◌++◌, length, filter, slice_index_or, zero, suc, All}
use Rattle.std.specs.Prelude.{Option, Some, unwrap_or, Result, IfOk, OnOk, IfErr}
use Rattle.std.specs.List.{Contains, position, list_any}
use Rattle.std.specs.List.Sorted.{IsPermutation, IsSortedByKey, IsStableByKey}
use Rattle.std.specs.Ordering.{nat_cmp}
use Rattle.std.specs.Str.{bytes_eq}
use Rattle.cy_value.specs.Values.{form_of, value_by}
use Rattle.cy_value.specs.declared.values.ChannelValue.{ChannelValue}
pub use Rattle.cy_msg.specs.Tokens.{most_played}
use Rattle.cy_msg.specs.declared.token.Token.{Token}
use Rattle.cy_msg.specs.declared.play_list.PlayList.{PlayList}
use Rattle.cy_msg.specs.declared.filter.Filter.{Filter}
use Rattle.cy_msg.specs.Filter.{lets_channel, lets_time}
use Rattle.cy_reader.specs.declared.error.LoadError.{LoadError}
use Rattle.cy_reader.specs.declared.error.LoadError.TheVariants.{TooManyPlayed, Memory}
use Rattle.cy_reader.specs.Named.{message_at}
use Rattle.cy_reader.specs.Record.{Contents, named_only}

-- What a record is played by: the names of the channels in the order of their numbers, the filter,
-- the numbers of the channels that components write and of the tick channels, and where the values
-- of messages are.
pub record Choice : Type 0 where
  pub names : List (List ℕ)
  pub filter : Filter
  pub written : List ℕ
  pub values : List ChannelValue

-- The number of a name.
abbrev pub number_in : List (List ℕ) → List ℕ → ℕ
number_in names name = unwrap_or (position (λ kept. bytes_eq kept name) names) 0

-- The name of a channel of the record.
abbrev pub name_of : Contents → ℕ → List ℕ
name_of whole channel =
    (slice_index_or whole.channels channel (named_only [])).channel.name

-- The time of the message at a place, and its channel's number by the names.
abbrev pub time_at : Contents → ℕ → ℕ
time_at whole place = (message_at whole place).time

abbrev pub number_at : Contents → Choice → ℕ → ℕ
number_at whole choice place = number_in choice.names
    (name_of whole (message_at whole place).channel)

-- The value of the message at a place: its channel says where that is in the content.
abbrev pub value_at : Contents → Choice → ℕ → Option ℤ
value_at whole choice place = let m = message_at whole place in
    value_by (form_of choice.values (name_of whole m.channel)) m.content

-- The message at a place passes the filter. Then it is shadowed where a component or a timer writes
-- its channel, and played where none does.
abbrev pub passes : Contents → Choice → ℕ → Bool
passes whole choice place =
    lets_channel choice.filter (name_of whole (message_at whole place).channel)
    && lets_time choice.filter (time_at whole place)

abbrev pub is_written : Contents → Choice → ℕ → Bool
is_written whole choice place =
    list_any (λ number. number == number_at whole choice place) choice.written

abbrev pub is_played : Contents → Choice → ℕ → Bool
is_played whole choice place =
    passes whole choice place && not (is_written whole choice place)

abbrev pub is_shadowed : Contents → Choice → ℕ → Bool
is_shadowed whole choice place =
    passes whole choice place && is_written whole choice place

-- The places of all messages, in file order: from 0 up to their number.
abbrev pub places_below : ℕ → List ℕ
places_below zero = []
places_below (suc n) = places_below n ++ n ∷ []

abbrev pub all_places : Contents → List ℕ
all_places whole = places_below (length whole.messages)

-- The places of the messages that are played, in file order.
abbrev pub chosen : Contents → Choice → List ℕ
chosen whole choice = filter (is_played whole choice) (all_places whole)

-- The message of a place as it is played behind others, where each place has the number of its
-- channel and the value of its message: it has the next number on that channel.
abbrev pub token_behind : (ℕ → ℕ) → (ℕ → Option ℤ) → Contents → List ℕ → ℕ → Token
token_behind number value whole before place = record {
  channel = number place;
  seq = length (filter (λ other. number other == number place) before) + 1;
  time = time_at whole place;
  whole = value place;
  origin = Some (length before);
}

abbrev pub tokens_behind : (ℕ → ℕ) → (ℕ → Option ℤ) → Contents → List ℕ → List ℕ → List Token
tokens_behind number value whole before [] = []
tokens_behind number value whole before (place ∷ rest) =
    token_behind number value whole before place
    ∷ tokens_behind number value whole (before ++ place ∷ []) rest

-- The places in the order of play: those of the messages that are played, by time, and equal times
-- in file order.
pub record IsOrder (whole : Contents) (choice : Choice) (places : List ℕ) : Type 0 where
  pub same : IsPermutation (chosen whole choice) places
  pub by_time : IsSortedByKey (time_at whole) nat_cmp places
  pub stable : IsStableByKey (time_at whole) nat_cmp (chosen whole choice) places

-- The play list of a record.
pub record IsPlayList (whole : Contents) (choice : Choice) (list : PlayList) : Type 0 where
  pub order : IsOrder whole choice list.places
  pub tokens : list.tokens
      ≡ tokens_behind (number_at whole choice) (value_at whole choice) whole [] list.places
  pub shadowed : list.shadowed
      ≡ length (filter (is_shadowed whole choice) (all_places whole))

-- More are to be played than can be, and this is their number.
abbrev pub IsTooMany : Contents → Choice → LoadError → Type 0
IsTooMany whole choice e = (most_played < length (chosen whole choice))
    × (e ≡ TooManyPlayed (length (chosen whole choice)))

-- What `play_list` answers: the play list where not too many are played, or their number; or that
-- there is no memory for it.
pub record PlayAnswer (whole : Contents) (choice : Choice) (result : Result PlayList LoadError) :
    Type 0 where
  pub list : IfOk result (IsPlayList whole choice)
  pub few : OnOk result (length (chosen whole choice) ≤ most_played)
  pub refused : IfErr result (λ e. (e ≡ Memory) ⊎ IsTooMany whole choice e)

-- Every channel of the record stands among the names.
abbrev pub AreNamed : Contents → List (List ℕ) → Type 0
AreNamed whole names = All (λ known. Contains names known.channel.name) whole.channels
