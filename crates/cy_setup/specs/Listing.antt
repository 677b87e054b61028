-- What a replay plays: messages of its record and the ticks of its timers, and how many there are
-- on each channel.
use Rattle.std.specs.Prelude.{ℕ, ◌≡◌, ◌+◌, ◌==◌, nat_lt, if◌then◌else◌, List, [], ◌∷◌, ◌++◌, length}
use Rattle.std.specs.Prelude.{map, filter, sum_by, slice_index}
use Rattle.cy_store.specs.Reads.{Reads, Accepts, Refuses, ◌>>=◌}
use Rattle.cy_msg.specs.declared.play_list.PlayList.{PlayList}
use Rattle.cy_msg.specs.declared.token.Token.{Token}
use Rattle.cy_msg.specs.Tokens.{on_channel}
use Rattle.cy_comp.specs.declared.plan.Plan.{Plan}
use Rattle.cy_timer.specs.Merged.{IsMerged}
use Rattle.cy_timer.specs.Ticks.{ticks_between}
use Rattle.cy_timer.specs.Timers.{timers_of}
use Rattle.cy_timer.specs.declared.timer.Timer.{Timer}
use Rattle.cy_info.specs.Info.{greatest, least}
use Rattle.cy_reader.specs.declared.error.LoadError.TheVariants.{TooManyPlayed}
use Rattle.cy_msg.specs.declared.filter.Filter.{Filter}
use Rattle.cy_reader.specs.Record.{Contents}
use Rattle.cy_play_list.specs.Play.{Choice, IsPlayList, most_played, chosen, number_at}
use Rattle.cy_play_list.specs.Play.{places_below, time_at}
use Rattle.wake_core.specs.Run.{routes_of}
use Rattle.wake_core.specs.Planned.{planned}
use Rattle.wake_core.specs.declared.entries.TheConstants.{MOST_PLANNED}
use Rattle.cy_setup.specs.declared.error.Fault.{Fault}
use Rattle.cy_setup.specs.declared.error.Fault.TheVariants as fault
use Rattle.cy_setup.specs.declared.error.Refusal.{Refusal}
pub use Rattle.cy_setup.specs.RecordFile.{contents_or, record_in}
use Rattle.cy_setup.specs.Values.{values_in}
use Rattle.cy_setup.specs.Wiring.{Wired}

-- The names of a record's channels.
abbrev pub channels_of : Contents → List (List ℕ)
channels_of whole = map (λ known. known.channel.name) whole.channels

-- The channels whose messages a record has in vain: those that components write, and those of
-- ticks.
abbrev pub written_in : List Plan → List ℕ
written_in plans = map (λ p. p.out) plans ++ map (λ t. t.channel) (timers_of plans)

-- What a record is played by where components are wired so.
abbrev pub choice_of : Filter → Wired → Choice
choice_of filter w = record {
  names = w.names;
  filter = filter;
  written = written_in w.plans;
  values = values_in w.plans;
}

-- All that is played where components are wired so: the play list of some messages of a record,
-- with the ticks of the wiring's timers among them.
pub record IsListed (whole : Contents) (filter : Filter) (w : Wired) (list : PlayList) : Type 0
  where
    pub messages : PlayList
    pub chosen : IsPlayList whole (choice_of filter w) messages
    pub merged : IsMerged messages (timers_of w.plans) list

-- The times of the messages that are played, in file order.
abbrev pub times_of : Contents → Choice → List ℕ
times_of whole choice = map (time_at whole) (chosen whole choice)

-- How many ticks a timer gives while messages of these times are played: from the least time to the
-- greatest.
abbrev pub tick_number : List ℕ → Timer → ℕ
tick_number [] timer = 0
tick_number (time ∷ rest) timer =
    length (ticks_between (least (time ∷ rest)) (greatest (time ∷ rest)) timer)

-- How many messages are played on a channel, how many ticks timers give on it, and how many of both
-- there are on each of all channels.
abbrev pub played_on : Contents → Choice → ℕ → ℕ
played_on whole choice channel =
    length (filter (λ place. number_at whole choice place == channel) (chosen whole choice))

abbrev pub ticks_on : List ℕ → List Timer → ℕ → ℕ
ticks_on times timers channel =
    sum_by (λ t. if t.channel == channel then tick_number times t else 0) timers

abbrev pub counts_of : Contents → Filter → Wired → List ℕ
counts_of whole filter w =
    let choice = choice_of filter w in
    map (λ c. played_on whole choice c + ticks_on (times_of whole choice) (timers_of w.plans) c)
    (places_below (length w.names))

-- The numbers of a list's messages on each of so many channels; there are none on any other.
pub record AreCounts (channels : ℕ) (tokens : List Token) (counts : List ℕ) : Type 0 where
  pub many : length counts ≡ channels
  pub each : (channel : ℕ) → length (on_channel channel tokens) ≡ slice_index counts channel

-- A number, unless it passes a limit: then a file is refused.
abbrev pub limited : List ℕ → ℕ → (ℕ → Fault) → ℕ → Reads Refusal ℕ
limited file most fault count =
    if nat_lt most count then Refuses record { file = file; fault = fault count } else Accepts count

-- A number of messages and ticks, unless it is more than are played.
abbrev pub few_in : List ℕ → ℕ → Reads Refusal ℕ
few_in file count = limited file most_played (λ n. fault.Record (TooManyPlayed n)) count

-- How many messages of a record are played, and how many ticks and messages.
abbrev pub messages_in : List ℕ → Contents → Choice → Reads Refusal ℕ
messages_in file whole choice = few_in file (length (chosen whole choice))

abbrev pub all_count : Contents → Choice → List Timer → ℕ
all_count whole choice timers =
    length (chosen whole choice) + sum_by (tick_number (times_of whole choice)) timers

-- Too many messages are refused by themselves, and then with the ticks.
abbrev pub played_in : List ℕ → Contents → Filter → Wired → Reads Refusal ℕ
played_in file whole filter w = do
  messages ← messages_in file whole (choice_of filter w)
  few_in file (all_count whole (choice_of filter w) (timers_of w.plans))

-- How many entries are planned, where so many messages are played on each channel.
abbrev pub planned_in : List ℕ → Wired → List ℕ → Reads Refusal ℕ
planned_in file w counts =
    limited file MOST_PLANNED fault.TooMany (planned (routes_of w.plans) counts)
