-- Several records joined to one: all their messages, on channels that are united by their names.
use Rattle.std.specs.Prelude.{ℕ, ◌≡◌, ◌+◌, ◌==◌, ◌&&◌, nat_lt, not, Bool, false, if◌then◌else◌}
use Rattle.std.specs.Prelude.{List, length, Option, Some, None, Result, Ok, Err}
use Rattle.std.specs.List.{find}
use Rattle.std.specs.Option.{option_map}
use Rattle.std.specs.Str.{bytes_eq}
use Rattle.cy_section.specs.declared.types.Channel.{Channel}
use Rattle.cy_reader.specs.declared.error.LoadError.{LoadError}
use Rattle.cy_reader.specs.declared.error.LoadError.TheVariants.{FileTooLarge}
use Rattle.cy_reader.specs.declared.known.Known.{Known}
use Rattle.cy_reader.specs.Record.{◌>>=◌, Contents, Met, nothing, number_of}
use Rattle.cy_reader.specs.United.{IsInTime, known_in, met_joined}
use Rattle.cy_cut.specs.Sections.{longest_file}

-- What was joined so far: the bytes of all files, and what their records have together.
pub record Gathered : Type 0 where
  pub size : ℕ
  pub met : Met

abbrev pub no_records : Gathered
no_records = record { size = 0; met = nothing }

-- Two types or descriptions differ where neither is empty and they are not the same.
abbrev pub parts_differ : (kept later : List ℕ) → Bool
parts_differ kept later =
    not (length kept == 0) && (not (length later == 0) && not (bytes_eq kept later))

-- A part of a channel of a later record differs from that of the channel that has its name, if
-- there is one.
abbrev pub differs_at : (part : Channel → List ℕ) → List Known → Known → Option ℕ → Bool
differs_at part channels later None = false
differs_at part channels later (Some number) =
    parts_differ (part (known_in channels number).channel) (part later.channel)

abbrev pub differs : (part : Channel → List ℕ) → List Known → Known → Bool
differs part channels later =
    differs_at part channels later (number_of later.channel.name channels)

-- The name of the first channel of a later record in which this part differs.
abbrev pub first_differing : (part : Channel → List ℕ) → (channels later : List Known)
    → Option (List ℕ)
first_differing part channels later =
    option_map (λ k. k.channel.name) (find (differs part channels) later)

-- The files together are not longer than one file may be, and the channels are within the limits of
-- one record.
abbrev pub size_joined : ℕ → Met → Met → Result Gathered LoadError
size_joined size later met =
    if nat_lt longest_file size then Err (FileTooLarge size)
    else (met_joined later met >>= λ all. Ok (record { size = size; met = all }))

unfoldable pub record_joined : Gathered → Contents → Result Gathered LoadError
record_joined g later = size_joined (g.size + later.source.size)
    (record { channels = later.channels; messages = later.messages }) g.met

-- The same channels, with the messages in the order of time.
pub record IsOrdered (before after : Gathered) : Type 0 where
  pub channels : after.met.channels ≡ before.met.channels
  pub in_time : IsInTime before.met.messages after.met.messages
