-- A tape whose messages are told by the numbers of their names.
use Rattle.std.specs.Prelude.{ℕ, ◌<◌, ◌≤◌, List, [], length, map, slice_get, unwrap_or}
use Rattle.std.specs.List.{All}
use Rattle.cy_trace.specs.declared.named.NamedSeq.{NamedSeq}
use Rattle.cy_trace.specs.declared.named.TapeName.{TapeName}
use Rattle.cy_trace.specs.declared.trace.TapeEntry.{TapeEntry}

-- The name of a number.
abbrev pub name_by : List TapeName → ℕ → List ℕ
name_by names n = unwrap_or (slice_get (map (λ (name : TapeName). name.text) names) n) []

-- A message, by the number of its name.
abbrev pub entry_by : List TapeName → NamedSeq → TapeEntry
entry_by names m = record { name = name_by names m.name; seq = m.seq }

-- Messages, by the numbers of their names.
abbrev pub told_by : List TapeName → List NamedSeq → List TapeEntry
told_by names messages = map (entry_by names) messages

-- Each message has one of the names, of which there are no more than messages.
pub record AreNamed (names : List TapeName) (messages : List NamedSeq) : Type 0 where
  pub each : All (λ (m : NamedSeq). m.name < length names) messages
  pub few : length names ≤ length messages

-- A message of a name and a number.
abbrev pub entry_of : List ℕ × ℕ → TapeEntry
entry_of p = record { name = p.0; seq = p.1 }
