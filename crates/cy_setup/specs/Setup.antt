-- What the files of a replay come to, and what it is set up with.
use Rattle.std.specs.Prelude.{ℕ, ◌≡◌, ◌≤◌, ◌<◌, ◌⊎◌, All, List, length, map, Option}
use Rattle.cy_store.specs.Files.{Files}
use Rattle.cy_store.specs.Reads.{Reads, Accepts, ◌>>=◌}
use Rattle.cy_msg.specs.Once.{IsOnce}
use Rattle.cy_msg.specs.Placement.{scan_of}
use Rattle.cy_sched.specs.Placing.{IsPlaced}
use Rattle.cy_msg.specs.Request.{Components, OfFiles, OfPass, Request}
use Rattle.cy_reader.specs.Record.{Contents}
use Rattle.wake_core.specs.Plain.{opening_world}
use Rattle.wake_core.specs.Planned.{planned}
use Rattle.wake_core.specs.Rest.{MayPlay}
use Rattle.wake_core.specs.Run.{routes_of}
use Rattle.wake_core.specs.declared.entries.TheConstants.{MOST_PLANNED}
use Rattle.cy_setup.specs.declared.error.Refusal.{Refusal}
use Rattle.cy_setup.specs.declared.setup.Replay.{Replay}
use Rattle.cy_setup.specs.Configuration as files
use Rattle.cy_setup.specs.Configuration.{Configured, configuration_in}
use Rattle.cy_setup.specs.Listing.{IsListed, record_in, channels_of, counts_of, played_in}
use Rattle.cy_setup.specs.Listing.{planned_in}
use Rattle.cy_setup.specs.Passing.{passing, type_read}
use Rattle.cy_setup.specs.Steps.{configured}
use Rattle.cy_setup.specs.Stops.{stop_in, stop_of}
use Rattle.cy_setup.specs.Wiring.{Wired, wired_by, wiring_in}

-- What these files come to: what they say, the record's channels and messages, and the wiring of
-- the components over the channels.
pub record Replayed : Type 0 where
  pub configured : Configured
  pub contents : Contents
  pub wired : Wired

-- What is judged once all files were read, in the order of refusals: the wiring over the record's
-- channels, the component that a stop names, the number of messages and ticks that are played, and
-- the number of entries that are planned. A fault of the wiring or of a stop is one of the file
-- that is named for it.
abbrev pub judged_in : List ℕ → Request → Configured → Contents → Reads Refusal Replayed
judged_in file r configured contents = do
  wired ← wiring_in file (channels_of contents) configured
  found ← stop_in file r.stop wired
  played ← played_in r.input contents r.filter wired
  planned ← planned_in r.input wired (counts_of contents r.filter wired)
  Accepts record { configured = configured; contents = contents; wired = wired }

-- The configuration files and then the record are read, and what they say is judged.
abbrev pub configured_in : (dag : List ℕ) (sched : Option (List ℕ)) → Request → Files
    → Reads Refusal Replayed
configured_in dag sched r files = do
  configured ← configuration_in dag sched files
  contents ← record_in r.input files
  judged_in dag r configured contents

-- Or the record alone, which tells the type of the messages that are passed on.
abbrev pub passed_in : (from to : List ℕ) → Request → Files → Reads Refusal Replayed
passed_in from to r files = do
  contents ← record_in r.input files
  judged_in r.input r (passing from to (type_read contents from)) contents

-- All that the files come to, through these components.
abbrev pub replay_through : Components → Request → Files → Reads Refusal Replayed
replay_through (OfFiles dag sched) r files = configured_in dag sched r files
replay_through (OfPass from to) r files = passed_in from to r files

abbrev pub replay_in : Request → Files → Reads Refusal Replayed
replay_in r files = replay_through r.components r files

-- The files that are asked for: the record, and those of the configuration.
abbrev pub IsAskedBy : Components → List ℕ → Option Files → List ℕ → Type 0
IsAskedBy (OfFiles dag sched) input told file =
    (file ≡ input) ⊎ files.IsAsked dag sched told file
IsAskedBy (OfPass from to) input told file = file ≡ input

abbrev pub IsAsked : Request → Option Files → List ℕ → Type 0
IsAsked r told file = IsAskedBy r.components r.input told file

-- What the code's type stands for.
abbrev pub replayed : Replay → Replayed
replayed x = record {
  configured = configured x.configuration;
  contents = x.recorded;
  wired = wired_by x.wiring;
}

-- A replay is set up as it was asked for: its play list, its stop, its placement and its counts are
-- those of its record and its configuration, and it may be played in the opening world of its
-- wiring and its stop.
pub record IsSetUp (r : Request) (x : Replay) : Type 0 where
  pub listed : IsListed x.recorded r.filter (wired_by x.wiring) x.list
  pub stopped : x.stop ≡ stop_of r.stop (wired_by x.wiring) x.list.tokens
  pub placed : IsPlaced x.configuration.sched (map (λ c. c.name) x.configuration.dag.components)
      x.placement.contexts
  pub counted : x.counts ≡ counts_of x.recorded r.filter (wired_by x.wiring)
  pub many : length x.counts ≡ length x.wiring.names
  pub once : IsOnce x.wiring.names
  pub limited : planned (routes_of x.wiring.plans) x.counts ≤ MOST_PLANNED
  pub named : All (λ t. t.channel < length x.wiring.names) x.list.tokens
  pub playable : MayPlay (opening_world (routes_of x.wiring.plans) x.counts x.stop) x.list.tokens
      (scan_of x.placement.contexts)
