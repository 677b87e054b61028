-- What is judged of a configuration and a record, once its components are wired.
use Rattle.std.specs.Prelude.{ℕ, List}
use Rattle.cy_store.specs.Reads.{Reads, Accepts, ◌>>=◌}
use Rattle.cy_comp.specs.declared.wiring.Wiring.{Wiring}
use Rattle.cy_msg.specs.Request.{Request}
use Rattle.cy_reader.specs.Record.{Contents}
use Rattle.cy_setup.specs.declared.configuration.Configuration.{Configuration}
use Rattle.cy_setup.specs.declared.error.Refusal.{Refusal}
use Rattle.cy_setup.specs.declared.setup.Judged.{Judged}
use Rattle.cy_setup.specs.declared.setup.Replay.{Replay}
use Rattle.cy_setup.specs.Configuration.{Configured}
use Rattle.cy_setup.specs.Listing.{counts_of, planned_in, played_in}
use Rattle.cy_setup.specs.Setup.{Replayed, replayed}
use Rattle.cy_setup.specs.Stops.{stop_in}
use Rattle.cy_setup.specs.Wiring.{Wired}

-- What is judged behind a wiring: the component that a stop names, how many messages and ticks are
-- played, and how many entries are planned.
abbrev pub judged_over : List ℕ → Request → Configured → Contents → Wired → Reads Refusal Replayed
judged_over file r configured contents wired = do
  found ← stop_in file r.stop wired
  played ← played_in r.input contents r.filter wired
  planned ← planned_in r.input wired (counts_of contents r.filter wired)
  Accepts record { configured = configured; contents = contents; wired = wired }

-- A replay, with what was judged of its configuration and its record over its wiring.
abbrev pub replay_of : Configuration → Contents → Wiring → Judged → Replay
replay_of configuration recorded wiring j = record {
  configuration = configuration;
  recorded = recorded;
  wiring = wiring;
  placement = j.placement;
  list = j.list;
  stop = j.stop;
  counts = j.counts;
}

-- What its files come to.
abbrev pub judged_as : Configuration → Contents → Wiring → Judged → Replayed
judged_as configuration recorded wiring j = replayed (replay_of configuration recorded wiring j)
