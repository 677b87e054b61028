-- How `play` ends, as far as its callers have to know: its files are read, and it is played.
use Rattle.std.specs.Prelude.{◌≡◌, Bool, length, Result}
use Rattle.cy_store.specs.Store.{StoreView}
use Rattle.cy_msg.specs.Placement.{scan_of}
use Rattle.cy_trace.specs.TraceForm.{IsTraceText}
use Rattle.wake_core.specs.LawfulRun.{LawfulRun}
use Rattle.wake_core.specs.Plain.{Plain}
use Rattle.wake_core.specs.Rest.{run_shown}
use Rattle.wake_core.specs.Run.{routes_of}
use Rattle.wake_core.specs.Way.{IsLedTo}
use Rattle.cy_setup.specs.Comes.{ComesTo}
use Rattle.cy_recording.specs.Recording.{Source, IsWritable}
use Rattle.cy_setup.specs.Setup.{replayed, IsAsked}
use Rattle.cy_setup.specs.declared.error.SetupError.{SetupError}
use Rattle.cy_setup.specs.declared.setup.Replay.{Replay}
use Rattle.cy_args.specs.PlayWords.{PlayWords}
use Rattle.cy_commands.specs.Commands.PlayWork.{IsRunOf, readied_in, run_trace, source_in}

-- What reading the files of a play comes to, where the files that are written are other ones: a
-- replay, or an error.
abbrev pub SetsUp : PlayWords → StoreView → StoreView → Result Replay SetupError → Type 0
SetsUp w old new result =
    ComesTo replayed (readied_in w) (IsAsked w.request old.files) old new result

-- What the record of a replay is written from.
abbrev pub source_by : Replay → Source
source_by x = source_in (replayed x) x.list

-- A world in which a replay was played, serially or on threads, with its stop: events led to it,
-- its tape can be written, and the text of its trace is read back.
pub record HasRun (serial : Bool) (x : Replay) (w : Plain) : Type 0 where
  pub run : IsRunOf serial (routes_of x.wiring.plans) x.stop (scan_of x.placement.contexts)
      x.list.tokens w
  pub lawful : LawfulRun x.list.tokens (routes_of x.wiring.plans) x.stop w
  pub led : IsLedTo w
  pub counts : length w.counts ≡ length x.wiring.names
  pub writable : IsWritable (source_by x) w.tape
  pub read_back : IsTraceText (run_trace (source_by x) x.list.shadowed (run_shown w))
