-- What `verify` says of a trace and of a record.
use Rattle.std.specs.Prelude.{ℕ, ◌+◌, ◌≡◌, ◌≤◌, ◌⊎◌, List, [], length, Option, Some, IfSome}
use Rattle.cy_store.specs.Files.{Files, Holds, Lacks}
use Rattle.cy_store.specs.Reads.{Reads, Accepts, Refuses, Absent}
use Rattle.cy_msg.specs.Once.{IsOnce}
use Rattle.cy_msg.specs.declared.play_list.PlayList.{PlayList}
use Rattle.cy_comp.specs.Wiring.{IsWiring}
use Rattle.wake_core.specs.LawfulRun.{LawfulRun}
use Rattle.wake_core.specs.Plain.{Plain}
use Rattle.wake_core.specs.Planned.{planned}
use Rattle.wake_core.specs.Rest.{run_shown}
use Rattle.wake_core.specs.Run.{routes_of}
use Rattle.wake_core.specs.declared.entries.TheConstants.{MOST_PLANNED}
use Rattle.cy_trace.specs.CallCount.{calls_from}
use Rattle.cy_report.specs.Summary.{lawful_line}
use Rattle.cy_trace.specs.TraceForm.{IsFirstBad, IsTrace, IsTraceText}
use Rattle.cy_trace.specs.TraceOfRun.{trace_of_run}
use Rattle.cy_recording.specs.Compare.{first_difference}
use Rattle.cy_setup.specs.declared.error.Fault.TheVariants as fault
use Rattle.cy_setup.specs.declared.error.Refusal.{Refusal}
use Rattle.cy_setup.specs.Listing.{IsListed, counts_of}
use Rattle.cy_setup.specs.Setup as setup
use Rattle.cy_setup.specs.Setup.{Replayed}
use Rattle.cy_setup.specs.Stops.{stop_of}
use Rattle.cy_setup.specs.TraceFile.{trace_in}
use Rattle.cy_args.specs.PlayWords.{PlayWords}
use Rattle.cy_commands.specs.Commands.PlayWork.{replayed_in, run_trace, source_in, tape_record}
use Rattle.cy_commands.specs.Status.{status_of}
use Rattle.cy_commands.specs.Work.{Work}

-- The files that are read: those of the play, and the trace and the record that are judged.
abbrev pub IsReadToVerify : PlayWords → Option Files → List ℕ → Type 0
IsReadToVerify w files name =
    setup.IsAsked w.request files name ⊎ ((name ≡ w.trace) ⊎ (name ≡ w.output))

-- How many messages and ticks are played on each channel.
abbrev pub counts_in : PlayWords → Replayed → List ℕ
counts_in w read = counts_of read.contents w.request.filter read.wired

-- A world is what a lawful run of the play list over the components has come to, with the stop that
-- is asked for.
pub record IsLawful (w : PlayWords) (read : Replayed) (list : PlayList) (world : Plain) : Type 0
  where
    pub counts : world.counts ≡ counts_in w read
    pub lawful : LawfulRun list.tokens (routes_of read.wired.plans)
        (stop_of w.request.stop read.wired list.tokens) world

-- The text of its trace, the record of its tape, and the line with its numbers: what `play` writes
-- and tells of it but for the first word of the line.
abbrev pub trace_of : Replayed → PlayList → Plain → List ℕ
trace_of read list world = run_trace (source_in read list) list.shadowed (run_shown world)

abbrev pub record_of : PlayWords → Replayed → PlayList → Plain → List ℕ
record_of w read list world = tape_record w (source_in read list) world.tape

abbrev pub line_of : Replayed → PlayList → Plain → List ℕ
line_of read list world = lawful_line (length list.tokens) list.shadowed
    (calls_from (run_shown world) 0 read.wired.plans) (length world.tape)

-- What all files of a play have that are accepted: their play list, channels with names of their
-- own, components that are wired over them, no more planned entries than a world keeps, and numbers
-- and names in every lawful run that a trace can tell.
pub record IsSetOut (w : PlayWords) (read : Replayed) (list : PlayList) : Type 0 where
  pub listed : IsListed read.contents w.request.filter read.wired list
  pub once : IsOnce read.wired.names
  pub wiring : IsWiring read.wired.names read.wired.plans
  pub many : length (counts_in w read) ≡ length read.wired.names
  pub limited : planned (routes_of read.wired.plans) (counts_in w read) ≤ MOST_PLANNED
  pub told : (world : Plain) → IsLawful w read list world → IsTrace
      (trace_of_run read.wired.names read.wired.plans list.shadowed (run_shown world))

-- The trace is read as this text.
abbrev pub IsRead : PlayWords → Option Files → List ℕ → Type 0
IsRead w files text = IfSome files (λ m. trace_in w.trace m ≡ Accepts text)

-- It is the text of the trace of a lawful run, which has come to this world.
pub record IsTold (w : PlayWords) (read : Replayed) (list : PlayList) (files : Option Files)
    (world : Plain) : Type 0 where
  pub lawful : IsLawful w read list world
  pub told : IsRead w files (trace_of read list world)

-- No lawful run has a trace of this text.
abbrev pub IsOfNone : PlayWords → Replayed → PlayList → List ℕ → Type 0
IsOfNone w read list text =
    (world : Plain) → IsLawful w read list world → text ≡ trace_of read list world → ⊥

-- What the trace and the record come to, where the files of the play are accepted, in the order of
-- refusals. The trace isn't there; it is too large; it is no trace, from a line on; no lawful run
-- has it; the record isn't there; it differs from that of the tape; or it is just that, and then
-- the line with the run's numbers is told and nothing is written.
pub data Judged (w : PlayWords) (read : Replayed) (list : PlayList) (files : Option Files)
    : Reads Refusal Work → Type 0 where
  no_trace : (name : List ℕ) → IfSome files (λ m. trace_in w.trace m ≡ Absent name)
      → Judged w read list files (Absent name)
  too_large : (refusal : Refusal) → IfSome files (λ m. trace_in w.trace m ≡ Refuses refusal)
      → Judged w read list files (Refuses refusal)
  bad : (text : List ℕ) (before : ℕ) → IsRead w files text → IsFirstBad text before
      → Judged w read list files
      (Refuses record { file = w.trace; fault = fault.BadLine (before + 1) })
  unlawful : (text : List ℕ) → IsRead w files text → IsTraceText text
      → IsOfNone w read list text
      → Judged w read list files (Refuses record { file = w.trace; fault = fault.Unlawful })
  no_record : (world : Plain) → IsTold w read list files world → Lacks files w.output
      → Judged w read list files (Absent w.output)
  differs : (world : Plain) (place : ℕ) → IsTold w read list files world
      → Holds files w.output
      (λ bytes. Some place ≡ first_difference bytes (record_of w read list world))
      → Judged w read list files
      (Refuses record { file = w.output; fault = fault.Differs place })
  lawful : (world : Plain) → IsTold w read list files world
      → Holds files w.output (λ bytes. bytes ≡ record_of w read list world)
      → Judged w read list files
      (Accepts record { writes = []; text = line_of read list world })

-- What all files come to: the first thing in the way of the play, or what the trace and the record
-- come to.
pub data IsVerified (w : PlayWords) (files : Option Files) : Reads Refusal Work → Type 0 where
  refused : (refusal : Refusal) → IfSome files (λ m. replayed_in w m ≡ Refuses refusal)
      → IsVerified w files (Refuses refusal)
  absent : (name : List ℕ) → IfSome files (λ m. replayed_in w m ≡ Absent name)
      → IsVerified w files (Absent name)
  judged : (read : Replayed) (list : PlayList) (result : Reads Refusal Work)
      → IfSome files (λ m. replayed_in w m ≡ Accepts read) → IsSetOut w read list
      → Judged w read list files result → IsVerified w files result

-- Whatever the files are, they call for one status: a trace and a record are not right for one run
-- and wrong for another.
abbrev pub VerdictsAreOne : Type 0
VerdictsAreOne = (w : PlayWords) (m : Files) (a b : Reads Refusal Work) → IsVerified w (Some m) a
    → IsVerified w (Some m) b → status_of a ≡ status_of b
