-- What `play` makes of its files.
use Rattle.std.specs.Prelude.{ℕ, ◌≡◌, ⊤, Bool, true, false, List, [], ◌∷◌, ◌++◌, length, map}
use Rattle.std.specs.Prelude.{Option}
use Rattle.std.specs.FinMap.{insert}
use Rattle.std.specs.List.{flat_map}
use Rattle.cy_store.specs.Files.{Files}
use Rattle.cy_store.specs.Reads.{Reads, Accepts, ◌>>=◌}
use Rattle.cy_store.specs.Write.{Write, after_writes}
use Rattle.cy_msg.specs.Placement.{scan_of}
use Rattle.cy_msg.specs.declared.placement.ContextPlan.{ContextPlan}
use Rattle.cy_msg.specs.declared.play_list.PlayList.{PlayList}
use Rattle.cy_msg.specs.declared.stop.Stop.{Stop}
use Rattle.cy_msg.specs.declared.token.Token.{Token}
use Rattle.cy_section.specs.RecordText.{IsRecordText, record_bytes}
use Rattle.cy_sched.specs.Placing.{IsPlaced}
use Rattle.cy_trace.specs.TraceForm.{IsTraceText}
use Rattle.cy_trace_text.specs.TraceText.{trace_text}
use Rattle.wake_core.specs.LawfulRun.{LawfulRun}
use Rattle.wake_core.specs.Plain.{Plain}
use Rattle.wake_core.specs.Rest.{run_shown}
use Rattle.wake_core.specs.Run.{Run, routes_of}
use Rattle.wake_core.specs.declared.route.Route.{Route}
use Rattle.wake_core.specs.Serial.{SerialRun}
use Rattle.wake_core.specs.Way.{IsLedTo}
use Rattle.cy_setup.specs.Apart.{apart_from, files_read, standard_output}
use Rattle.cy_setup.specs.Configuration.{Configured}
use Rattle.cy_setup.specs.declared.error.Refusal.{Refusal}
use Rattle.cy_setup.specs.Listing.{IsListed}
use Rattle.cy_writer.specs.RecordWrites.{file_writes, record_puts}
use Rattle.cy_writer.specs.Writes.{placed}
use Rattle.cy_recording.specs.Recording.{Source, channels_of_tape, messages_of_tape, chunks_of_tape}
use Rattle.cy_setup.specs.Setup.{Replayed, replay_in}
use Rattle.cy_setup.specs.Stops.{stop_of}
use Rattle.cy_commands.specs.Work.{Work}
use Rattle.cy_args.specs.PlayWords.{PlayWords}
use Rattle.cy_trace.specs.CallCount.{calls_from}
use Rattle.cy_report.specs.Summary.{summary_line}

-- The files are read and judged in the order of refusals.
abbrev pub replayed_in : PlayWords → Files → Reads Refusal Replayed
replayed_in w files = replay_in w.request files

-- The files that a play writes are none of those that it reads, nor standard output, and two.
abbrev pub others_of : PlayWords → Configured → List (List ℕ)
others_of w c = files_read w.request.components w.request.input c ++ standard_output ∷ []

abbrev pub outputs_apart : PlayWords → Configured → Reads Refusal ⊤
outputs_apart w c = apart_from w.output (others_of w c) >>= λ _.
    apart_from w.trace (others_of w c ++ w.output ∷ [])

-- All that `play` looks at before it plays: what is read, and then the names of what is written.
abbrev pub readied_in : PlayWords → Files → Reads Refusal Replayed
readied_in w files = do
  read ← replayed_in w files
  apart ← outputs_apart w read.configured
  Accepts read

-- What the record is written from, its bytes for a tape, and the trace of a run.
abbrev pub source_in : Replayed → PlayList → Source
source_in read list = record {
  whole = read.contents;
  names = read.wired.names;
  plans = read.wired.plans;
  places = list.places;
}

abbrev pub tape_record : PlayWords → Source → List Token → List ℕ
tape_record w s tape = record_bytes (channels_of_tape s tape) (chunks_of_tape w.output s tape)

abbrev pub run_trace : Source → ℕ → Run → List ℕ
run_trace s shadowed run = trace_text s.names s.plans shadowed run

-- The record is written piece by piece, and then the trace: its pieces are put one behind another.
abbrev pub play_writes : PlayWords → Source → (pieces : List (List ℕ)) → Run → List Write
play_writes w s pieces run =
    file_writes w.output (record_puts (channels_of_tape s run.tape)
    (chunks_of_tape w.output s run.tape)) ++ file_writes w.trace (placed 0 pieces)

abbrev pub play_line : Source → PlayList → Run → List ℕ
play_line s list run = summary_line (length list.tokens) list.shadowed (calls_from run 0 s.plans)
    (length run.tape)

-- The run that a world shows is the serial one, where that is asked for; on threads it may be any.
abbrev pub IsRunOf : (serial : Bool) → List Route → Option Stop → List ℕ → List Token → Plain
    → Type 0
IsRunOf true routes stop scan tokens w = SerialRun routes stop scan tokens (run_shown w)
IsRunOf false routes stop scan tokens w = ⊤

-- A lawful run of the play list over the placed components, with this stop or none: the serial one,
-- where it is asked for. Events led to it from the opening world, and at each world on the way no
-- component had two holders and none was lost.
pub record IsPlayed (serial : Bool) (read : Replayed) (list : PlayList) (stop : Option Stop)
    (contexts : List ContextPlan) (w : Plain) : Type 0 where
  pub run : IsRunOf serial (routes_of read.wired.plans) stop (scan_of contexts) list.tokens w
  pub lawful : LawfulRun list.tokens (routes_of read.wired.plans) stop w
  pub led : IsLedTo w

-- What `play` makes of what was read: the record and the trace of one lawful run, with the stop
-- that is asked for, each of the form that is read back, written in their order, after which both
-- files hold them and every other name is as before; and the line with the run's numbers. The trace
-- is written piece by piece, cut where the program likes: its bytes are those of the text.
pub record IsPlayWork (w : PlayWords) (read : Replayed) (work : Work) : Type 0 where
  pub list : PlayList
  pub listed : IsListed read.contents w.request.filter read.wired list
  pub contexts : List ContextPlan
  pub placed : IsPlaced read.configured.sched (map (λ c. c.name) read.configured.dag.components)
      contexts
  pub world : Plain
  pub played : IsPlayed w.serial read list (stop_of w.request.stop read.wired list.tokens) contexts
      world
  pub record_text : IsRecordText (channels_of_tape (source_in read list) world.tape)
      (messages_of_tape (source_in read list) world.tape)
      (tape_record w (source_in read list) world.tape)
  pub read_back : IsTraceText (run_trace (source_in read list) list.shadowed (run_shown world))
  pub pieces : List (List ℕ)
  pub cut : flat_map (λ piece. piece) pieces
      ≡ run_trace (source_in read list) list.shadowed (run_shown world)
  pub writes : work.writes ≡ play_writes w (source_in read list) pieces (run_shown world)
  pub leaves : (m : Files) → after_writes work.writes m
      ≡ insert (insert m w.output (tape_record w (source_in read list) world.tape)) w.trace
      (run_trace (source_in read list) list.shadowed (run_shown world))
  pub text : work.text ≡ play_line (source_in read list) list (run_shown world)
