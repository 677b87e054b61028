-- How `verify` ends.
use Rattle.std.specs.Prelude.{ℕ, ◌≡◌, ◌⊎◌, List, [], Result, IfOk, IsErrOf}
use Rattle.cy_store.specs.Files.{Holds}
use Rattle.cy_store.specs.Reads.{Reads, Accepts, Refuses, Absent}
use Rattle.cy_store.specs.Store.{StoreView, SameCounts, Rose}
use Rattle.cy_msg.specs.declared.token.Token.{Token}
use Rattle.wake_core.specs.Plain.{Plain}
use Rattle.wake_core.specs.Rest.{run_shown}
use Rattle.cy_trace.specs.CallCount.{calls_from}
use Rattle.cy_trace.specs.TraceForm.{IsTrace, text_of_trace}
use Rattle.cy_trace.specs.declared.trace.Trace.{Trace}
use Rattle.cy_verify.specs.Verdict as verdict
use Rattle.cy_verify.specs.declared.verdict.Told.{Told}
use Rattle.cy_setup.specs.declared.error.Fault.TheVariants as fault
use Rattle.cy_setup.specs.declared.error.Refusal.{Refusal}
use Rattle.cy_setup.specs.declared.error.SetupError.{SetupError}
use Rattle.cy_setup.specs.declared.error.SetupError.TheVariants.{Refused, Store}
use Rattle.cy_setup.specs.declared.setup.Replay.{Replay}
use Rattle.cy_setup.specs.Setup.{replayed}
use Rattle.cy_args.specs.PlayWords.{PlayWords}
use Rattle.cy_commands.specs.Commands.VerifyWork.{IsRead, IsTold, IsVerified, Judged}
use Rattle.cy_commands.specs.Commands.PlayWork.{source_in, tape_record}
use Rattle.cy_commands.specs.Work.{Work}

-- What a call answers that judges files, by what these may come to: something that fits, or the
-- first refusal, and then the store's counts stand. The store is said to have failed only where a
-- count of it rose, at a file that is asked for. No file is changed.
pub record Finds {X : Type 0} (IsFound : X → Type 0) (comes : Reads Refusal Work → Type 0)
    (IsAsked : List ℕ → Type 0) (old new : StoreView) (result : Result X SetupError) : Type 0 where
  pub found : IfOk result (λ x. SameCounts old new × IsFound x)
  pub refused : (refusal : Refusal) → IsErrOf result (Refused refusal) → SameCounts old new
      × comes (Refuses refusal)
  pub failed : (file : List ℕ) → IsErrOf result (Store file) → IsAsked file
      × (Rose old.faults new.faults ⊎ (Rose old.misses new.misses × comes (Absent file)))
  pub same : new.files ≡ old.files

-- The trace is read as the text of this one.
abbrev pub IsTraceIn : PlayWords → StoreView → Trace → Type 0
IsTraceIn w view trace = IsRead w view.files (text_of_trace trace) × IsTrace trace

-- What the files that are judged come to beside a replay, and what a trace and a record have to do
-- with a world.
abbrev pub ComesBeside : PlayWords → Replay → StoreView → Reads Refusal Work → Type 0
ComesBeside w x view result = Judged w (replayed x) x.list view.files result

abbrev pub IsToldIn : PlayWords → Replay → StoreView → Plain → Type 0
IsToldIn w x view world = IsTold w (replayed x) x.list view.files world

-- .. and the tape and the number of calls of the run that a trace tells of.
pub record IsRunIn (w : PlayWords) (x : Replay) (view : StoreView) (run : Told) : Type 0 where
  pub world : Plain
  pub is_told : IsToldIn w x view world
  pub tape : run.tape ≡ world.tape
  pub calls : run.calls ≡ calls_from (run_shown world) 0 x.wiring.plans

-- The record is that of a tape.
abbrev pub IsRecordIn : PlayWords → Replay → StoreView → List Token → Type 0
IsRecordIn w x view tape = Holds view.files w.output
    (λ bytes. bytes ≡ tape_record w (source_in (replayed x) x.list) tape)

-- What a run of a replay was to be.
abbrev pub task_of : Replay → verdict.Task
task_of x = record {
  names = x.wiring.names;
  plans = x.wiring.plans;
  counts = x.counts;
  tokens = x.list.tokens;
  shadowed = x.list.shadowed;
  stop = x.stop;
}

-- No world is told by a trace, and so its file is refused; or there is no memory.
pub record IsUnlawful (w : PlayWords) (x : Replay) (trace : Trace) (error : SetupError) : Type 0
  where
    pub refused : (refusal : Refusal) → error ≡ Refused refusal
        → refusal ≡ record { file = w.trace; fault = fault.Unlawful }
    pub none : (refusal : Refusal) → error ≡ Refused refusal → (world : Plain)
        → verdict.IsTold (task_of x) trace world → ⊥
    pub unread : (file : List ℕ) → error ≡ Store file → ⊥

-- The line that is told where all is as it should be, and the files that are judged.
abbrev pub IsLineBeside : PlayWords → Replay → StoreView → List ℕ → Type 0
IsLineBeside w x view line = ComesBeside w x view (Accepts record { writes = []; text = line })

abbrev pub IsJudgedFile : PlayWords → List ℕ → Type 0
IsJudgedFile w file = (file ≡ w.trace) ⊎ (file ≡ w.output)

abbrev pub IsVerifiedLine : PlayWords → StoreView → List ℕ → Type 0
IsVerifiedLine w view line = IsVerified w view.files (Accepts record { writes = []; text = line })
