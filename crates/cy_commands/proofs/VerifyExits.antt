-- How `verify` ends, at each place where it may.
use Rattle.std.proofs.Common.{ℕ, ◌+◌, ◌≡◌, ◌≤◌, ◌==◌, Bool, true, false, if◌then◌else◌, List, [], ◌∷◌, length, Option, Some, None, Result, Ok, Err, refl, sym, ap, ap₂, subst, ◌∙◌, inl, inr, Vec, Global}
use Rattle.std.specs.Prelude.{◌⊎◌, option_map, IfOk, IfErr, IsOkUnless}
use Rattle.std.proofs.lemmas.Map.Views.{exact_unsigned_eq}
use Rattle.cy_store.specs.Files.{Files}
use Rattle.cy_store.specs.Reads.{Reads, Accepts, Refuses}
use Rattle.cy_store.specs.Store.{StoreView, SameCounts}
use Rattle.cy_msg.specs.declared.play_list.PlayList.{PlayList}
use Rattle.cy_msg.specs.declared.token.Token.{Token}
use Rattle.wake_core.specs.Bounds.{PlaceLaws}
use Rattle.wake_core.specs.LawfulRun.{LawfulRun}
use Rattle.wake_core.specs.Plain.{Plain, Stop}
use Rattle.wake_core.specs.Planned.{planned}
use Rattle.wake_core.specs.Rest.{run_shown}
use Rattle.wake_core.specs.Run.{played_of, routes_of}
use Rattle.wake_core.specs.Sound.{Sound}
use Rattle.wake_core.specs.declared.entries.TheConstants.{MOST_PLANNED}
use Rattle.cy_comp.specs.Wiring.{IsWiring}
use Rattle.cy_recording.specs.Recording.{IsWritable}
use Rattle.cy_recording.specs.RecordLaws.{PlacesAreThere}
use Rattle.cy_msg.specs.Request.{Request}
use Rattle.cy_trace_text.specs.Laws.{RunsAreTraces}
use Rattle.cy_trace_read.specs.Laws.{TextsTellTraces}
use Rattle.cy_report.specs.Summary.{lawful_line}
use Rattle.cy_trace.specs.TraceForm.{IsTrace, ReadsTrace, text_of_trace}
use Rattle.cy_trace.specs.TraceOfRun.{trace_of_run}
use Rattle.cy_trace.specs.declared.error.TraceError.{TraceError}
use Rattle.cy_trace.specs.declared.error.TraceError.TheVariants as trace_error
use Rattle.cy_trace.specs.declared.trace.Trace.{Trace}
use Rattle.cy_recording.specs.Compare.{SameAnswer, first_difference}
use Rattle.cy_recording.specs.declared.error.SameError.{SameError}
use Rattle.cy_recording.specs.declared.error.SameError.TheVariants as same_error
use Rattle.cy_verify.specs.Verdict as verdict
use Rattle.cy_verify.specs.declared.verdict.Told.{Told}
use Rattle.cy_setup.specs.declared.error.Fault.TheVariants as fault
use Rattle.cy_setup.specs.declared.error.Refusal.{Refusal}
use Rattle.cy_setup.specs.declared.error.SetupError.{SetupError}
use Rattle.cy_setup.specs.declared.error.SetupError.TheVariants as setup
use Rattle.cy_setup.specs.declared.setup.Replay.{Replay}
use Rattle.cy_setup.specs.Comes.{ComesTo}
use Rattle.cy_setup.specs.FaultText.{is_limit}
use Rattle.cy_setup.specs.Setup.{IsAsked, IsSetUp, Replayed, replayed}
use Rattle.cy_setup.specs.TraceFile.{trace_in}
use Rattle.cy_args.specs.Command.{Verify}
use Rattle.cy_args.specs.PlayWords.{PlayWords}
use Rattle.cy_commands.specs.declared.status.Status.{Status}
use Rattle.cy_commands.specs.declared.status.Status.TheVariants.{Done}
use Rattle.cy_commands.specs.Commands.PlayWork.{replayed_in, tape_record}
use Rattle.cy_commands.specs.Commands.VerifyWork.{IsLawful, IsOfNone, IsRead, IsReadToVerify, IsSetOut, IsTold, IsVerified, Judged, absent, bad, differs, judged, lawful, line_of, no_record, no_trace, record_of, refused, too_large, unlawful}
use Rattle.cy_commands.specs.Due.{IsDueFor}
use Rattle.cy_commands.specs.PlayEnds.{source_by}
use Rattle.cy_commands.specs.Work.{Work}
use Rattle.cy_commands.specs.private.Unset.{IsDueUnset}
use Rattle.cy_commands.specs.private.VerifyEnds.{ComesBeside, Finds, IsJudgedFile, IsLineBeside, IsRecordIn, IsRunIn, IsToldIn, IsTraceIn, IsUnlawful, IsVerifiedLine, task_of}
use Rattle.cy_commands.proofs.Finding.{Stands, finds_err, finds_failure, finds_fault, finds_memory, finds_ok, finds_read, finds_then, held_map}
use Rattle.cy_commands.proofs.PlayRuns.{writable}
use Rattle.cy_commands.proofs.Refusing.{no_writes, refuses, starved, view_same}

-- ---- what was set up

-- a replay is set out as its play says
pub set_out : (w : PlayWords) (x : Replay) → IsSetUp w.request x → IsWiring x.wiring.names x.wiring.plans
    → ((v : Plain) → v.routes ≡ routes_of x.wiring.plans → length v.counts ≡ length x.wiring.names → planned v.routes v.counts ≤ MOST_PLANNED → played_of v.routes v.tape ≡ x.list.tokens → Sound v
    → IsTrace (trace_of_run x.wiring.names x.wiring.plans x.list.shadowed (run_shown v)))
    → IsSetOut w (replayed x) x.list
set_out w x s wiring fit = record {
  listed = s.listed;
  once = s.once;
  wiring = wiring;
  many = sym (ap length s.counted) ∙ s.many;
  limited = subst (λ (counts : List ℕ). planned (routes_of x.wiring.plans) counts ≤ MOST_PLANNED) s.counted s.limited;
  told = λ v is.
      let counts : v.counts ≡ x.counts = is.counts ∙ sym s.counted in
      let few : planned (routes_of x.wiring.plans) v.counts ≤ MOST_PLANNED = subst (λ (c : List ℕ). planned (routes_of x.wiring.plans) c ≤ MOST_PLANNED) (sym counts) s.limited in
      fit v is.lawful.wired (ap length counts ∙ s.many) (rw is.lawful.wired few) is.lawful.exact is.lawful.sound;
}

-- it may be judged
pub may_judge : (r : Request) (x : Replay) → IsSetUp r x → verdict.MayJudge (task_of x)
may_judge r x s = record { many = s.many; made = s.playable.made; limited = s.limited; within = s.playable.within }

-- a world of which a trace tells is that of a lawful run, and the other way round
pub lawful_of : (w : PlayWords) (x : Replay) (trace : Trace) (v : Plain) → IsSetUp w.request x → verdict.IsTold (task_of x) trace v → IsLawful w (replayed x) x.list v
lawful_of w x trace v s is = record {
  counts = is.counts ∙ s.counted;
  lawful = subst (λ (stop : Option Stop). LawfulRun x.list.tokens (routes_of x.wiring.plans) stop v) s.stopped is.lawful;
}

told_of : (w : PlayWords) (x : Replay) (trace : Trace) (v : Plain) → IsSetUp w.request x → IsLawful w (replayed x) x.list v → trace ≡ trace_of_run x.wiring.names x.wiring.plans x.list.shadowed (run_shown v) → verdict.IsTold (task_of x) trace v
told_of w x trace v s is told = record {
  counts = is.counts ∙ sym s.counted;
  lawful = subst (λ (stop : Option Stop). LawfulRun x.list.tokens (routes_of x.wiring.plans) stop v) (sym s.stopped) is.lawful;
  told = told;
}

-- ---- the trace

-- it is not read
pub trace_unread : (w : PlayWords) (read : Replayed) (list : PlayList) (old new : StoreView) (e : SetupError)
    → (let r : Result (Vec ℕ Global) SetupError = Err e in ComesTo (λ (t : Vec ℕ Global). t.items) (trace_in w.trace) (λ file. file ≡ w.trace) old new r)
    → (let r : Result Trace SetupError = Err e in Finds (IsTraceIn w old) (Judged w read list old.files) (λ file. file ≡ w.trace) old new r)
trace_unread w read list old new e came = finds_read (IsTraceIn w old) (Judged w read list old.files) (λ file. file ≡ w.trace) old new e too_large no_trace (λ file asked. asked) came

abbrev TextRead : PlayWords → StoreView → StoreView → List ℕ → Type 0
TextRead w old new text = Stands old new × IsRead w old.files text

pub text_read : (w : PlayWords) (text : Vec ℕ Global) (old new : StoreView) → ComesTo (λ (t : Vec ℕ Global). t.items) (trace_in w.trace) (λ file. file ≡ w.trace) old new (Ok text) → TextRead w old new text.items
text_read w text old new came = (record { same = came.same; counts = came.accepted.0 }, came.accepted.1)

-- it is read
pub trace_read : (w : PlayWords) (read : Replayed) (list : PlayList) (text : List ℕ) (trace : Trace) (old new : StoreView) → TextRead w old new text → ReadsTrace text (Ok trace)
    → Finds (IsTraceIn w old) (Judged w read list old.files) (λ file. file ≡ w.trace) old new (Ok trace)
trace_read w read list text trace old new came reads =
    finds_ok (IsTraceIn w old) (Judged w read list old.files) (λ file. file ≡ w.trace) old new trace came.0 (subst (IsRead w old.files) reads.text.1 came.1, reads.text.0)

-- it is bad from a line on
pub trace_bad : (w : PlayWords) (read : Replayed) (list : PlayList) (text : List ℕ) (line : ℕ) (answer : SetupError) (old new : StoreView) → TextRead w old new text
    → (let r : Result Trace TraceError = Err (trace_error.Bad line) in ReadsTrace text r)
    → (answer ≡ setup.Memory) ⊎ (answer ≡ setup.Refused record { file = w.trace; fault = fault.BadLine line })
    → (let r : Result Trace SetupError = Err answer in Finds (IsTraceIn w old) (Judged w read list old.files) (λ file. file ≡ w.trace) old new r)
trace_bad w read list text line answer old new came reads is =
    finds_fault (IsTraceIn w old) (Judged w read list old.files) (λ file. file ≡ w.trace) old new answer record { file = w.trace; fault = fault.BadLine line } came.0 is (elim reads.bad [
      | inl none ↦ absurd cc
      | inr first ↦
          let same : line ≡ first.0 + 1 = let h : trace_error.Bad line ≡ trace_error.Bad (first.0 + 1) = first.1 in cc in
          subst (λ (n : ℕ). Judged w read list old.files (Refuses record { file = w.trace; fault = fault.BadLine n })) (sym same) (bad text first.0 came.1 first.2)
    ])

pub trace_starved : (w : PlayWords) (read : Replayed) (list : PlayList) (text : List ℕ) (old new : StoreView) → TextRead w old new text
    → (let r : Result Trace SetupError = Err setup.Memory in Finds (IsTraceIn w old) (Judged w read list old.files) (λ file. file ≡ w.trace) old new r)
trace_starved w read list text old new came = finds_memory (IsTraceIn w old) (Judged w read list old.files) (λ file. file ≡ w.trace) old new came.0.same

-- ---- the run of which it tells

-- none, and its file is refused, if there is memory
pub none_told : (w : PlayWords) (x : Replay) (trace : Trace) (answer : SetupError) → ((v : Plain) → verdict.IsTold (task_of x) trace v → ⊥)
    → (answer ≡ setup.Memory) ⊎ (answer ≡ setup.Refused record { file = w.trace; fault = fault.Unlawful }) → IsUnlawful w x trace answer
none_told w x trace answer none is = record {
  refused = λ refusal e. elim is [ inl none ↦ absurd cc | inr told ↦ cc ];
  none = λ refusal e. none;
  unread = λ file e. elim is [ inl none ↦ absurd cc | inr told ↦ absurd cc ];
}

pub judges_not : (w : PlayWords) (x : Replay) (trace : Trace) → IsUnlawful w x trace setup.Memory
judges_not w x trace = record { refused = λ refusal e. absurd cc; none = λ refusal e. absurd cc; unread = λ file e. absurd cc }

abbrev TraceFound : PlayWords → Replay → StoreView → StoreView → Trace → Type 0
TraceFound w x old new trace = Finds (IsTraceIn w old) (Judged w (replayed x) x.list old.files) (λ file. file ≡ w.trace) old new (Ok trace)

stood : (w : PlayWords) (x : Replay) (old new : StoreView) (trace : Trace) → TraceFound w x old new trace → Stands old new
stood w x old new trace came = record { same = came.same; counts = came.found.0 }

-- a world that it tells of is told by its text
pub world_told : RunsAreTraces → (w : PlayWords) (x : Replay) (old new : StoreView) (trace : Trace) (v : Plain) → IsSetUp w.request x → TraceFound w x old new trace → verdict.IsTold (task_of x) trace v → IsToldIn w x old v
world_told runs w x old new trace v s came is = record {
  lawful = lawful_of w x trace v s is;
  told = subst (IsRead w old.files) (ap text_of_trace is.told ∙ sym (runs x.wiring.names x.wiring.plans x.list.shadowed (run_shown v))) came.found.1.0;
}

-- where it tells of none, no lawful run has its text
of_none : RunsAreTraces → TextsTellTraces → (w : PlayWords) (x : Replay) (trace : Trace) → IsSetUp w.request x → IsSetOut w (replayed x) x.list → IsTrace trace → ((v : Plain) → verdict.IsTold (task_of x) trace v → ⊥)
    → IsOfNone w (replayed x) x.list (text_of_trace trace)
of_none runs tell w x trace s out is none v run same =
    none v (told_of w x trace v s run
    (tell trace (trace_of_run x.wiring.names x.wiring.plans x.list.shadowed (run_shown v)) is (out.told v run)
    (same ∙ runs x.wiring.names x.wiring.plans x.list.shadowed (run_shown v))))

abbrev RunFound : PlayWords → Replay → StoreView → StoreView → Result Told SetupError → Type 0
RunFound w x old new result = Finds (IsRunIn w x old) (ComesBeside w x old) (λ file. file ≡ w.trace) old new result

pub run_found : RunsAreTraces → (w : PlayWords) (x : Replay) (old new : StoreView) (trace : Trace) (run : Told) → IsSetUp w.request x → TraceFound w x old new trace → verdict.IsOfRun (task_of x) trace run → RunFound w x old new (Ok run)
run_found runs w x old new trace run s came is =
    finds_ok (IsRunIn w x old) (ComesBeside w x old) (λ file. file ≡ w.trace) old new run (stood w x old new trace came)
    record { world = is.world; is_told = world_told runs w x old new trace is.world s came is.is_told; tape = is.tape; calls = is.calls }

pub trace_lost : (w : PlayWords) (x : Replay) (old new : StoreView) (e : SetupError)
    → (let r : Result Trace SetupError = Err e in Finds (IsTraceIn w old) (Judged w (replayed x) x.list old.files) (λ file. file ≡ w.trace) old new r)
    → (let r : Result Told SetupError = Err e in RunFound w x old new r)
trace_lost w x old new e came = finds_err (IsRunIn w x old) (ComesBeside w x old) (λ file. file ≡ w.trace) old new e (λ r h. h) (λ file asked. asked) came

pub run_lost : RunsAreTraces → TextsTellTraces → (w : PlayWords) (x : Replay) (old new : StoreView) (trace : Trace) (e : SetupError) → IsSetUp w.request x → IsSetOut w (replayed x) x.list → TraceFound w x old new trace → IsUnlawful w x trace e
    → (let r : Result Told SetupError = Err e in RunFound w x old new r)
run_lost runs tell w x old new trace (setup.Refused refusal) s out came is =
    finds_fault (IsRunIn w x old) (ComesBeside w x old) (λ file. file ≡ w.trace) old new (setup.Refused refusal) refusal (stood w x old new trace came) (inr refl)
    (subst (λ (r : Refusal). ComesBeside w x old (Refuses r)) (sym (is.refused refusal refl))
    (unlawful (text_of_trace trace) came.found.1.0 (trace, came.found.1.1, refl) (of_none runs tell w x trace s out came.found.1.1 (is.none refusal refl))))
run_lost runs tell w x old new trace (setup.Store file) s out came is = absurd (is.unread file refl)
run_lost runs tell w x old new trace setup.Memory s out came is = finds_memory (IsRunIn w x old) (ComesBeside w x old) (λ file. file ≡ w.trace) old new came.same

pub run_judged : RunsAreTraces → TextsTellTraces → (w : PlayWords) (x : Replay) (old new : StoreView) (trace : Trace) (result : Result Told SetupError) → IsSetUp w.request x → IsSetOut w (replayed x) x.list → TraceFound w x old new trace
    → IfOk result (verdict.IsOfRun (task_of x) trace) → IfErr result (IsUnlawful w x trace) → RunFound w x old new result
run_judged runs tell w x old new trace (Ok run) s out came told none = run_found runs w x old new trace run s came told
run_judged runs tell w x old new trace (Err e) s out came told none = run_lost runs tell w x old new trace e s out came none

-- ---- the record

-- that of its tape can be written
pub record_writable : (w : PlayWords) (x : Replay) (v : Plain) → PlacesAreThere → PlaceLaws → IsSetUp w.request x → IsLawful w (replayed x) x.list v → IsWritable (source_by x) v.tape
record_writable w x v places stand s is =
    writable w.request x v places stand s (subst (λ (stop : Option Stop). LawfulRun x.list.tokens (routes_of x.wiring.plans) stop v) (sym s.stopped) is.lawful)
    (ap length (is.counts ∙ sym s.counted) ∙ s.many)

none_map : {A B : Type 0} (f : A → B) (x : Option A) → None ≡ option_map f x → None ≡ x
none_map f None e = refl
none_map f (Some a) e = absurd cc

-- two texts that nowhere differ are one
pub same_texts : (a b : List ℕ) → None ≡ first_difference a b → a ≡ b
same_texts [] [] e = refl
same_texts [] (y ∷ b) e = absurd cc
same_texts (x ∷ a) [] e = absurd cc
same_texts (x ∷ a) (y ∷ b) e = by (x == y) refl (same_texts a b) e
  where
    by : (t : Bool) → (x == y) ≡ t → (None ≡ first_difference a b → a ≡ b) → None ≡ (if t then option_map (λ n. n + 1) (first_difference a b) else Some 0) → x ∷ a ≡ y ∷ b
    by true is rest e =
        let first : x ≡ y = exact_unsigned_eq x y is in
        let others : a ≡ b = rest (none_map (λ n. n + 1) (first_difference a b) e) in
        cc
    by false is rest e = absurd cc

module _ (w : PlayWords) (x : Replay) (run : Told) (old new : StoreView) (told : IsRunIn w x old run) where
  abbrev IsHere : List ℕ → Type 0
  IsHere file = file ≡ w.output

  abbrev pub RecordFound : Result (Unit {0}) SetupError → Type 0
  RecordFound result = Finds (λ (u : Unit {0}). IsRecordIn w x old run.tape) (ComesBeside w x old) IsHere old new result

  abbrev text : List ℕ
  text = tape_record w (source_by x) run.tape

  abbrev pub Same : Result (Option ℕ) SameError → Type 0
  Same result = SameAnswer w.output text old new result

  its_text : text ≡ record_of w (replayed x) x.list told.world
  its_text = ap (λ (tape : List Token). tape_record w (source_by x) tape) told.tape

  compares : (place : Option ℕ) → Same (Ok place) → Stands old new
  compares place h = record { same = h.same; counts = h.causes.quiet (λ e. absurd cc) }

  pub record_same : (u : Unit {0}) → Same (Ok None) → RecordFound (Ok u)
  record_same u h =
      finds_ok (λ (u : Unit {0}). IsRecordIn w x old run.tape) (ComesBeside w x old) IsHere old new u (compares None h)
      (held_map old.files w.output (λ bytes e. same_texts bytes text e) h.compared)

  pub record_differs : (place : ℕ) (answer : SetupError) → Same (Ok (Some place)) → (answer ≡ setup.Memory) ⊎ (answer ≡ setup.Refused record { file = w.output; fault = fault.Differs place })
      → (let r : Result (Unit {0}) SetupError = Err answer in RecordFound r)
  record_differs place answer h is =
      finds_fault (λ (u : Unit {0}). IsRecordIn w x old run.tape) (ComesBeside w x old) IsHere old new answer record { file = w.output; fault = fault.Differs place } (compares (Some place) h) is
      (differs told.world place told.is_told (held_map old.files w.output (λ bytes e. e ∙ ap (first_difference bytes) its_text) h.compared))

  pub record_unread : (answer : SetupError) → (let r : Result (Option ℕ) SameError = Err same_error.Store in Same r) → (answer ≡ setup.Memory) ⊎ (answer ≡ setup.Store w.output)
      → (let r : Result (Unit {0}) SetupError = Err answer in RecordFound r)
  record_unread answer h is =
      finds_failure (λ (u : Unit {0}). IsRecordIn w x old run.tape) (ComesBeside w x old) IsHere old new answer w.output h.same is refl
      (elim (h.causes.failed refl) [ inl rose ↦ inl rose | inr missed ↦ inr (missed.0, no_record told.world told.is_told missed.1) ])

  pub record_starved : (let r : Result (Option ℕ) SameError = Err same_error.Memory in Same r) → (let r : Result (Unit {0}) SetupError = Err setup.Memory in RecordFound r)
  record_starved h = finds_memory (λ (u : Unit {0}). IsRecordIn w x old run.tape) (ComesBeside w x old) IsHere old new h.same

  abbrev pub LineFound : Result (List ℕ) SetupError → Type 0
  LineFound result = Finds (IsLineBeside w x old) (ComesBeside w x old) IsHere old new result

  -- and the line is told
  pub record_lost : (e : SetupError) → (let r : Result (Unit {0}) SetupError = Err e in RecordFound r) → (let r : Result (List ℕ) SetupError = Err e in LineFound r)
  record_lost e came = finds_err (IsLineBeside w x old) (ComesBeside w x old) IsHere old new e (λ r h. h) (λ file asked. asked) came

  abbrev IsLine : List ℕ → Type 0
  IsLine line = line ≡ lawful_line (length x.list.tokens) x.list.shadowed run.calls (length run.tape)

  its_line : (line : List ℕ) → IsLine line → line ≡ line_of (replayed x) x.list told.world
  its_line line is = is ∙ ap₂ (λ (calls written : ℕ). lawful_line (length x.list.tokens) x.list.shadowed calls written) told.calls (ap length told.tape)

  pub line_told : (u : Unit {0}) (line : List ℕ) → RecordFound (Ok u) → IsLine line → LineFound (Ok line)
  line_told u line came is =
      finds_ok (IsLineBeside w x old) (ComesBeside w x old) IsHere old new line record { same = came.same; counts = came.found.0 }
      (subst (IsLineBeside w x old) (sym (its_line line is)) (lawful told.world told.is_told (held_map old.files w.output (λ bytes e. e ∙ its_text) came.found.1)))

  pub line_starved : (u : Unit {0}) → RecordFound (Ok u) → (let r : Result (List ℕ) SetupError = Err setup.Memory in LineFound r)
  line_starved u came = finds_memory (IsLineBeside w x old) (ComesBeside w x old) IsHere old new came.same

  pub line_by : (u : Unit {0}) (result : Result (List ℕ) SetupError) → RecordFound (Ok u) → IfOk result IsLine → IsOkUnless result setup.Memory → LineFound result
  line_by u (Ok line) came is only = line_told u line came is
  line_by u (Err e) came is only = subst (λ a. let r : Result (List ℕ) SetupError = Err a in LineFound r) (sym only) (line_starved u came)

-- ---- both

abbrev pub BothFound : PlayWords → Replay → StoreView → StoreView → Result (List ℕ) SetupError → Type 0
BothFound w x old new result = Finds (IsLineBeside w x old) (ComesBeside w x old) (IsJudgedFile w) old new result

-- what was told before stays told
pub still_told : (w : PlayWords) (x : Replay) (old new : StoreView) (run : Told) → new.files ≡ old.files → IsRunIn w x old run → IsRunIn w x new run
still_told w x old new run same is =
    record { world = is.world; is_told = subst (λ (f : Option Files). IsTold w (replayed x) x.list f is.world) (sym same) is.is_told; tape = is.tape; calls = is.calls }

pub both_found : (w : PlayWords) (x : Replay) (old mid new : StoreView) (result : Result (List ℕ) SetupError) → mid.files ≡ old.files → SameCounts old mid
    → Finds (IsLineBeside w x mid) (ComesBeside w x mid) (λ file. file ≡ w.output) mid new result → BothFound w x old new result
both_found w x old mid new result same counts came =
    let back : (r : Reads Refusal Work) → ComesBeside w x mid r → ComesBeside w x old r = λ r h. subst (λ (f : Option Files). Judged w (replayed x) x.list f r) same h in
    finds_then (IsLineBeside w x old) (ComesBeside w x old) (IsJudgedFile w) old mid new result record { same = same; counts = counts } (λ line. back (Accepts record { writes = []; text = line })) back (λ file is. inr is) came

pub both_lost : (w : PlayWords) (x : Replay) (old new : StoreView) (e : SetupError) → (let r : Result Told SetupError = Err e in RunFound w x old new r) → (let r : Result (List ℕ) SetupError = Err e in BothFound w x old new r)
both_lost w x old new e came = finds_err (IsLineBeside w x old) (ComesBeside w x old) (IsJudgedFile w) old new e (λ r h. h) (λ file is. inl is) came

-- ---- all

abbrev pub AllFound : PlayWords → StoreView → StoreView → Result (List ℕ) SetupError → Type 0
AllFound w old new result = Finds (IsVerifiedLine w old) (IsVerified w old.files) (IsReadToVerify w old.files) old new result

pub all_lost : (w : PlayWords) (old new : StoreView) (e : SetupError) → (let r : Result Replay SetupError = Err e in ComesTo replayed (replayed_in w) (IsAsked w.request old.files) old new r)
    → (let r : Result (List ℕ) SetupError = Err e in AllFound w old new r)
all_lost w old new e came = finds_read (IsVerifiedLine w old) (IsVerified w old.files) (IsReadToVerify w old.files) old new e refused absent (λ file asked. inl asked) came

pub all_found : (w : PlayWords) (x : Replay) (old mid new : StoreView) (result : Result (List ℕ) SetupError) → ComesTo replayed (replayed_in w) (IsAsked w.request old.files) old mid (Ok x) → IsSetOut w (replayed x) x.list → BothFound w x mid new result
    → AllFound w old new result
all_found w x old mid new result came out both =
    let more : (r : Reads Refusal Work) → ComesBeside w x mid r → IsVerified w old.files r =
    λ r h. judged (replayed x) x.list r came.accepted.1 out (subst (λ (f : Option Files). Judged w (replayed x) x.list f r) came.same h) in
    finds_then (IsVerifiedLine w old) (IsVerified w old.files) (IsReadToVerify w old.files) old mid new result record { same = came.same; counts = came.accepted.0 } (λ line. more (Accepts record { writes = []; text = line })) more (λ file is. inr is) both

-- what is due then
pub unfound : (w : PlayWords) (old new : StoreView) (e : SetupError) (due : Status) (line : List ℕ) → (let r : Result (List ℕ) SetupError = Err e in AllFound w old new r) → IsDueUnset e due line → IsDueFor (Verify w) old new due line
unfound w old new (setup.Refused refusal) due line came (inl s) = starved (Verify w) old new due line came.same s
unfound w old new (setup.Refused refusal) due line came (inr told) =
    let was = came.refused refusal refl in
    subst (λ (s : Status). IsDueFor (Verify w) old new s line) (sym told.0)
    (refuses (Verify w) old new (is_limit refusal.fault) line record {
      same = view_same old new came.same was.0;
      refused = record { refusal = refusal; refused = was.1; status = refl; told = told.1 };
    })
unfound w old new (setup.Store file) due line came (inl s) = starved (Verify w) old new due line came.same s
unfound w old new (setup.Store file) due line came (inr told) =
    let was = came.failed file refl in
    subst (λ (s : Status). IsDueFor (Verify w) old new s line) (sym told.0) (inl record { name = file; read = was.0; rose = was.1; same = came.same; told = told.1 })
unfound w old new setup.Memory due line came s = starved (Verify w) old new due line came.same s

pub found : (w : PlayWords) (old new : StoreView) (line : List ℕ) → AllFound w old new (Ok line) → IsDueFor (Verify w) old new Done line
found w old new line came = record { work = record { writes = []; text = line }; accepted = came.found.1; written = came.same ∙ no_writes old.files; counts = came.found.0; told = refl }
