-- The files of `verify` call for one status.
use Rattle.std.proofs.Common.{ℕ, ◌+◌, ◌≡◌, Bool, if◌then◌else◌, List, [], ◌∷◌, length, Option, Some, None, refl, sym, ap, subst, ◌∙◌}
use Rattle.std.specs.Prelude.{option_map, IsSomeAnd}
use Rattle.std.specs.FinMap.{get}
use Rattle.std.proofs.lemmas.Bool.{eq-eqb}
use Rattle.cy_store.specs.Files.{Files}
use Rattle.cy_store.specs.Reads.{Reads, Accepts, Refuses, Absent}
use Rattle.cy_msg.specs.declared.play_list.PlayList.{PlayList}
use Rattle.cy_msg.specs.declared.token.Token.{Token}
use Rattle.wake_core.specs.LawfulRun.{LawfulRun}
use Rattle.wake_core.specs.Plain.{Plain}
use Rattle.wake_core.specs.Rest.{run_shown}
use Rattle.wake_core.specs.Run.{routes_of}
use Rattle.cy_trace_text.specs.Laws.{IsOf, RunsAreTraces}
use Rattle.cy_trace_read.specs.Laws.{TextsOfTracesAreGood, TextsTellTraces}
use Rattle.cy_trace_text.specs.Telling.{TracesTellRuns}
use Rattle.cy_trace.specs.TraceForm.{text_of_trace}
use Rattle.cy_trace.specs.TraceOfRun.{trace_of_run}
use Rattle.cy_trace_text.specs.TraceText.{trace_text}
use Rattle.cy_recording.specs.Compare.{first_difference}
use Rattle.cy_recording.specs.Recording.{Source}
use Rattle.cy_setup.specs.declared.error.Refusal.{Refusal}
use Rattle.cy_setup.specs.Setup.{Replayed}
use Rattle.cy_setup.specs.Stops.{stop_of}
use Rattle.cy_setup.specs.TraceFile.{trace_in}
use Rattle.cy_args.specs.PlayWords.{PlayWords}
use Rattle.cy_commands.specs.declared.status.Status.{Status}
use Rattle.cy_commands.specs.declared.status.Status.TheVariants as status
use Rattle.cy_commands.specs.Commands.PlayWork.{source_in, tape_record}
use Rattle.cy_commands.specs.Commands.VerifyWork.{IsLawful, IsOfNone, IsSetOut, Judged, VerdictsAreOne, absent, bad, differs, judged, lawful, no_record, no_trace, record_of, refused, too_large, trace_of, unlawful}
use Rattle.cy_commands.specs.Status.{status_of}
use Rattle.cy_commands.specs.Work.{Work}
use Rattle.cy_commands.proofs.OneList.{SameList, one_listed}

-- ---- the record that is judged

-- the status of a file that is to be a text
abbrev by_difference : Option ℕ → Status
by_difference None = status.Done
by_difference (Some place) = status.Refused

abbrev by_file : Option (List ℕ) → List ℕ → Status
by_file None text = status.StoreFault
by_file (Some bytes) text = by_difference (first_difference bytes text)

no_difference : (a : List ℕ) → first_difference a a ≡ None
no_difference [] = refl
no_difference (x ∷ a) =
    ap (λ (t : Bool). if t then option_map (λ n. n + 1) (first_difference a a) else Some 0) (eq-eqb x x refl)
    ∙ ap (option_map (λ n. n + 1)) (no_difference a)

file_differs : (found : Option (List ℕ)) (text : List ℕ) (place : ℕ) → IsSomeAnd found (λ bytes. Some place ≡ first_difference bytes text) → status.Refused ≡ by_file found text
file_differs None text place h = absurd h
file_differs (Some bytes) text place h = ap by_difference h

file_is : (found : Option (List ℕ)) (text : List ℕ) → IsSomeAnd found (λ bytes. bytes ≡ text) → status.Done ≡ by_file found text
file_is None text h = absurd h
file_is (Some bytes) text h = ap by_difference (sym (no_difference text) ∙ ap (λ (b : List ℕ). first_difference b text) (sym h))

module _ (tell : TracesTellRuns) (texts : TextsTellTraces) (runs : RunsAreTraces) (good : TextsOfTracesAreGood) (w : PlayWords) (read : Replayed) (m : Files) where
  -- what a text tells, of which a play list is the messages
  data Beyond (list : PlayList) (text : List ℕ) : Status → Type 0 where
    tells_none : IsOfNone w read list text → Beyond list text status.Refused
    tells_one : (v : Plain) → IsLawful w read list v → text ≡ trace_of read list v → Beyond list text (by_file (get m w.output) (record_of w read list v))

  -- the trace stops the judgement, or is read as a text
  data Seen (list : PlayList) : Status → Type 0 where
    stops : (due : Status) → due ≡ status_of (trace_in w.trace m) → ((text : List ℕ) → trace_in w.trace m ≡ Accepts text → ⊥) → Seen list due
    goes_on : (due : Status) (text : List ℕ) → trace_in w.trace m ≡ Accepts text → Beyond list text due → Seen list due

  -- a trace of a lawful run is a trace's text
  of_form : (list : PlayList) (v : Plain) (text : List ℕ) → IsSetOut w read list → IsLawful w read list v → text ≡ trace_of read list v
      → text ≡ text_of_trace (trace_of_run read.wired.names read.wired.plans list.shadowed (run_shown v))
  of_form list v text out is same = same ∙ runs read.wired.names read.wired.plans list.shadowed (run_shown v)

  tells : (list : PlayList) (v : Plain) (due : Status) → IsLawful w read list v → trace_in w.trace m ≡ Accepts (trace_of read list v) → due ≡ by_file (get m w.output) (record_of w read list v) → Seen list due
  tells list v due is told e = subst (Seen list) (sym e) (goes_on _ (trace_of read list v) told (tells_one v is refl))

  seen : (list : PlayList) (r : Reads Refusal Work) → IsSetOut w read list → Judged w read list (Some m) r → Seen list (status_of r)
  seen list r out (no_trace name e) = stops status.StoreFault (sym (ap status_of e)) (λ text f. absurd (let h : Absent name ≡ Accepts text = sym e ∙ f in cc))
  seen list r out (too_large refusal e) = stops (status_of r) (sym (ap status_of e)) (λ text f. absurd (let h : Refuses refusal ≡ Accepts text = sym e ∙ f in cc))
  seen list r out (bad text before e first) =
      goes_on status.Refused text e (tells_none (λ v is same. good text before first (trace_of_run read.wired.names read.wired.plans list.shadowed (run_shown v), out.told v is, of_form list v text out is same)))
  seen list r out (unlawful text e form none) = goes_on status.Refused text e (tells_none none)
  seen list r out (no_record v told lacks) = tells list v status.StoreFault told.lawful told.told (sym (ap (λ (f : Option (List ℕ)). by_file f (record_of w read list v)) lacks))
  seen list r out (differs v place told here) = tells list v status.Refused told.lawful told.told (file_differs (get m w.output) (record_of w read list v) place here)
  seen list r out (lawful v told here) = tells list v status.Done told.lawful told.told (file_is (get m w.output) (record_of w read list v) here)

  -- one run comes to one tape
  is_of : (list : PlayList) (v : Plain) → IsSetOut w read list → IsLawful w read list v → IsOf read.wired.names read.wired.plans v
  is_of list v out is = record {
    wiring = out.wiring;
    routes = is.lawful.wired;
    channels = ap length is.counts ∙ out.many;
    limited = rw (is.lawful.wired, is.counts) out.limited;
  }

  one_tape : (list : PlayList) (u v : Plain) (text : List ℕ) → IsSetOut w read list → IsLawful w read list u → IsLawful w read list v → text ≡ trace_of read list u → text ≡ trace_of read list v → v.tape ≡ u.tape
  one_tape list u v text out p q e f =
      let same = texts (trace_of_run read.wired.names read.wired.plans list.shadowed (run_shown u)) (trace_of_run read.wired.names read.wired.plans list.shadowed (run_shown v)) (out.told u p) (out.told v q)
      (sym (of_form list u text out p e) ∙ of_form list v text out q f) in
      (tell read.wired.names read.wired.plans list.shadowed list.tokens (stop_of w.request.stop read.wired list.tokens) u v
      record { once = out.once; made = is_of list u out p; other_made = is_of list v out q; run = p.lawful; other_run = q.lawful } same).tape

  one_beyond : (list : PlayList) (text : List ℕ) (a b : Status) → IsSetOut w read list → Beyond list text a → Beyond list text b → a ≡ b
  one_beyond list text a b out (tells_none never) (tells_none none) = refl
  one_beyond list text a b out (tells_none never) (tells_one v q f) = absurd (never v q f)
  one_beyond list text a b out (tells_one u p e) (tells_none never) = absurd (never u p e)
  one_beyond list text a b out (tells_one u p e) (tells_one v q f) =
      ap (λ (tape : List Token). by_file (get m w.output) (tape_record w (source_in read list) tape)) (sym (one_tape list u v text out p q e f))

  one_seen : (list : PlayList) (a b : Status) → IsSetOut w read list → Seen list a → Seen list b → a ≡ b
  one_seen list a b out (stops due e never) (stops other f none) = e ∙ sym f
  one_seen list a b out (stops due e never) (goes_on other text f more) = absurd (never text f)
  one_seen list a b out (goes_on due text e more) (stops other f never) = absurd (never text e)
  one_seen list a b out (goes_on due text e more) (goes_on other next f less) =
      let same : next ≡ text = let h : Accepts next ≡ Accepts text = sym f ∙ e in cc in
      one_beyond list text a b out more (subst (λ (t : List ℕ). Beyond list t b) same less)

  -- another play list of the record has the same messages
  module _ (list other : PlayList) (same : SameList other list) where
    lawful_too : (v : Plain) → IsLawful w read other v → IsLawful w read list v
    lawful_too v is = record { counts = is.counts; lawful = subst (λ (ts : List Token). LawfulRun ts (routes_of read.wired.plans) (stop_of w.request.stop read.wired ts) v) same.tokens is.lawful }

    lawful_back : (v : Plain) → IsLawful w read list v → IsLawful w read other v
    lawful_back v is = record { counts = is.counts; lawful = subst (λ (ts : List Token). LawfulRun ts (routes_of read.wired.plans) (stop_of w.request.stop read.wired ts) v) (sym same.tokens) is.lawful }

    traces_same : (v : Plain) → trace_of read other v ≡ trace_of read list v
    traces_same v = ap (λ (n : ℕ). trace_text read.wired.names read.wired.plans n (run_shown v)) same.shadowed

    abbrev source : List ℕ → Source
    source places = record { whole = read.contents; names = read.wired.names; plans = read.wired.plans; places = places }

    records_same : (v : Plain) → record_of w read other v ≡ record_of w read list v
    records_same v = ap (λ (places : List ℕ). tape_record w (source places) v.tape) same.places

    beyond_too : (text : List ℕ) (due : Status) → Beyond other text due → Beyond list text due
    beyond_too text due (tells_none never) = tells_none (λ v is e. never v (lawful_back v is) (e ∙ sym (traces_same v)))
    beyond_too text due (tells_one v is e) =
        subst (λ (t : List ℕ). Beyond list text (by_file (get m w.output) t)) (sym (records_same v)) (tells_one v (lawful_too v is) (e ∙ traces_same v))

    seen_too : (due : Status) → Seen other due → Seen list due
    seen_too due (stops at e never) = stops at e never
    seen_too due (goes_on at text e more) = goes_on at text e (beyond_too text at more)

  one_judged : (list other : PlayList) (a b : Reads Refusal Work) → IsSetOut w read list → IsSetOut w read other → Judged w read list (Some m) a → Judged w read other (Some m) b → status_of a ≡ status_of b
  one_judged list other a b out also p q =
      let same = one_listed read.contents w.request.filter read.wired other list also.listed out.listed in
      one_seen list (status_of a) (status_of b) out (seen list a out p) (seen_too list other same (status_of b) (seen other b also q))

-- ---- all files

pub one_verdict : TracesTellRuns → TextsTellTraces → RunsAreTraces → TextsOfTracesAreGood → VerdictsAreOne
one_verdict tell texts runs good w m a b (refused r e) (refused s f) = ap status_of (sym e ∙ f)
one_verdict tell texts runs good w m a b (refused r e) (absent name f) = ap status_of (sym e ∙ f)
one_verdict tell texts runs good w m a b (refused r e) (judged read list result f out j) = absurd (let h : Refuses r ≡ Accepts read = sym e ∙ f in cc)
one_verdict tell texts runs good w m a b (absent name e) (refused s f) = ap status_of (sym e ∙ f)
one_verdict tell texts runs good w m a b (absent name e) (absent other f) = refl
one_verdict tell texts runs good w m a b (absent name e) (judged read list result f out j) = absurd (let h : Absent name ≡ Accepts read = sym e ∙ f in cc)
one_verdict tell texts runs good w m a b (judged read list result e out j) (refused s f) = absurd (let h : Accepts read ≡ Refuses s = sym e ∙ f in cc)
one_verdict tell texts runs good w m a b (judged read list result e out j) (absent other f) = absurd (let h : Accepts read ≡ Absent other = sym e ∙ f in cc)
one_verdict tell texts runs good w m a b (judged read list result e out j) (judged again other found f also k) =
    let same : again ≡ read = let h : Accepts again ≡ Accepts read = sym f ∙ e in cc in
    one_judged tell texts runs good w read m list other a b out (subst (λ (x : Replayed). IsSetOut w x other) same also) j (subst (λ (x : Replayed). Judged w x other (Some m) b) same k)
