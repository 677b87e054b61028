-- What a trace is that was judged.
use Rattle.std.proofs.lemmas.List.{length-map}
use Rattle.std.proofs.Common.{ℕ, ◌≡◌, ◌≤◌, true, false, sym, ◌∙◌, ap, ap₂, subst, List, length, map, Option, Some, slice_get, Ok, Result}
use Rattle.cy_msg.specs.declared.play_list.PlayList.{PlayList}
use Rattle.cy_msg.specs.declared.stop.Stop.{Stop}
use Rattle.cy_msg.specs.declared.token.Token.{Token}
use Rattle.cy_msg.specs.Tokens.{IsTimed}
use Rattle.cy_msg.proofs.Lists.{there}
use Rattle.cy_fuse.specs.Laws.{FetchesFind}
use Rattle.cy_comp.specs.Laws.{OutcomesAreAnswers}
use Rattle.cy_comp.specs.declared.call.Call.{Call}
use Rattle.cy_comp.specs.declared.wiring.Wiring.{Wiring}
use Rattle.wake_core.specs.declared.route.Route.{Route}
use Rattle.wake_core.specs.Plain.{Plain}
use Rattle.wake_core.specs.Rest.{run_shown}
use Rattle.wake_core.specs.Run.{route_of, routes_of, played_of}
use Rattle.wake_core.specs.Serial.{last_clock}
use Rattle.wake_core.specs.WorldOf.{IsMade}
use Rattle.cy_trace.specs.TraceOfRun.{tape_entry}
use Rattle.cy_trace.specs.declared.trace.Trace.{Trace}
use Rattle.cy_verify.specs.Verdict.{Task, MayJudge, IsTold, IsOfRun, Judges}
use Rattle.cy_verify.specs.declared.error.VerifyError.{VerifyError}
use Rattle.cy_verify.specs.declared.verdict.Told.{Told}
use Rattle.cy_verify.specs.declared.verdict.Verdict.{Verdict}
use Rattle.cy_verify.specs.declared.verdict.Verdict.TheVariants.{Lawful, Unlawful}
use Rattle.cy_verify.specs.declared.walk.Walk.{Walk}
use Rattle.cy_verify.specs.private.Ending as ending
use Rattle.cy_verify.specs.private.Ending.{IsWhole, call_total, calls_in, world_in}
use Rattle.cy_verify.specs.private.Judging.{IsFollowed}
use Rattle.cy_verify.specs.private.Passes.{IsHeaded, HasOneLate}
use Rattle.cy_verify.specs.private.Walking.{task_in}
use Rattle.cy_verify.proofs.CallTotal.{total_shown}
use Rattle.cy_verify.proofs.Headed.{trace_headed}
use Rattle.cy_verify.proofs.TimesApart.{later_of_apart}
use Rattle.cy_verify.proofs.WorldEnded.{calls_are}
use Rattle.cy_verify.proofs.WalkTold.{whole_is_told}

-- The task of a walk is the one that it was made for.
pub task_is : (wiring : Wiring) (list : PlayList) (counts : List ℕ) (stop : Option Stop) (w : Walk) → IsMade (routes_of wiring.plans) counts stop w.fixed
    → task_in wiring list w ≡ record { names = wiring.names; plans = wiring.plans; counts = counts; tokens = list.tokens; shadowed = list.shadowed; stop = stop }
task_is wiring list counts stop w made = ap₂ (λ (n : List ℕ) (s : Option Stop). record { names = wiring.names; plans = wiring.plans; counts = n; tokens = list.tokens; shadowed = list.shadowed; stop = s }) made.its_counts made.its_stop

-- A trace that tells of a lawful run has its head, ..
pub told_headed : (t : Task) (trace : Trace) (w : Plain) → IsTold t trace w → IsHeaded t.plans (length t.tokens) t.shadowed trace
told_headed t trace w h = trace_headed t.names t.plans (length t.tokens) t.shadowed (run_shown w) trace h.told
    (subst (λ (rs : List Route). length (played_of rs w.tape) ≡ length t.tokens) h.lawful.wired (ap length h.lawful.exact))

-- .. and its tape.
pub told_taped : (t : Task) (trace : Trace) (w : Plain) → IsTold t trace w → map (tape_entry t.names) w.tape ≡ trace.tape
told_taped t trace w h = ap (λ (u : Trace). u.tape) (sym h.told)

-- There is no run of which a trace tells.
pub judges_none : (t : Task) (trace : Trace) → ((w : Plain) → IsTold t trace w → ⊥) → Judges t trace (Ok Unlawful)
judges_none t trace none = record { lawful = λ w e. cc; unlawful = λ w e. none w }

-- All is known of a walk along a whole trace.
pub followed_whole : (t : Task) (trace : Trace) (w : Walk) → MayJudge t → IsHeaded t.plans (length t.tokens) t.shadowed trace → IsFollowed t trace w → IsTimed t.tokens
    → ((n : ℕ) (m : Token) → slice_get t.tokens n ≡ Some m → m.time ≤ last_clock) → IsWhole t trace.components w
followed_whole t trace w may head h timed long = record {
  may = may;
  many = head.components.many;
  walked = h.walked;
  played = h.played;
  timed = timed;
  long = long;
  later = later_of_apart t.plans h.walked.known.wired.own_outs (calls_in w.followers.items) w.tape.items h.allowed.apart;
  obeyed = λ s is.
      let f = there w.followers.items s.component (rw h.walked.are_of.many (may.within.component s is)) in
      subst (λ (calls : List Call). HasOneLate (routes_of t.plans) s.after calls w.tape.items) (sym (calls_are w.followers.items s.component f.0 f.1)) (h.allowed.obedient s f.0 is f.1);
}

-- .. and its trace has a head.
pub followed_headed : (t : Task) (trace : Trace) (w : Walk) → IsHeaded t.plans (length t.tokens) t.shadowed trace → IsFollowed t trace w → ending.IsHeaded t w.tape.items trace
followed_headed t trace w head h = record {
  version = head.version;
  played = head.played;
  shadowed = head.shadowed;
  many = head.components.many;
  names = λ c p k at is. let named = head.components.each c p k at is in (named.name, named.overflow);
  taped = h.told;
}

-- So the trace is that of a run with its tape and as many calls.
pub judges_told : FetchesFind → OutcomesAreAnswers → (t : Task) (trace : Trace) (w : Walk) (told : Told) → MayJudge t → IsHeaded t.plans (length t.tokens) t.shadowed trace → IsFollowed t trace w → IsTimed t.tokens
    → ((n : ℕ) (m : Token) → slice_get t.tokens n ≡ Some m → m.time ≤ last_clock) → told.tape ≡ w.tape.items → told.calls ≡ call_total w.followers.items → Judges t trace (Ok (Lawful told))
judges_told law answers t trace w told may head h timed long tape calls = record {
  lawful = λ other e. subst (IsOfRun t trace) (one e) record {
    world = world_in t w;
    is_told = whole_is_told law answers t trace w (followed_whole t trace w may head h timed long) (followed_headed t trace w head h);
    tape = tape;
    calls = calls ∙ total_shown t w (h.walked.are_of.many ∙ length-map t.plans route_of);
  };
  unlawful = λ v e. cc;
}
  where
    one : {a b : Told} → ◌≡◌ {A = Result Verdict VerifyError} (Ok (Lawful a)) (Ok (Lawful b)) → a ≡ b
    one e = cc

pub refuted : false ≡ true → ⊥
refuted e = cc
