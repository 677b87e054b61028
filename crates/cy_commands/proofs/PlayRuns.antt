-- A replay that was played, and what is told of it.
use Rattle.std.proofs.Common.{ℕ, Bool, true, false, ◌≡◌, ◌≤◌, List, length, Option, slice_get, ap, refl, subst, sym, ◌∙◌, arith}
use Rattle.cy_msg.specs.Placement.{scan_of}
use Rattle.cy_msg.specs.Request.{Request}
use Rattle.wake_core.specs.Bounds.{PlaceLaws}
use Rattle.wake_core.specs.LawfulRun.{LawfulRun}
use Rattle.wake_core.specs.Plain.{Plain, Stop, opening_world}
use Rattle.wake_core.specs.Planned.{planned}
use Rattle.wake_core.specs.Rest.{run_shown}
use Rattle.wake_core.specs.Run.{routes_of}
use Rattle.wake_core.specs.Serial.{SerialRun}
use Rattle.wake_core.specs.Way.{IsLed}
use Rattle.wake_core.specs.WorldCalls.{IsTooMany}
use Rattle.wake_core.specs.declared.entries.TheConstants.{MOST_PLANNED}
use Rattle.wake_core.specs.declared.route.Route.{Route}
use Rattle.cy_setup.specs.Listing.{choice_of}
use Rattle.cy_setup.specs.Setup.{IsSetUp}
use Rattle.cy_setup.specs.Wiring.{wired_by}
use Rattle.cy_recording.specs.Recording.{IsWritable}
use Rattle.cy_recording.specs.RecordLaws.{PlacesAreThere}
use Rattle.cy_setup.specs.declared.setup.Replay.{Replay}
use Rattle.cy_trace.specs.TraceForm.{IsTraceText}
use Rattle.cy_commands.specs.PlayEnds.{HasRun, source_by}
use Rattle.cy_commands.specs.Commands.PlayWork.{IsRunOf, run_trace}
use Rattle.cy_commands.proofs.Taped.{lawful_origins}

-- no more is planned than a world keeps
pub not_too_many : (x : Replay) (counts : List ℕ) (n : ℕ) → counts ≡ x.counts → planned (routes_of x.wiring.plans) x.counts ≤ MOST_PLANNED → IsTooMany (routes_of x.wiring.plans) counts n → ⊥
not_too_many x counts n same few many =
    let p = many.0 ∙ ap (planned (routes_of x.wiring.plans)) same in
    let more = many.1 in
    omega (arith, p, more, few)

-- the serial run from the opening world is one that was asked for
pub serial_run : (serial : Bool) (x : Replay) (first new : Plain) → first ≡ opening_world (routes_of x.wiring.plans) x.counts x.stop
    → SerialRun first.routes first.stop (scan_of x.placement.contexts) x.list.tokens (run_shown new) → IsRunOf serial (routes_of x.wiring.plans) x.stop (scan_of x.placement.contexts) x.list.tokens new
serial_run true x first new opens run = subst (λ (w : Plain). SerialRun w.routes w.stop (scan_of x.placement.contexts) x.list.tokens (run_shown new)) opens run
serial_run false x first new opens run = tt

pub lawful_run : (x : Replay) (first new : Plain) → first ≡ opening_world (routes_of x.wiring.plans) x.counts x.stop → LawfulRun x.list.tokens first.routes first.stop new → LawfulRun x.list.tokens (routes_of x.wiring.plans) x.stop new
lawful_run x first new opens lawful = subst (λ (w : Plain). LawfulRun x.list.tokens w.routes w.stop new) opens lawful

-- and on threads it has the stop of the replay
pub threads_run : (x : Replay) (first new : Plain) → first ≡ opening_world (routes_of x.wiring.plans) x.counts x.stop → LawfulRun x.list.tokens (routes_of x.wiring.plans) first.stop new → LawfulRun x.list.tokens (routes_of x.wiring.plans) x.stop new
threads_run x first new opens lawful = subst (λ (w : Plain). LawfulRun x.list.tokens (routes_of x.wiring.plans) w.stop new) opens lawful

pub any_run : (serial : Bool) (x : Replay) (new : Plain) → serial ≡ false → IsRunOf serial (routes_of x.wiring.plans) x.stop (scan_of x.placement.contexts) x.list.tokens new
any_run true x new e = cc
any_run false x new e = tt

-- the trace of a world in which no more is planned than a world keeps
abbrev pub ReadsBack : Replay → Plain → Type 0
ReadsBack x w = planned w.routes w.counts ≤ MOST_PLANNED → IsTraceText (run_trace (source_by x) x.list.shadowed (run_shown w))

planned_as : (x : Replay) (w : Plain) → w.routes ≡ routes_of x.wiring.plans → w.counts ≡ x.counts → planned (routes_of x.wiring.plans) x.counts ≤ MOST_PLANNED → planned w.routes w.counts ≤ MOST_PLANNED
planned_as x w routes counts few =
    let same : planned w.routes w.counts ≡ planned (routes_of x.wiring.plans) x.counts = ap (λ (r : List Route). planned r w.counts) routes ∙ ap (planned (routes_of x.wiring.plans)) counts in
    omega (arith, same, few)

-- the tape of a lawful run can be written
pub writable : (r : Request) (x : Replay) (w : Plain) → PlacesAreThere → PlaceLaws → IsSetUp r x → LawfulRun x.list.tokens (routes_of x.wiring.plans) x.stop w → length w.counts ≡ length x.wiring.names → IsWritable (source_by x) w.tape
writable r x w places stand s lawful many = record {
  channels = λ n t at. let below = lawful.sound.consistent.room.channels n t at in omega (arith, below, many);
  origins = lawful_origins stand x.list x.wiring.plans x.wiring.lawful.in_range x.stop w lawful;
  places = λ n place at. places x.recorded (choice_of r.filter (wired_by x.wiring)) s.listed.messages s.listed.chosen n place (ap (λ (ps : List ℕ). slice_get ps n) (sym s.listed.merged.places) ∙ at);
}

opening_same : (r s : List Route) (m n : List ℕ) (t u : Option Stop) → r ≡ s → m ≡ n → t ≡ u → opening_world r m t ≡ opening_world s n u
opening_same r s m n t u a b c = rw (a, b, c) refl

-- a lawful run from the opening world can be written, and its trace is read back
pub has_run : (serial : Bool) (r : Request) (x : Replay) (first new : Plain) → PlacesAreThere → PlaceLaws → IsSetUp r x → first ≡ opening_world (routes_of x.wiring.plans) x.counts x.stop
    → IsRunOf serial (routes_of x.wiring.plans) x.stop (scan_of x.placement.contexts) x.list.tokens new → LawfulRun x.list.tokens (routes_of x.wiring.plans) x.stop new → new.counts ≡ first.counts → IsLed first new → ReadsBack x new → HasRun serial x new
has_run serial r x first new places stand s opens run lawful stays led reads =
    let counts : new.counts ≡ x.counts = stays ∙ ap (λ (w : Plain). w.counts) opens in
    let many : length new.counts ≡ length x.wiring.names = ap length counts ∙ s.many in
    record {
      run = run;
      lawful = lawful;
      led = subst (λ (w : Plain). IsLed w new) (opens ∙ sym (opening_same new.routes (routes_of x.wiring.plans) new.counts x.counts new.stop x.stop lawful.wired counts lawful.given)) led;
      counts = many;
      writable = writable r x new places stand s lawful many;
      read_back = reads (planned_as x new lawful.wired counts s.limited);
    }
