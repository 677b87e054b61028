-- A walk begins as a lawful run leads it.
use Rattle.std.proofs.Common.{ℕ, ◌≤◌, refl, sym, subst, arith, List, length}
use Rattle.wake_core.specs.declared.route.Route.{Route}
use Rattle.wake_core.specs.Plain.{Plain}
use Rattle.wake_core.specs.Planned.{counts_from}
use Rattle.wake_core.specs.Run.{routes_of}
use Rattle.wake_core.proofs.Cited.{tape_planned}
use Rattle.cy_trace.specs.declared.trace.Trace.{Trace}
use Rattle.cy_verify.specs.declared.walk.Walk.{Walk}
use Rattle.cy_verify.specs.private.Led.{AreLed, IsLed}
use Rattle.cy_verify.specs.private.Walking.{IsOpening}
use Rattle.cy_verify.specs.Verdict.{Task, IsTold}
use Rattle.cy_verify.proofs.RunLed.{are_led_first}

-- The tape of a lawful run has no more messages than are planned.
lawful_few : (t : Task) (trace : Trace) (w : Plain) → IsTold t trace w → length w.tape ≤ counts_from (routes_of t.plans) t.counts 0 (length t.counts)
lawful_few t trace w h =
    subst (λ (n : List ℕ). length w.tape ≤ counts_from (routes_of t.plans) n 0 (length n)) h.counts
    (subst (λ (rs : List Route). length w.tape ≤ counts_from rs w.counts 0 (length w.counts)) h.lawful.wired (tape_planned w h.lawful.sound.consistent))

-- Before anything is followed each component is led, and there is room for the whole tape.
pub opening_led : (t : Task) (trace : Trace) (w : Plain) (walk : Walk) → IsTold t trace w → IsOpening t walk → IsLed t trace.components w walk
opening_led t trace w walk h o = record {
  counts = h.counts;
  lawful = h.lawful;
  led = subst (AreLed t w trace.components walk.followers.items) (sym o.tape) (are_led_first t trace w walk.followers.items h o.are_of o.fresh);
  begins = rw o.tape refl;
  room = let few = lawful_few t trace w h in let room = o.roomy in omega (arith, few, room);
}
