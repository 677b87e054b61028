-- What a lawful run shows of a walk along its whole tape.
use Rattle.std.proofs.Common.{◌≡◌, ◌<◌, sym, ◌∙◌, subst, List, length, Option, Some}
use Rattle.cy_msg.specs.declared.token.Token.{Token}
use Rattle.cy_msg.specs.declared.stop.Stop.{Stop}
use Rattle.wake_core.specs.declared.route.Route.{Route}
use Rattle.wake_core.specs.LawfulRun.{LawfulRun}
use Rattle.wake_core.specs.Plain.{Plain}
use Rattle.wake_core.specs.Run.{routes_of}
use Rattle.cy_verify.specs.declared.walk.Walk.{Walk}
use Rattle.cy_verify.specs.private.Allowing.{IsAllowed}
use Rattle.cy_verify.specs.private.Led.{HaveCalled}
use Rattle.cy_verify.specs.private.Passes.{IsApart, HasOneLate}
use Rattle.cy_verify.specs.Verdict.{Task}
use Rattle.cy_verify.proofs.TimesApart.{sound_apart}

-- The component that the stop of a lawful run names has at most one call with a late message.
lawful_one : (tokens : List Token) (routes : List Route) (stop : Option Stop) (w : Plain) → LawfulRun tokens routes stop w → (s : Stop) → stop ≡ Some s → s.component < length routes
    → HasOneLate routes s.after (w.calls s.component) w.tape
lawful_one tokens routes stop w run s is within =
    let given = run.given ∙ is in
    subst (λ (rs : List Route). HasOneLate rs s.after (w.calls s.component) w.tape) run.wired
    (run.sound.obedient.one s given (run.quiet.raised s given) (subst (λ (rs : List Route). s.component < length rs) (sym run.wired) within))

-- A walk that made the calls of a lawful run, along its tape, may have done so.
pub lawful_allowed : (t : Task) (w : Plain) (walk : Walk) → LawfulRun t.tokens (routes_of t.plans) t.stop w → walk.tape.items ≡ w.tape → ((s : Stop) → t.stop ≡ Some s → s.component < length (routes_of t.plans))
    → HaveCalled w walk.followers.items → IsAllowed t.plans t.stop walk
lawful_allowed t w walk run same within called = record {
  apart = subst (IsApart t.plans) (sym same) (sound_apart t.plans w run.wired run.sound);
  obedient = λ s f is at. rw (same, called s.component f at) (lawful_one t.tokens (routes_of t.plans) t.stop w run s is (within s is));
}
