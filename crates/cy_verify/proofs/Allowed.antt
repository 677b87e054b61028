-- What is asked of a walk that was followed to its end.
use Rattle.std.proofs.Common.{◌≡◌, Bool, refl, sym, ◌∙◌, ap, subst, List, Option, Some, slice_get}
use Rattle.std.specs.Bool.{Decides}
use Rattle.cy_msg.specs.declared.stop.Stop.{Stop}
use Rattle.cy_comp.specs.declared.plan.Plan.{Plan}
use Rattle.wake_core.specs.Run.{routes_of}
use Rattle.cy_verify.specs.declared.follower.Follower.{Follower}
use Rattle.cy_verify.specs.declared.walk.Walk.{Walk}
use Rattle.cy_verify.specs.private.Passes.{IsApart, HasOneLate}
use Rattle.cy_verify.specs.private.Allowing.{IsObedient, IsAllowed}

one : {X : Type 0} {a b : X} → Some a ≡ Some b → a ≡ b
one e = cc

-- The component that a stop names is the one that was asked.
pub obedient_one : (plans : List Plan) (walk : Walk) (s : Stop) (f : Follower) (r : Bool) → slice_get walk.followers.items s.component ≡ Some f → Decides r (HasOneLate (routes_of plans) s.after f.routine.calls walk.tape.items)
    → Decides r (IsObedient plans (Some s) walk)
obedient_one plans walk s f r at d = (
  (λ yes t g e is. subst (λ (u : Stop). HasOneLate (routes_of plans) u.after g.routine.calls walk.tape.items) (one e) (subst (λ (h : Follower). HasOneLate (routes_of plans) s.after h.routine.calls walk.tape.items) (one (sym at ∙ ap (λ (u : Stop). slice_get walk.followers.items u.component) (one e) ∙ is)) (d.0 yes))),
  (λ h. d.1 (h s f refl at)),
)

-- Both are asked.
pub allowed_both : (plans : List Plan) (stop : Option Stop) (walk : Walk) (r : Bool) → IsApart plans walk.tape.items → Decides r (IsObedient plans stop walk) → Decides r (IsAllowed plans stop walk)
allowed_both plans stop walk r apart d = ((λ yes. record { apart = apart; obedient = d.0 yes }), (λ h. d.1 h.obedient))
