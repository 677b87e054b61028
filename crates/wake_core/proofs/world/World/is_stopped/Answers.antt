use Rattle.std.proofs.Common.{◌∙◌, sym, ap, ℕ, Option, Some, None, false, refl, ◌≡◌}
use Rattle.wake_core.specs.Plain.{Stop, stops}
use Rattle.wake_core.specs.WorldOf.{plain_of}
use Rattle.wake_core.proofs.world.World.is_stopped.Goals as goal

-- A stop that isn't raised names nobody.
unraised : (stop : Option Stop) (c : ℕ) → false ≡ stops stop false c
unraised None c = refl
unraised (Some s) c = refl

pub returns-then-self : goal.returns-then-self
unfolding plain_of
returns-then-self c = c.names.ensures ∙ ap (λ b. stops c.args.self.now.fixed.stop b c.args.component) (sym c.if-self.true)

pub returns-else-self : goal.returns-else-self
unfolding plain_of
returns-else-self c = c.if-self.false ∙ unraised c.args.self.now.fixed.stop c.args.component ∙ ap (λ b. stops c.args.self.now.fixed.stop b c.args.component) (sym c.if-self.false)
