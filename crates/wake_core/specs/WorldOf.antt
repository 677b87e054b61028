-- What a world shows of its run.
use Rattle.std.specs.Prelude.{ℕ, ◌≡◌, List, None, Option, option_map}
use Rattle.cy_msg.specs.declared.token.Tuple.{Tuple}
use Rattle.wake_core.specs.declared.route.Route.{Route}
use Rattle.wake_core.specs.declared.fixed.Fixed.{Fixed}
use Rattle.wake_core.specs.declared.world.World.{World}
use Rattle.wake_core.specs.declared.found.Found.{Found}
use Rattle.wake_core.specs.Plain.{Plain, Stop}
use Rattle.wake_core.specs.Fields.{read}
use Rattle.wake_core.specs.private.Shown.{plain_at}

-- The plain world that a world is.
unfoldable pub plain_of : World → Plain
plain_of w = plain_at w.fixed.routes.items w.fixed.counts.items w.fixed.stop w.visitors.items
    w.routines.items w.found.items w.spent.items w.hands.items w.owed.items w.tape.items w.clock
    w.closing w.raised

-- The tuple on which a component is still to be stepped: a fetch gave it, and no step was made
-- since.
unfoldable pub to_step : World → ℕ → Option Tuple
to_step w c = option_map (λ (f : Found). f.tuple) (read (λ f. f) None w.found.items c)

-- The components of a wiring, how many messages are played on each of its channels, and the stop,
-- if there is one.
abbrev pub routes_in : Fixed → List Route
routes_in f = f.routes.items

abbrev pub counts_in : Fixed → List ℕ
counts_in f = f.counts.items

abbrev pub stop_in : Fixed → Option Stop
stop_in f = f.stop

-- This is kept: the components, the numbers and the stop.
pub record IsMade (routes : List Route) (counts : List ℕ) (stop : Option Stop) (f : Fixed)
    : Type 0 where
  pub its_routes : routes_in f ≡ routes
  pub its_counts : counts_in f ≡ counts
  pub its_stop : stop_in f ≡ stop
