-- Changes of worlds, one after another.
use Rattle.std.proofs.Common.{sym, ◌∙◌, ap, subst}
use Rattle.wake_core.specs.declared.world.World.{World}
use Rattle.wake_core.specs.Plain.{Plain}
use Rattle.wake_core.specs.WorldOf.{plain_of}
use Rattle.wake_core_tests.specs.Groups.{Shows, Becomes}

-- What holds of the plain world that a world is holds of the world.
pub at : (P : Plain → Type 0) (v : Plain) (w : World) → Shows v w → P v → P (plain_of w)
at P v w shows holds = subst P (sym shows.plain) holds

-- A world that became another one.
pub became : (change : Plain → Plain) (v : Plain) (w u : World) → Shows v w → Becomes change w u → Shows (change v) u
became change v w u shows becomes = record {
  plain = becomes.plain ∙ ap change shows.plain;
  stepped = becomes.stepped shows.stepped;
}
