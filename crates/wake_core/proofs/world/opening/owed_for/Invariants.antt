use Rattle.wake_core.specs.private.Opening.{AreNothing}
use Rattle.wake_core.proofs.world.opening.owed_for.Given as goal

-- Those of the threads so far.
abbrev pub invariant-loop : goal.invariant-loop
invariant-loop l = record { so_far : AreNothing l.fn.room l.counter l.owed.items }
