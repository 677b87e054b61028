use Rattle.std.proofs.Common.{◌≡◌, ◌++◌, drop}
use Rattle.wake_core.specs.Run.{readers_of, readers_from}
use Rattle.wake_core.proofs.fixed.readers_on.Given as goal

-- What was found, and what is left.
abbrev pub invariant-loop-component : goal.invariant-loop-component
invariant-loop-component l = record {
  found : l.readers.items ++ readers_from l.fn.channel l.component (drop l.component l.fn.routes) ≡ readers_of l.fn.routes l.fn.channel;
}
