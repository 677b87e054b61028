use Rattle.std.proofs.Common.{◌≡◌, ◌++◌, drop}
use Rattle.wake_core.specs.Run.{roles_of}
use Rattle.wake_core.proofs.fixed.push_roles.Given as goal

-- What was found, and what is left.
abbrev pub invariant-loop-role : goal.invariant-loop-role
invariant-loop-role l = record {
  found : l.readers.items ++ roles_of l.fn.channel l.fn.component l.role (drop l.role l.fn.route.readers)
      ≡ l.fn.readers.items ++ roles_of l.fn.channel l.fn.component 0 l.fn.route.readers;
}
