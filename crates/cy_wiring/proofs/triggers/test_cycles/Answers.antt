use Rattle.std.proofs.Common.{List, Option, ℕ, length, ap, arith}
use Rattle.std.proofs.lemmas.List.{length-map}
use Rattle.cy_wiring.specs.Triggers.{trigger_of}
use Rattle.cy_wiring.proofs.triggers.test_cycles.Goals as goal

pub test_triggers-requires : goal.test_triggers-requires
test_triggers-requires c =
    omega (
      arith,
      c.requires.components,
      ap (λ (ts : List (Option ℕ)). length ts) c.deref.ensures.value,
      ap (λ (ts : List (Option ℕ)). length ts) c.in_ok-triggers.ensures,
      length-map c.args.components.now (trigger_of c.args.configs.now),
    )

pub returns-clause-accepted : goal.returns-clause-accepted
returns-clause-accepted c = rw (c.deref.ensures.value, c.in_ok-triggers.ensures) at c.test_triggers.ensures.accepted

pub returns-clause-refused : goal.returns-clause-refused
returns-clause-refused c = rw (c.deref.ensures.value, c.in_ok-triggers.ensures) at c.test_triggers.ensures.refused
