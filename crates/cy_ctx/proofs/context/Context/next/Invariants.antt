use Rattle.std.proofs.Common.{take}
use Rattle.cy_table.specs.Calls.{Stays}
use Rattle.cy_ctx.specs.Scan.{Passes}
use Rattle.cy_ctx.proofs.context.Context.next.Given as goal

abbrev pub invariant-loop-component : goal.invariant-loop-component
invariant-loop-component l = Stays l.table l.initial.pass l.pass × Passes (take l.component-index l.self) l.initial.pass l.pass
