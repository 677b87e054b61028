-- The output that waits, by the number of the component's outputs.
use Rattle.std.proofs.Common.{sym, ◌∙◌}
use Rattle.cy_table.proofs.Resuming.{token_is}
use Rattle.cy_table.proofs.hold.Hold.token.Goals as goal

pub returns : goal.returns
returns c = token_is c.args.self.now c.in_ok-out.out c.outputs.result c.requires (sym c.pending.ensures ∙ c.in_ok-out.was) c.outputs.ensures
