use Rattle.std.proofs.Common.{Err, ap, ◌∙◌}
use Rattle.cy_commands.proofs.PlayRuns.{not_too_many}
use Rattle.cy_commands.proofs.play.opening.Goals as goal

pub unreachable-requires : goal.unreachable-requires
unreachable-requires c =
    not_too_many c.args.replay.now c.as_slice.result.now c.in-Err-TooMany.field-0-0 c.as_slice.ensures c.requires.limited
    ((c.new.ensures.too_many c.in-Err-TooMany.field-0-0).0 (c.in-Err-TooMany.is ∙ ap Err c.in-Err-TooMany.field-0-is))
