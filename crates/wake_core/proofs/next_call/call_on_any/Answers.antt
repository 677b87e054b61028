use Rattle.std.proofs.Common.{◌∙◌, ap, sym}
use Rattle.cy_fuse.specs.Visitor.{visited}
use Rattle.wake_core.proofs.next_call.call_on_any.Goals as goal

pub took-requires : goal.took-requires
took-requires c =
    c.requires (c.in_ok-tuple.tuple, c.in_ok-tuple.position, c.in_ok-tuple.tail)
    (ap (λ n. visited n c.args.visitor.now) (sym c.cursor-cursor.ensures) ∙ sym c.in_ok-tuple.ensures.found)
