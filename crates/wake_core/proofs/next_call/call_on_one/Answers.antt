use Rattle.std.proofs.Common.{◌∙◌, ap, sym}
use Rattle.cy_msg.specs.declared.token.Tuple.TheVariants.{One}
use Rattle.cy_fuse.specs.Visitor.{visited}
use Rattle.wake_core.proofs.next_call.call_on_one.Goals as goal

pub took-requires : goal.took-requires
took-requires c =
    c.requires.may (One c.in_ok-message.message, c.in_ok-message.position, c.in_ok-message.tail)
    (ap (λ n. visited n c.args.visitor.now) (sym c.cursor-cursor.ensures) ∙ sym c.in_ok-message.ensures.found)
