use Rattle.cy_section.proofs.Lengths.{section_over}
use Rattle.cy_section.proofs.head_bytes.set_head_at.Goals as goal

pub returns : goal.returns
returns c =
    section_over c.args.kind c.args.start c.args.piece.now _ c.overwrite.new.self (rw c.bytes.ensures at c.head_of.ensures) c.overwrite.ensures
