use Rattle.cy_wire.specs.Message.{seen_span}
use Rattle.cy_section.proofs.Texts.{text_of-text}
use Rattle.cy_section.proofs.read.text_of.Goals as goal

pub returns-in-Ok : goal.returns-in-Ok
returns-in-Ok c = rw c.in-Ok.ensures.cases.0 (text_of-text (seen_span c.args.span) c.in-Ok.ensures.cases.1)
