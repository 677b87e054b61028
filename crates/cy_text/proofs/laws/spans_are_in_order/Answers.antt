use Rattle.cy_text.proofs.TokenRows as rows
use Rattle.cy_text.proofs.laws.spans_are_in_order.Goals as goal

pub returns : goal.returns
returns c = rows.in_order
