use Rattle.cy_text.proofs.CutText as cuts
use Rattle.cy_text.proofs.laws.tokens_are_pieces.Goals as goal

pub returns : goal.returns
returns c = record { cut = cuts.read_is_cut; one = λ text tokens h. cuts.cut_is_read h }
