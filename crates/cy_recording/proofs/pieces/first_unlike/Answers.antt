use Rattle.std.proofs.Common.{sym, ap, ◌∙◌, List, ℕ}
use Rattle.std.specs.Cmp.Lexicographic.{same_text}
use Rattle.cy_recording.specs.private.Unlike.{unlike}
use Rattle.cy_recording.proofs.Unlikes.{unlike-same}
use Rattle.cy_recording.proofs.pieces.first_unlike.Goals as goal

pub returns-then-eq : goal.returns-then-eq
returns-then-eq c =
    let same = same_text c.args.file.now c.args.text.now (sym c.if-eq.true ∙ c.eq.ensures) in
    sym (ap (λ (file : List ℕ). unlike c.args.at file c.args.text.now) same ∙ unlike-same c.args.at c.args.text.now)
