use Rattle.std.proofs.Common.{◌+◌, sym, ◌∙◌}
use Rattle.cy_recording.proofs.Unlikes.{unlike-ended}
use Rattle.cy_recording.proofs.pieces.find_unlike.Goals as goal

pub returns-then-n-file : goal.returns-then-n-file
returns-then-n-file c = sym (c.loop-n.invariant ∙ unlike-ended (c.args.at + c.loop-n.n) c.loop-n.n c.args.file.now c.args.text.now c.if-n-file.true c.loop-n-test.true)
