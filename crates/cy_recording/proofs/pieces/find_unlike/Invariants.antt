use Rattle.std.proofs.Common.{◌≡◌, ◌+◌, drop}
use Rattle.cy_recording.specs.private.Unlike.{unlike}
use Rattle.cy_recording.proofs.pieces.find_unlike.Given as goal

abbrev pub invariant-loop-n : goal.invariant-loop-n
invariant-loop-n l = unlike l.at l.file l.text ≡ unlike (l.at + l.n) (drop l.n l.file) (drop l.n l.text)
