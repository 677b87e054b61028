use Rattle.std.proofs.Common.{◌≡◌, drop}
use Rattle.cy_verify.specs.private.Passes.{late_seqs}
use Rattle.cy_verify.proofs.obedient.has_late.Given as goal

abbrev pub invariant-loop-reader : goal.invariant-loop-reader
invariant-loop-reader l = late_seqs l.reader (drop l.reader l.call.seqs) l.before ≡ late_seqs 0 l.call.seqs l.before
