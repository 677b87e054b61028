use Rattle.cy_trace.specs.declared.trace.TraceCall.{TraceCall}
use Rattle.cy_verify.specs.private.Passes.{late_seqs}
use Rattle.cy_verify.proofs.OneLate.{PassedSoFar}
use Rattle.cy_verify.proofs.obedient.count_late.Given as goal

abbrev pub invariant-loop-place : goal.invariant-loop-place
invariant-loop-place l = PassedSoFar (λ (x : TraceCall). late_seqs 0 x.seqs l.before) l.told l.place l.late
