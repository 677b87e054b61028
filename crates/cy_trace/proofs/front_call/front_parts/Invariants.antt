use Rattle.std.proofs.Common.{◌≡◌, ◌++◌, length}
use Rattle.cy_trace.specs.TraceForm.{Each, IsShort, numbers_text}
use Rattle.cy_trace.proofs.front_call.front_parts.Given as goal

abbrev pub invariant-loop-word : goal.invariant-loop-word
invariant-loop-word l = record {
  text : l.bytes ≡ numbers_text l.seqs ++ l.rest;
  short : Each IsShort l.seqs;
}

abbrev pub decreases-loop-word : goal.decreases-loop-word
decreases-loop-word l = length l.rest
