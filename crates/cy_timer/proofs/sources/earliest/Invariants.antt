use Rattle.cy_timer.specs.private.Sources.{IsEarliest}
use Rattle.cy_timer.proofs.sources.earliest.Given as goal

abbrev pub invariant-loop-place : goal.invariant-loop-place
invariant-loop-place l = IsEarliest l.ticks l.place l.first
