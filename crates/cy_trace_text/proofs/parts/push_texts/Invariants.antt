use Rattle.std.proofs.Common.{◌≡◌, ◌++◌, take, flat_map}
use Rattle.wake_core.specs.Rest.{run_shown}
use Rattle.wake_core.specs.WorldOf.{plain_of}
use Rattle.cy_trace_text.specs.Parts.{part_text}
use Rattle.cy_trace_text.proofs.parts.push_texts.Given as goal

abbrev pub invariant-loop-text : goal.invariant-loop-text
invariant-loop-text g l = l.to.items
    ≡ l.fn.to.items ++ flat_map (part_text l.wiring.names l.wiring.plans l.shadowed (run_shown (plain_of l.world))) (take l.text-index l.parts)
