use Rattle.std.proofs.Common.{ap, arith, flat_map}
use Rattle.std.proofs.lemmas.List.{take_all}
use Rattle.cy_trace_text.specs.TraceText.{tape_line}
use Rattle.cy_trace_text.proofs.Parting.{tape_part, adds-none, adds-as}
use Rattle.cy_trace_text.proofs.parts.push_tape_parts.Goals as goal

pub loop-from-init : goal.loop-from-init
loop-from-init c = record { low = omega arith; adds = λ names plans shadowed w long. adds-none c.args.parts.now.items }

pub loop-from-preserved : goal.loop-from-preserved
loop-from-preserved c =
    let l = c.loop-from in
    record {
      low = omega (arith, c.min-count.ensures, c.loop-from-test.true);
      adds = λ names plans shadowed w long. tape_part l.from c.min-count.result c.args.parts.now.items l.parts.items _ (omega (arith, long, c.min-count.ensures, c.loop-from-test.true)) c.in_ok-push.ensures.items
          (l.invariant.adds names plans shadowed w long);
    }

pub returns : goal.returns
returns c = λ names plans shadowed w long.
    let l = c.loop-from in
    adds-as c.args.parts.now.items l.parts.items _ _ (ap (flat_map (tape_line names)) (take_all l.from w.tape (omega (arith, long, c.loop-from-test.false)))) (l.invariant.adds names plans shadowed w long)
