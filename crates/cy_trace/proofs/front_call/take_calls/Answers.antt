use Rattle.std.proofs.Common.{arith, refl}
use Rattle.cy_trace.proofs.FrontLaws.{call_taken, calls_kept, behind_line}
use Rattle.cy_trace.specs.declared.line.Line.TheVariants.{Call}
use Rattle.cy_trace.proofs.front_call.take_calls.Goals as goal

pub loop-call-preserved : goal.loop-call-preserved
loop-call-preserved c =
    let l = c.loop-call in
    record {
      taken = call_taken c.args.bytes.now l.rest.now c.in-Some.more.now c.args.calls.now l.calls c.is_added.new.self c.args.line l.next c.in-Some.call l.invariant.taken c.in-Some.ensures (c.if-not-is_added.ensures.added refl);
      room = omega (arith, l.invariant.room, behind_line l.rest.now c.in-Some.more.now (Call c.in-Some.call) c.in-Some.ensures);
    }

pub returns-then-not-is_added : goal.returns-then-not-is_added
returns-then-not-is_added c =
    let l = c.loop-call in
    calls_kept c.args.bytes.now l.rest.now c.args.calls.now l.calls c.is_added.new.self c.args.line l.next l.invariant.taken (c.if-not-is_added.ensures.same refl)
