use Rattle.std.proofs.Common.{arith, refl}
use Rattle.cy_trace.specs.Tapes.{entry_by}
use Rattle.cy_trace.specs.declared.line.Line.TheVariants.{Tape}
use Rattle.cy_trace.proofs.FrontLaws.{behind_line}
use Rattle.cy_trace.proofs.TapeLaws.{named_taken, named_more}
use Rattle.cy_trace.proofs.tape_lines.take_messages.Goals as goal

pub loop-message-preserved : goal.loop-message-preserved
loop-message-preserved c =
    let l = c.loop-message in
    let m = c.in-Some.message in
    let more = c.if-not-is_added.ensures.added refl in
    record {
      named = λ all. named_more c.args.names.now l.messages.items _ m (l.invariant.named all) c.in-Some.ensures.0 more;
      taken = named_taken c.args.names.now c.args.bytes.now l.rest.now c.in-Some.more.now c.args.messages.now.items l.messages.items _ c.args.line l.next m l.invariant.taken c.in-Some.ensures.1 more;
      room = omega (arith, l.invariant.room, behind_line l.rest.now c.in-Some.more.now (Tape (entry_by c.args.names.now m)) c.in-Some.ensures.1);
    }
