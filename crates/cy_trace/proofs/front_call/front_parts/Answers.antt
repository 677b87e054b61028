use Rattle.cy_trace.proofs.FrontLaws.{parts_none, parts_some}
use Rattle.cy_trace.proofs.front_call.front_parts.Goals as goal

pub returns-in-Some-front_byte : goal.returns-in-Some-front_byte
returns-in-Some-front_byte c =
    let l = c.loop-word in
    parts_none c.args.bytes.now l.seqs l.rest.now c.in-Some.word.now c.in-Some-front_byte.more.now l.invariant.text c.in-Some.ensures c.in-Some-front_byte.ensures l.invariant.short

pub returns-in-Some-front_byte-2 : goal.returns-in-Some-front_byte-2
returns-in-Some-front_byte-2 c =
    let l = c.loop-word in
    parts_some c.args.bytes.now l.seqs l.rest.now c.in-Some.word.now c.in-Some-front_byte-2.timing.now c.in_ok-number.more.now c.in_ok-out.more.now c.in_ok-number.number c.in_ok-out.out l.invariant.text c.in-Some.ensures
    c.in_ok-number.ensures.0 c.in-Some-front_byte-2.ensures c.in_ok-out.ensures.0 c.in_ok-out.ensures.1 l.invariant.short
