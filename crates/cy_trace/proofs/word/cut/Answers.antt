use Rattle.std.proofs.Common.{◌+◌, sym}
use Rattle.std.proofs.lemmas.List.{take_rest, take_all}
use Rattle.cy_trace.proofs.CutLaws.{cut_at, cut_none, lacks_more}
use Rattle.cy_trace.proofs.word.cut.Goals as goal

pub returns-then-byte-mark-clause-parts : goal.returns-then-byte-mark-clause-parts
returns-then-byte-mark-clause-parts c =
    let place = c.loop-place.place in
    rw (take_rest c.args.bytes.now (place + 1)) (cut_at c.args.mark place c.args.bytes.now c.loop-place-test.true c.if-byte-mark.true c.loop-place.invariant)

pub loop-place-preserved : goal.loop-place-preserved
loop-place-preserved c = lacks_more c.args.mark c.loop-place.place c.args.bytes.now c.loop-place-test.true c.if-byte-mark.false c.loop-place.invariant

pub returns-clause-parts : goal.returns-clause-parts
returns-clause-parts c =
    let whole = take_all c.loop-place.place c.args.bytes.now c.loop-place-test.false in
    sym (cut_none c.args.mark c.args.bytes.now (rw whole at c.loop-place.invariant))
