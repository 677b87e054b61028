use Rattle.std.proofs.Common.{◌≡◌, ◌<◌, ◌+◌, ◌-◌, length, sym, arith}
use Rattle.std.proofs.lemmas.List.{take_rest}
use Rattle.cy_trace.proofs.CutLaws.{cut_last_at, cut_last_none}
use Rattle.cy_trace.proofs.word.cut_last.Goals as goal

pub returns-then-bytes-place : goal.returns-then-bytes-place
returns-then-bytes-place c =
    let place = c.loop-place.place in
    let next : place - 1 + 1 ≡ place = omega arith in
    let there : place - 1 < length c.args.bytes.now = omega arith in
    rw (take_rest c.args.bytes.now (place - 1 + 1))
    (cut_last_at c.args.mark (place - 1) c.args.bytes.now there c.if-bytes-place.true (rw next c.loop-place.invariant))

pub returns : goal.returns
returns c =
    let none : c.loop-place.place ≡ 0 = omega arith in
    sym (cut_last_none c.args.mark c.args.bytes.now (rw none at c.loop-place.invariant))
