use Rattle.std.proofs.Common.{◌≤◌, ap, List, ℕ, length, take, get_or, sym, arith}
use Rattle.std.proofs.lemmas.List.{take_all}
use Rattle.std.proofs.lemmas.List.Elements.{All-more, All-same}
use Rattle.cy_trace_text.specs.declared.start.LineStart.{LineStart}
use Rattle.cy_trace_text.proofs.start.are_short.Goals as goal

pub loop-start-preserved : goal.loop-start-preserved
loop-start-preserved c =
    let starts = c.args.starts.now in
    let i = c.loop-start.start-index in
    let read = ap (λ (s : LineStart). length s.text) c.start-item.is in
    let same = ap (λ (l : List ℕ). length l) c.as_slice.ensures in
    let short : length (get_or starts i c.start-item.result).text ≤ 100 = omega (arith, read, same) in
    All-more (λ (s : LineStart). length s.text ≤ 100) starts i c.start-item.result c.loop-start-test.true c.loop-start.invariant short

pub returns : goal.returns
returns c = λ yes.
    All-same (λ (s : LineStart). length s.text ≤ 100) c.args.starts.now (take c.loop-start.start-index c.args.starts.now)
    (sym (take_all c.loop-start.start-index c.args.starts.now c.loop-start-test.false)) c.loop-start.invariant
