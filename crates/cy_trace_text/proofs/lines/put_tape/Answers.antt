use Rattle.std.proofs.Common.{[], refl, arith}
use Rattle.cy_trace_text.proofs.Gathered.{line_added, short_start}
use Rattle.cy_trace_text.proofs.lines.put_tape.Goals as goal

pub loop-token-preserved : goal.loop-token-preserved
loop-token-preserved c =
    let l = c.loop-token in
    let starts = c.args.starts.now in
    let tape = c.args.tape.now in
    let start = c.index-starts-token in
    let inside = c.loop-token-test.true in
    let short = short_start starts tape l.token-index _ start.result inside c.requires.known c.requires.short start.is in
    record {
      room = omega (arith, short);
      text = line_added starts tape l.token-index _ start.result start.result.text _ _ _ [] inside c.requires.known start.is refl l.invariant.text c.put_start-at.ensures.text c.put_end-at.ensures.text;
    }
