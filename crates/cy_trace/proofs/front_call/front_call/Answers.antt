use Rattle.cy_trace.proofs.FrontLaws.{call_text, some_first}
use Rattle.cy_trace.proofs.front_call.front_call.Goals as goal

pub returns : goal.returns
returns c =
    let p = c.in_ok-seqs.ensures in
    record {
      text = call_text _ c.args.bytes.now c.in_ok-rest.rest.now c.in_ok-position.rest.now c.in_ok-rest-2.rest.now c.in_ok-tail.rest.now c.in_ok-seqs.rest.now c.in_ok-rest-3.rest.now c.in_ok-rest.ensures c.in_ok-position.ensures.0
          c.in_ok-rest-2.ensures c.in_ok-tail.ensures.0 p.text c.in_ok-rest-3.ensures;
      fits = ((c.in_ok-position.ensures.1, c.in_ok-tail.ensures.1), ((p.short, some_first c.in_ok-seqs.seqs c.as_slice.result.now c.is_empty.result c.as_slice.ensures.value c.is_empty.ensures c.if-is_empty.false, c.as_slice.ensures.few), p.fits));
    }
