use Rattle.std.proofs.Common.{◌<◌, arith, length}
use Rattle.cy_trace.proofs.TapeLaws.{message_begins}
use Rattle.cy_trace.proofs.tape_lines.front_of.Goals as goal

pub returns : goal.returns
returns c =
    let there : c.args.number < length c.args.names.now = omega (arith, c.if-place-names.false) in
    let name = c.index-names-place.result in (
      there,
      message_begins c.args.names.now c.args.number c.in_ok-seq.seq name c.args.bytes.now c.in_ok-rest.rest.now c.in_ok-seq.rest.now c.in_ok-rest-2.rest.now c.as_slice.result.now there c.index-names-place.is
          c.as_str-text.ensures.utf8 c.as_slice.ensures c.in_ok-rest.ensures c.in_ok-seq.ensures.0 c.in_ok-seq.ensures.1 c.in_ok-rest-2.ensures,
    )
