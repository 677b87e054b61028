use Rattle.std.proofs.Common.{◌+◌, ◌++◌, [], ◌∷◌}
use Rattle.cy_wire.specs.Field.{seen, fields_of}
use Rattle.cy_wire.specs.Message.{last_span}
use Rattle.cy_wire.proofs.Lasts.{none_before, one_more}
use Rattle.cy_section.proofs.Bodies.{span_of-taken}
use Rattle.cy_section.proofs.read.channel_of.Goals as goal

pub loop-field-init : goal.loop-field-init
unfolding last_span
loop-field-init c = (
  [],
  rw c.new-fields.ensures (none_before (fields_of c.args.message.start c.args.message.bytes.now)),
  c.no_bytes.ensures,
  c.no_bytes-2.ensures,
  c.no_bytes-3.ensures,
)

pub loop-field-preserved : goal.loop-field-preserved
loop-field-preserved c =
    let front = c.loop-field.invariant.0 in
    let field = seen c.in-Some.field in (
      front ++ field ∷ [],
      one_more front c.loop-field.fields c.next_field.new.self _ field c.loop-field.invariant.1 (rw c.in-Some.is at c.in_ok-field.ensures.field),
      span_of-taken c.args.first front field _ c.loop-field.invariant.2 _ c.newer.ensures,
      span_of-taken (c.args.first + 1) front field _ c.loop-field.invariant.3 _ c.newer-in-Some.ensures,
      span_of-taken (c.args.first + 2) front field _ c.loop-field.invariant.4 _ c.newer-in-Some-2.ensures,
    )
