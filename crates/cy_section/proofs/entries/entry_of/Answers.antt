use Rattle.std.proofs.Common.{◌++◌, [], ◌∷◌, refl}
use Rattle.cy_wire.specs.Field.{seen, fields_of}
use Rattle.cy_wire.specs.Message.{last_number, last_span}
use Rattle.cy_wire.proofs.Lasts.{none_before, one_more}
use Rattle.cy_section.proofs.Bodies.{u64_of-taken, last_span-taken}
use Rattle.cy_section.proofs.entries.entry_of.Goals as goal

pub loop-field-init : goal.loop-field-init
unfolding last_number last_span
loop-field-init c = ([], rw c.new-fields.ensures (none_before (fields_of c.args.entry.start c.args.entry.bytes.now)), refl, refl, refl, refl, refl)

pub loop-field-preserved : goal.loop-field-preserved
loop-field-preserved c =
    let front = c.loop-field.invariant.0 in
    let field = seen c.in-Some.field in (
      front ++ field ∷ [],
      one_more front c.loop-field.fields c.next_field.new.self _ field c.loop-field.invariant.1 (rw c.in-Some.is at c.in_ok-field.ensures.field),
      u64_of-taken 1 front field _ c.loop-field.invariant.2 _ c.take.ensures.kind,
      u64_of-taken 2 front field _ c.loop-field.invariant.3 _ c.take.ensures.position,
      last_span-taken 101 front field _ c.loop-field.invariant.4 _ c.take.ensures.channel,
      last_span-taken 102 front field _ c.loop-field.invariant.5 _ c.take.ensures.header,
      last_span-taken 103 front field _ c.loop-field.invariant.6 _ c.take.ensures.body,
    )
