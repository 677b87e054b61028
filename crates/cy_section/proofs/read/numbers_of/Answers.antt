use Rattle.std.proofs.Common.{◌++◌, ℕ, [], ◌∷◌, refl, sym, ap, ◌∙◌, arith}
use Rattle.std.specs.Option.{option_map}
use Rattle.std.specs.Prelude.{unwrap_or}
use Rattle.std.proofs.lemmas.Result.{err_from_is_err_and}
use Rattle.cy_wire.specs.Field.{seen, fields_of}
use Rattle.cy_wire.specs.Message.{number_in, last_number}
use Rattle.cy_wire.proofs.Lasts.{none_before, one_more, all_read, fault_read, fewer}
use Rattle.cy_section.specs.Reading.{fault_of}
use Rattle.cy_section.proofs.Numbers.{u64_of-more, get_or-zeros}
use Rattle.cy_section.proofs.read.numbers_of.Goals as goal

pub loop-field-init : goal.loop-field-init
unfolding last_number
loop-field-init c = ([], rw c.new-reader.ensures (none_before (fields_of c.args.at c.args.body.now)), refl, λ k few. get_or-zeros 32 k)

pub returns-in_err-field : goal.returns-in_err-field
returns-in_err-field c =
    let p = err_from_is_err_and c.from_residual.result c.from_residual.ensures.1 in
    rw (p.1, p.2) (ap (option_map fault_of) (fault_read c.loop-field.invariant.0 c.loop-field.reader _ _ c.loop-field.invariant.1 c.in_err-field.ensures.field.0))

pub loop-field-smaller : goal.loop-field-smaller
loop-field-smaller c = fewer _ _ _ (rw c.in-Some.is at c.in_ok-field.ensures.field)

pub loop-field-preserved : goal.loop-field-preserved
loop-field-preserved c =
    let front = c.loop-field.invariant.0 in
    let field = seen c.in-Some.field in (
      front ++ field ∷ [],
      one_more front c.loop-field.reader c.next_field.new.self _ field c.loop-field.invariant.1 (rw c.in-Some.is at c.in_ok-field.ensures.field),
      c.keep_number.array_long,
      λ k few.
          let now = c.keep_number.ensures k (omega arith) in
          now ∙ ap (λ (n : ℕ). unwrap_or (number_in k field) n) (c.loop-field.invariant.3 k few) ∙ sym (u64_of-more k front field),
    )

pub returns : goal.returns
returns c =
    let ended = rw c.in_default.is at c.in_ok-field.ensures.field in
    let all = all_read c.loop-field.invariant.0 c.loop-field.reader (fields_of c.args.at c.args.body.now) c.loop-field.invariant.1 ended.0 in
    let long = c.loop-field.invariant.2 in
    (all.1, λ k few. rw all.0 (c.loop-field.invariant.3 k (omega arith)))
