use Rattle.std.proofs.Common.{refl, sym, ◌∙◌, arith}
use Rattle.cy_trace_read.proofs.NumeralLaws.{no_number, number_finds, decimal_text, parsed_spells, unparsed, not_plain, other_number}
use Rattle.cy_trace_read.proofs.word.number.Goals as goal

pub returns-then-not-is_plain-clause-value : goal.returns-then-not-is_plain-clause-value
returns-then-not-is_plain-clause-value c =
    no_number c.args.most c.args.word.now (λ n fits is. not_plain n c.args.word.now (omega arith) is (c.if-not-is_plain.ensures.no (λ e. cc)))

pub returns-in_default-clause-value : goal.returns-in_default-clause-value
returns-in_default-clause-value c =
    no_number c.args.most c.args.word.now (λ n fits is. c.in_default.ensures.cases.0 (rw is (decimal_text n (omega arith))))

pub returns-in_default-parse-clause-value : goal.returns-in_default-parse-clause-value
returns-in_default-parse-clause-value c =
    no_number c.args.most c.args.word.now (λ n fits is.
    unparsed c.in-Ok.text.now c.parse.result c.in_default-parse.field-0 c.parse.ensures.value.0 c.in_default-parse.is n (omega arith) (c.in-Ok.ensures.cases.0 ∙ is))

pub returns-then-value-most-clause-value : goal.returns-then-value-most-clause-value
returns-then-value-most-clause-value c =
    let plain = c.if-not-is_plain.ensures.yes refl in
    let same = c.in-Ok.ensures.cases.0 in
    let spelled = parsed_spells c.in-Ok.text.now c.parse.result c.in-Ok-parse.value c.parse.ensures.value.0 c.in-Ok-parse.is (rw same plain.0) (rw same plain.1) in
    sym (number_finds c.args.most c.in-Ok-parse.value c.args.word.now c.if-value-most.true (omega arith) (sym same ∙ spelled))

pub returns-else-value-most-clause-value : goal.returns-else-value-most-clause-value
returns-else-value-most-clause-value c =
    let plain = c.if-not-is_plain.ensures.yes refl in
    let same = c.in-Ok.ensures.cases.0 in
    let spelled = parsed_spells c.in-Ok.text.now c.parse.result c.in-Ok-parse.value c.parse.ensures.value.0 c.in-Ok-parse.is (rw same plain.0) (rw same plain.1) in
    no_number c.args.most c.args.word.now (λ n fits is.
    other_number n c.in-Ok-parse.value c.args.most c.args.word.now (omega arith) (omega arith) is (sym same ∙ spelled) fits c.if-value-most.false)
