use Rattle.std.proofs.Common.{◌++◌, ◌+◌, ◌-◌, take, ap, sym, ◌∙◌, arith}
use Rattle.std.specs.Fmt.{decimal}
use Rattle.cy_trace_text.proofs.Keeping.{few_digits, copied}
use Rattle.cy_trace_text.proofs.numeral.put_kept.Goals as goal

pub overflow_add-result : goal.overflow_add-result
overflow_add-result c =
    let kept = c.args.numeral.now.kept in
    omega (arith, few_digits c.args.numeral.now.number kept.few)

pub returns-clause-text : goal.returns-clause-text
returns-clause-text c =
    let numeral = c.args.numeral.now in
    let page = c.args.page.now in
    copied numeral.number c.args.at numeral.len numeral.digits (c.args.at + 8 - c.args.at) page c.copy_from_slice.new.self numeral.kept.few numeral.kept.spelled numeral.kept.long
    (c.copy_from_slice.ensures.after ∙ c.to_le_bytes.ensures) (omega arith)
    ∙ ap (λ n. take c.args.at page ++ decimal n) (sym c.if-number-numeral.false)

pub returns-clause-end : goal.returns-clause-end
returns-clause-end c =
    let kept = c.args.numeral.now.kept in
    omega (arith, few_digits c.args.numeral.now.number kept.few)
