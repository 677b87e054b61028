use Rattle.std.proofs.Common.{ap, ◌∙◌, sym, subst, List}
use Rattle.cy_comp.specs.Answers.{CallsRise}
use Rattle.cy_comp.specs.Kind.{is_kind_in_range}
use Rattle.cy_comp.specs.declared.answers.Answer.{Answer}
use Rattle.cy_comp.specs.declared.kind.Kind.TheVariants.{External}
use Rattle.cy_answers.proofs.Valued.{in_range_valued, rise_valued}
use Rattle.cy_answers.proofs.valuing.valued_in_order.Goals as goal

pub new-requires : goal.new-requires
new-requires c =
    subst CallsRise (sym c.in_ok-valued_by.ensures.valued) (rise_valued c.args.form.now c.args.answers.now c.requires)

pub returns-clause-in_range : goal.returns-clause-in_range
returns-clause-in_range c =
    ap (λ (l : List Answer). is_kind_in_range (External l)) (c.in_ok-new.ensures ∙ c.in_ok-valued_by.ensures.valued) ∙ in_range_valued c.args.form.now c.args.answers.now
