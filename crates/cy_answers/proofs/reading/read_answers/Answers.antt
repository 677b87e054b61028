use Rattle.std.proofs.Common.{sym, subst, ap, arith, ◌∙◌, List, ◌+◌, ◌*◌, ◌≤◌}
use Rattle.cy_msg.specs.Tokens.{most_played}
use Rattle.cy_comp.specs.Answers.{CallsRise}
use Rattle.cy_comp.specs.Kind.{is_kind_in_range}
use Rattle.cy_comp.specs.declared.answers.Answer.{Answer}
use Rattle.cy_comp.specs.declared.kind.Kind.TheVariants.{External}
use Rattle.cy_answers.specs.Answers.{answers_from}
use Rattle.cy_answers.proofs.Answering.{behind_played, calls_rise}
use Rattle.cy_answers.proofs.reading.read_answers.Goals as goal

pub new-requires : goal.new-requires
new-requires c = subst CallsRise (sym c.in_ok-answers.ensures.answers) (calls_rise _ _ c.in_ok-count.ensures.accepted)

pub returns-clause-behind : goal.returns-clause-behind
returns-clause-behind c =
    let low : most_played ≤ (c.args.component + 1) * 4194304 = omega arith in
    ap (λ (l : List Answer). is_kind_in_range (External l)) (c.in_ok-new.ensures ∙ c.in_ok-answers.ensures.answers) ∙ behind_played _ _ low
