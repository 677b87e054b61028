use Rattle.std.proofs.Common.{List, Result, ◌∙◌, length, sym, subst}
use Rattle.cy_msg.specs.declared.play_list.PlayList.{PlayList}
use Rattle.cy_timer.specs.Merged.{merged}
use Rattle.cy_timer.specs.Timers.{AreApart}
use Rattle.cy_timer.specs.declared.timer.Timer.{Timer}
use Rattle.cy_setup.specs.Comes.{IsJudged}
use Rattle.cy_setup.specs.Listing.{choice_of, few_in}
use Rattle.cy_setup.specs.Wiring.{wired_by}
use Rattle.cy_setup.proofs.Listed.{all_listed, apart, few_messages, ticks_judged}
use Rattle.cy_setup.proofs.listing.list_all.Goals as goal

pub with_ticks-requires-clause-apart : goal.with_ticks-requires-clause-apart
with_ticks-requires-clause-apart c =
    let w = c.args.wiring.now in
    subst (λ (ts : List Timer). AreApart c.in_ok-messages.messages.tokens ts) (sym (c.deref-2.ensures.value ∙ c.in_ok-timers.ensures.timers))
    (apart c.args.recorded.now c.args.filter.now (wired_by w) w.lawful c.in_ok-messages.messages c.in_ok-messages.ensures.listed)

pub with_ticks-requires-clause-few : goal.with_ticks-requires-clause-few
with_ticks-requires-clause-few c =
    few_messages c.args.name.now c.args.recorded.now (choice_of c.args.filter.now (wired_by c.args.wiring.now)) c.in_ok-messages.messages c.in_ok-messages.ensures.listed c.in_ok-messages.ensures.judged

pub returns-clause-judged : goal.returns-clause-judged
returns-clause-judged c =
    let w = c.args.wiring.now in
    let judged = subst (λ (ts : List Timer). IsJudged (λ (l : PlayList). length l.tokens) (few_in c.args.name.now (length (merged c.in_ok-messages.messages.tokens ts))) c.with_ticks.result)
    (c.deref-2.ensures.value ∙ c.in_ok-timers.ensures.timers) c.with_ticks.ensures.judged in
    ticks_judged c.args.recorded.now c.args.filter.now (wired_by w) w.lawful c.args.name.now c.in_ok-messages.messages c.with_ticks.result c.in_ok-messages.ensures.judged c.in_ok-messages.ensures.listed judged

pub returns-clause-listed : goal.returns-clause-listed
returns-clause-listed c =
    all_listed c.args.recorded.now c.args.filter.now (wired_by c.args.wiring.now) c.in_ok-messages.messages c.deref-2.result.now c.with_ticks.result (c.deref-2.ensures.value ∙ c.in_ok-timers.ensures.timers)
    c.in_ok-messages.ensures.listed c.with_ticks.ensures.merged
