use Rattle.std.proofs.Common.{◌∙◌, refl, sym, subst}
use Rattle.cy_verify.specs.Verdict.{Task, MayJudge}
use Rattle.cy_verify.specs.private.Judging.{IsFollowed}
use Rattle.cy_verify.specs.private.Led.{IsLed}
use Rattle.cy_verify.specs.private.Walking.{IsWalked}
use Rattle.cy_verify.proofs.Begun.{opening_led}
use Rattle.cy_verify.proofs.Judged.{task_is, told_headed, told_taped, judges_none, judges_told, refuted}
use Rattle.cy_verify.proofs.Opening.{opening_walked}
use Rattle.cy_verify.proofs.judge.verify.Goals as goal

pub returns-then-not-is_headed : goal.returns-then-not-is_headed
returns-then-not-is_headed c = judges_none _ c.args.trace.now (λ w h. refuted (sym c.if-not-is_headed.true ∙ c.is_headed.ensures.1 (told_headed _ c.args.trace.now w h)))

pub follows-requires-clause-may : goal.follows-requires-clause-may
follows-requires-clause-may c =
    let begun = c.in_ok-walk.ensures.opens c.args.list.now.tokens c.args.list.now.shadowed in
    subst MayJudge (sym (task_is c.args.wiring.now c.args.list.now c.args.counts.now c.args.stop c.in_ok-walk.walk begun.made)) c.requires

pub follows-requires-clause-walked : goal.follows-requires-clause-walked
follows-requires-clause-walked c =
    let begun = c.in_ok-walk.ensures.opens c.args.list.now.tokens c.args.list.now.shadowed in
    subst (λ (t : Task). IsWalked t c.args.trace.now.components c.in_ok-walk.walk) (sym (task_is c.args.wiring.now c.args.list.now c.args.counts.now c.args.stop c.in_ok-walk.walk begun.made))
    (opening_walked _ c.args.trace.now.components c.in_ok-walk.walk (c.wiring.ensures.wired c.args.wiring.now.names c.args.wiring.now.plans c.args.counts.now c.args.wiring.now.lawful c.requires.many) begun)

pub follows-requires-clause-empty : goal.follows-requires-clause-empty
follows-requires-clause-empty c = (c.in_ok-walk.ensures.opens c.args.list.now.tokens c.args.list.now.shadowed).tape

pub follows-requires-clause-stop : goal.follows-requires-clause-stop
follows-requires-clause-stop c = sym (c.in_ok-walk.ensures.opens c.args.list.now.tokens c.args.list.now.shadowed).made.its_stop

pub returns-then-not-follows : goal.returns-then-not-follows
returns-then-not-follows c =
    let begun = c.in_ok-walk.ensures.opens c.args.list.now.tokens c.args.list.now.shadowed in
    judges_none _ c.args.trace.now (λ w h. refuted (sym c.if-not-follows.true ∙ c.follows.ensures.leads w
    (subst (λ (t : Task). IsLed t c.args.trace.now.components w c.in_ok-walk.walk) (sym (task_is c.args.wiring.now c.args.list.now c.args.counts.now c.args.stop c.in_ok-walk.walk begun.made))
    (opening_led _ c.args.trace.now w c.in_ok-walk.walk h begun)) (told_taped _ c.args.trace.now w h)))

pub returns : goal.returns
returns c =
    let task : Task = record {
      names = c.args.wiring.now.names;
      plans = c.args.wiring.now.plans;
      counts = c.args.counts.now;
      tokens = c.args.list.now.tokens;
      shadowed = c.args.list.now.shadowed;
      stop = c.args.stop;
    } in
    let begun = c.in_ok-walk.ensures.opens c.args.list.now.tokens c.args.list.now.shadowed in
    let followed = subst (λ (t : Task). IsFollowed t c.args.trace.now c.follows.new.walk) (task_is c.args.wiring.now c.args.list.now c.args.counts.now c.args.stop c.in_ok-walk.walk begun.made) (c.if-not-follows.ensures.followed refl) in
    judges_told c.fetches_find.ensures.find c.outcomes_are_answers.ensures task c.args.trace.now c.follows.new.walk c.told_of.result c.requires (c.if-not-is_headed.ensures.0 refl) followed c.args.list.now.timed c.times_fit.ensures
    c.told_of.ensures.tape c.told_of.ensures.calls
