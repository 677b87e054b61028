use Rattle.std.proofs.Common.{ℕ, List, ◌≡◌, Option, None, option_map, option_and_then, sym, ap, subst, ◌∙◌}
use Rattle.std.specs.Prelude.{IfErr, OnOk, option_copied}
use Rattle.cy_value.specs.declared.values.ChannelValue.{ChannelValue}
use Rattle.cy_wiring.specs.Given.{difference}
use Rattle.cy_dag.specs.Refusals.{IsDue}
use Rattle.cy_wiring.specs.private.Pairs.{pair_of}
use Rattle.cy_wiring.proofs.GivenSteps.{kept_at, kept_put}
use Rattle.cy_wiring.proofs.given.test_next.Goals as goal

pub returns-in-Some-clause-accepted : goal.returns-in-Some-clause-accepted
returns-in-Some-clause-accepted c =
    let v = pair_of c.args.value in
    let first = kept_at c.args.firsts.now c.as_str-channel.result.now v.1.channel c.get.result c.get.ensures.value c.as_str-channel.ensures.value
    ∙ ap (λ o. option_map pair_of (option_copied o)) c.in-Some.is in
    subst (λ (o : Option (ℕ × ChannelValue)). OnOk c.test_alike.result (option_and_then (λ f. difference f v) o ≡ None)) (sym first) c.test_alike.ensures.accepted

pub returns-in-Some-clause-refused : goal.returns-in-Some-clause-refused
returns-in-Some-clause-refused c =
    let v = pair_of c.args.value in
    let first = kept_at c.args.firsts.now c.as_str-channel.result.now v.1.channel c.get.result c.get.ensures.value c.as_str-channel.ensures.value
    ∙ ap (λ o. option_map pair_of (option_copied o)) c.in-Some.is in
    subst (λ (o : Option (ℕ × ChannelValue)). IfErr c.test_alike.result (IsDue (option_and_then (λ f. difference f v) o))) (sym first) c.test_alike.ensures.refused

pub returns-clause-kept : goal.returns-clause-kept
returns-clause-kept c =
    let v = pair_of c.args.value in
    let none = kept_at c.args.firsts.now c.as_str-channel.result.now v.1.channel c.get.result c.get.ensures.value c.as_str-channel.ensures.value
    ∙ ap (λ o. option_map pair_of (option_copied o)) c.in_default.is in
    λ (q : List ℕ). kept_put c.args.firsts.now c.insert.new.self c.as_str-channel.result.now q c.args.value c.as_str-channel.ensures.value none (c.in_ok-insert.ensures.updates.0 (record { ref_ptr = (0, 0); now = q }))
