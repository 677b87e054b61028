use Rattle.std.proofs.Common.{◌<◌, ◌∙◌, ℕ, List, sym, ap, subst}
use Rattle.std.specs.Str.{bytes_eq}
use Rattle.cy_reader.proofs.NamedChannels.{met, passed, none_met}
use Rattle.cy_reader.proofs.loaded.Loaded.channel_named.Goals as goal

pub channel-channel-requires : goal.channel-channel-requires
channel-channel-requires c = subst (λ (n : ℕ). c.loop-number.number < n) c.channels-number-end.ensures c.loop-number-test.true

pub returns-then-eq : goal.returns-then-eq
returns-then-eq c =
    met c.args.name.now c.args.self.now.channels c.loop-number.number c.channel-channel.result.now c.loop-number.invariant
    (subst (λ (n : ℕ). c.loop-number.number < n) c.channels-number-end.ensures c.loop-number-test.true) c.channel-channel.ensures
    (ap (λ (n : List ℕ). bytes_eq n c.args.name.now) (sym c.as_str.ensures.value) ∙ sym c.eq.ensures ∙ c.if-eq.true)

pub loop-number-preserved : goal.loop-number-preserved
loop-number-preserved c =
    passed c.args.name.now c.args.self.now.channels c.loop-number.number c.channel-channel.result.now c.loop-number.invariant
    (subst (λ (n : ℕ). c.loop-number.number < n) c.channels-number-end.ensures c.loop-number-test.true) c.channel-channel.ensures
    (ap (λ (n : List ℕ). bytes_eq n c.args.name.now) (sym c.as_str.ensures.value) ∙ sym c.eq.ensures ∙ c.if-eq.false)

pub returns : goal.returns
returns c = none_met c.args.name.now c.args.self.now.channels c.loop-number.number c.channels-number-end.result c.channels-number-end.ensures c.loop-number-test.false c.loop-number.invariant
