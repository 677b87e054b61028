use Rattle.std.proofs.Common.{ℕ, ◌≡◌, ◌∙◌, List, length, sym, ap, subst}
use Rattle.cy_msg.specs.Tokens.{AreOf, IsNumbered, IsTimed}
use Rattle.cy_msg.specs.declared.token.Token.{Token}
use Rattle.cy_timer.specs.Merged.{merged}
use Rattle.cy_timer.proofs.AllPlayed.{merged-numbered, merged-origins, merged-timed}
use Rattle.cy_timer.proofs.merging.merge.Goals as goal

pub invariant_of-result : goal.invariant_of-result
invariant_of-result c =
    let messages = c.args.messages.now in
    let timers = c.args.timers.now in
    let tokens : c.new.result ≡ merged messages.tokens timers = c.new.ensures ∙ c.in_ok-tokens.ensures ∙ ap (λ (ms : List Token). merged ms timers) c.as_slice-3.ensures in
    let places : c.new-2.result ≡ messages.places = c.new-2.ensures ∙ c.in_ok-places.ensures.items ∙ c.as_slice-2.ensures in
    let origins = merged-origins (length messages.places) messages.tokens timers messages.origins in
    record {
      timed = subst IsTimed (sym tokens) (merged-timed messages.tokens timers);
      numbered = subst IsNumbered (sym tokens) (merged-numbered messages.tokens timers messages.timed messages.numbered c.requires.timers c.requires.apart);
      origins = subst (λ (ps : List ℕ). AreOf (length ps) c.new.result) (sym places) (subst (AreOf (length messages.places)) (sym tokens) origins);
    }
