use Rattle.std.proofs.Common.{◌≡◌, ◌+◌, Bool, true, false, Some, refl, sym, ◌∙◌, ap, arith}
use Rattle.cy_msg.specs.declared.token.Token.{Token}
use Rattle.cy_verify.proofs.CallLed.{told_more}
use Rattle.cy_verify.proofs.OutputLed.{can_call, puts_it, leads_sent}
use Rattle.wake_core.specs.Run.{route_of}
use Rattle.cy_verify.proofs.Heard.{stays_then, may_further}
use Rattle.cy_verify.proofs.TapeGrown.{following_itself, following_more, sent_stays, sends_by}
use Rattle.cy_verify.proofs.follower.Follower.output.Goals as goal

wrong : {b : Bool} → b ≡ true → b ≡ false → ⊥
wrong e n = cc

pub loop-at-init : goal.loop-at-init
loop-at-init c = record { to = record { following = following_itself c.requires.follows; many = sym c.call_count-at.ensures }; leads = λ stopped r t lead puts. lead }

pub call-requires-clause-may : goal.call-requires-clause-may
call-requires-clause-may c = may_further c.requires.may c.loop-at.invariant.to.following.stays

pub call-requires-clause-follows : goal.call-requires-clause-follows
call-requires-clause-follows c = c.loop-at.invariant.to.following.follows

pub returns-then-not-call-clause-stays : goal.returns-then-not-call-clause-stays
returns-then-not-call-clause-stays c = stays_then c.loop-at.invariant.to.following.stays c.call.ensures.stays

pub sent-requires-clause-few : goal.sent-requires-clause-few
sent-requires-clause-few c = (c.if-not-call.ensures.called refl).few

pub returns-in-Some-clause-stays : goal.returns-in-Some-clause-stays
returns-in-Some-clause-stays c = stays_then c.loop-at.invariant.to.following.stays (stays_then c.call.ensures.stays (sent_stays _ c.sent.ensures.sent))

pub returns-in-Some-clause-sends : goal.returns-in-Some-clause-sends
returns-in-Some-clause-sends c = λ t e. sends_by c.fetches_find.ensures.find c.in-Some.out c.requires.may.some_reader c.requires.numbered (sym c.pending.ensures ∙ c.in-Some.is) (c.if-not-call.ensures.called refl) c.sent.ensures.sent c.sent.ensures.token e

pub loop-at-preserved : goal.loop-at-preserved
loop-at-preserved c = record {
  to = following_more c.loop-at.invariant.to c.call.ensures.stays (c.if-not-call.ensures.one refl) (sym c.pending.ensures ∙ c.in_default.is) (c.if-not-call.ensures.called refl);
  leads = λ stopped r t lead puts. (c.if-not-call.ensures.leads stopped r (c.loop-at.invariant.leads stopped r t lead puts) (can_call (route_of c.args.plan.now) c.args.told.now stopped r c.args.tape.now t c.loop-at.self (c.loop-at.invariant.leads stopped r t lead puts) puts c.requires.may.few_readers c.loop-at.invariant.to.following.follows.sent)).1;
}

pub returns-then-not-call-clause-leads : goal.returns-then-not-call-clause-leads
returns-then-not-call-clause-leads c = λ stopped r t lead puts.
    absurd (wrong (c.call.ensures.leads stopped r (c.loop-at.invariant.leads stopped r t lead puts) (can_call (route_of c.args.plan.now) c.args.told.now stopped r c.args.tape.now t c.loop-at.self (c.loop-at.invariant.leads stopped r t lead puts) puts c.requires.may.few_readers c.loop-at.invariant.to.following.follows.sent)).0 c.if-not-call.true)

pub returns-in-Some-clause-leads : goal.returns-in-Some-clause-leads
returns-in-Some-clause-leads c = λ stopped r t lead puts.
    let led = (c.if-not-call.ensures.leads stopped r (c.loop-at.invariant.leads stopped r t lead puts) (can_call (route_of c.args.plan.now) c.args.told.now stopped r c.args.tape.now t c.loop-at.self (c.loop-at.invariant.leads stopped r t lead puts) puts c.requires.may.few_readers c.loop-at.invariant.to.following.follows.sent)).1 in (
      ap (λ (u : Token). Some u) (c.sent.ensures.token ∙ puts_it (route_of c.args.plan.now) c.args.told.now stopped r c.args.tape.now t c.call.new.self led puts c.in-Some.out (sym c.pending.ensures ∙ c.in-Some.is) (c.if-not-call.ensures.called refl)),
      leads_sent (route_of c.args.plan.now) c.args.told.now stopped r c.args.tape.now t c.call.new.self led puts c.sent.new.self (c.call.new.self.outputs + 1) c.sent.ensures.sent,
    )

pub returns-clause-stays : goal.returns-clause-stays
returns-clause-stays c = c.loop-at.invariant.to.following.stays

pub returns-clause-leads : goal.returns-clause-leads
returns-clause-leads c = λ stopped r t lead puts.
    absurd (told_more (route_of c.args.plan.now) c.args.told.now stopped r c.args.tape.now c.loop-at.self (c.loop-at.invariant.leads stopped r t lead puts) (can_call (route_of c.args.plan.now) c.args.told.now stopped r c.args.tape.now t c.loop-at.self (c.loop-at.invariant.leads stopped r t lead puts) puts c.requires.may.few_readers c.loop-at.invariant.to.following.follows.sent)
    (omega (arith, c.loop-at.invariant.to.many, c.loop-at-test.false, c.count-at-end.ensures)))
