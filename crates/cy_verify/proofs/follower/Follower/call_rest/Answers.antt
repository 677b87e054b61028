use Rattle.cy_verify.proofs.EndLed.{can_call_on, none_puts}
use Rattle.std.proofs.Common.{Option, Some, None, is_some, ◌≡◌, Bool, true, false, arith, refl, sym, ◌∙◌}
use Rattle.wake_core.specs.Run.{route_of}
use Rattle.cy_verify.proofs.Heard.{stays_then, may_further}
use Rattle.cy_verify.proofs.TapeGrown.{following_itself, none_of, following_more, all_called}
use Rattle.cy_verify.proofs.follower.Follower.call_rest.Goals as goal
use Rattle.cy_verify.proofs.follower.Follower.call_rest.Goals.{then-not-call-via-then-not-call, then-not-call-via-else-not-call+then-is_some}

wrong : {b : Bool} → b ≡ true → b ≡ false → ⊥
wrong e n = cc

some_of : {X : Type 0} (o : Option X) → true ≡ is_some o → (x : X) × (o ≡ Some x)
some_of None e = cc
some_of (Some x) e = (x, refl)

pub loop-at-init : goal.loop-at-init
loop-at-init c = record { to = record { following = following_itself c.requires.follows; many = sym c.call_count-at.ensures }; leads = λ stopped r lead whole. lead }

pub call-requires-clause-may : goal.call-requires-clause-may
call-requires-clause-may c = may_further c.requires.may c.loop-at.invariant.to.following.stays

pub call-requires-clause-follows : goal.call-requires-clause-follows
call-requires-clause-follows c = c.loop-at.invariant.to.following.follows

pub returns-then-not-call-clause-stays : goal.returns-then-not-call-clause-stays
returns-then-not-call-clause-stays c = stays_then c.loop-at.invariant.to.following.stays c.call.ensures.stays

pub loop-at-preserved : goal.loop-at-preserved
loop-at-preserved c = record {
  to = following_more c.loop-at.invariant.to c.call.ensures.stays (c.if-not-call.ensures.one refl) (sym c.pending.ensures ∙ none_of c.pending.result c.if-is_some.ensures) (c.if-not-call.ensures.called refl);
  leads = λ stopped r lead whole. (c.if-not-call.ensures.leads stopped r (c.loop-at.invariant.leads stopped r lead whole) (can_call_on (route_of c.args.plan.now) c.args.told.now stopped r c.args.tape.now c.loop-at.self (c.loop-at.invariant.leads stopped r lead whole) whole (omega (arith, c.loop-at.invariant.to.many, c.loop-at-test.true, c.count-at-end.ensures)))).1;
}

pub returns-clause-stays : goal.returns-clause-stays
returns-clause-stays c = c.loop-at.invariant.to.following.stays

pub returns-clause-follows : goal.returns-clause-follows
returns-clause-follows c = λ _. c.loop-at.invariant.to.following.follows

pub returns-clause-all : goal.returns-clause-all
returns-clause-all c = λ _. all_called c.loop-at.invariant.to (rw (← c.count-at-end.ensures) c.loop-at-test.false)

pub returns-clause-leads : goal.returns-clause-leads
returns-clause-leads c = λ stopped r lead whole. (refl, (c.loop-at.invariant.leads stopped r lead whole))

pub returns-then-not-call-clause-leads : goal.returns-then-not-call-clause-leads
returns-then-not-call-clause-leads c = λ stopped r lead whole.
    let led = c.call.ensures.leads stopped r (c.loop-at.invariant.leads stopped r lead whole) (can_call_on (route_of c.args.plan.now) c.args.told.now stopped r c.args.tape.now c.loop-at.self (c.loop-at.invariant.leads stopped r lead whole) whole (omega (arith, c.loop-at.invariant.to.many, c.loop-at-test.true, c.count-at-end.ensures))) in
    elim c.then-not-call.branch [
      | then-not-call-via-then-not-call w ↦ absurd (wrong led.0 w.if-not-call.true)
      | then-not-call-via-else-not-call+then-is_some w ↦
          let out = some_of w.pending.result w.if-is_some.ensures in
          absurd (none_puts (route_of c.args.plan.now) c.args.told.now stopped r c.args.tape.now c.call.new.self led.1 whole out.0 (sym w.pending.ensures ∙ out.1) (c.call.ensures.called led.0))
    ]
