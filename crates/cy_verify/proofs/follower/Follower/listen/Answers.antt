use Rattle.std.proofs.Common.{◌≡◌, Bool, true, false, arith, refl, sym, slice_index}
use Rattle.wake_core.specs.Run.{route_of}
use Rattle.cy_verify.proofs.Awaited.{tells_reached, tells_all, due_listened, next_came_to, tuples_its}
use Rattle.cy_verify.proofs.Heard.{stays_itself, stays_then, may_further, listening_more, index_there}
use Rattle.cy_verify.proofs.follower.Follower.listen.Goals as goal

wrong : {b : Bool} → b ≡ true → b ≡ false → ⊥
wrong e n = cc

pub loop-at-init : goal.loop-at-init
loop-at-init c = record { listening = record { stays = stays_itself c.args.self.now; listens = c.requires.listened; many = sym c.arrival_count-at.ensures }; awaits = λ arrivals w. w }

pub returns-then-tail_of-tail-clause-stays : goal.returns-then-tail_of-tail-clause-stays
returns-then-tail_of-tail-clause-stays c = c.loop-at.invariant.listening.stays

pub returns-then-tail_of-tail-clause-listens : goal.returns-then-tail_of-tail-clause-listens
returns-then-tail_of-tail-clause-listens c = λ _. c.loop-at.invariant.listening.listens

pub hear-requires-clause-may : goal.hear-requires-clause-may
hear-requires-clause-may c = may_further c.requires.may c.loop-at.invariant.listening.stays

pub hear-requires-clause-searched : goal.hear-requires-clause-searched
hear-requires-clause-searched c = c.loop-at.invariant.listening.listens.searched

pub returns-then-not-hear-clause-stays : goal.returns-then-not-hear-clause-stays
returns-then-not-hear-clause-stays c = stays_then c.loop-at.invariant.listening.stays c.hear.ensures.stays

pub returns-then-tail_of-tail-clause-awaited : goal.returns-then-tail_of-tail-clause-awaited
returns-then-tail_of-tail-clause-awaited c = λ arrivals w.
    let v = c.loop-at.invariant.awaits arrivals w in
    (tells_reached v (may_further c.requires.may c.loop-at.invariant.listening.stays).its.roles c.tail_of.result c.tail_of-then-tail_of-tail.result c.tail_of.ensures (omega (arith, c.if-tail_of-tail.true)) c.tail_of-then-tail_of-tail.ensures, v.awaits)

pub returns-then-not-hear-clause-awaited : goal.returns-then-not-hear-clause-awaited
returns-then-not-hear-clause-awaited c = λ arrivals w.
    let v = c.loop-at.invariant.awaits arrivals w in
    let m = due_listened c.args.tape.now c.loop-at.at c.tail_of.result v (may_further c.requires.may c.loop-at.invariant.listening.stays).its.roles c.loop-at.invariant.listening.many c.loop-at-test.true c.tail_of.ensures (omega (arith, c.if-tail_of-tail.false)) in
    absurd (wrong (c.hear.ensures.due m.arrival.1 m.due).0 c.if-not-hear.true)

pub loop-at-preserved : goal.loop-at-preserved
loop-at-preserved c = record {
  listening = listening_more (slice_index c.args.roles.now c.loop-at.at) (index_there c.args.roles.now c.loop-at.at c.loop-at-test.true) c.loop-at.invariant.listening c.hear.ensures.stays (c.if-not-hear.ensures.heard refl);
  awaits = λ arrivals w.
      let v = c.loop-at.invariant.awaits arrivals w in
      let m = due_listened c.args.tape.now c.loop-at.at c.tail_of.result v (may_further c.requires.may c.loop-at.invariant.listening.stays).its.roles c.loop-at.invariant.listening.many c.loop-at-test.true c.tail_of.ensures (omega (arith, c.if-tail_of-tail.false)) in
      next_came_to v c.loop-at.invariant.listening.many (omega (arith, c.tail_of.ensures, c.if-tail_of-tail.false, tuples_its (route_of c.args.plan.now) c.loop-at.self.visitor (may_further c.requires.may c.loop-at.invariant.listening.stays).its.roles)) m c.hear.ensures.stays (c.if-not-hear.ensures.due m.arrival.1 m.due).1;
}

pub returns-clause-stays : goal.returns-clause-stays
returns-clause-stays c = c.loop-at.invariant.listening.stays

pub returns-clause-listens : goal.returns-clause-listens
returns-clause-listens c = λ _. c.loop-at.invariant.listening.listens

pub returns-clause-awaited : goal.returns-clause-awaited
returns-clause-awaited c = λ arrivals w.
    let v = c.loop-at.invariant.awaits arrivals w in
    (tells_all v (may_further c.requires.may c.loop-at.invariant.listening.stays).its.roles c.tail_of-2.result (omega (arith, c.loop-at.invariant.listening.many, c.loop-at-test.false)) c.tail_of-2.ensures, v.awaits)
