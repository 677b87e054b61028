use Rattle.std.proofs.Common.{◌≡◌, Bool, true, false, refl, sym, arith, slice_index}
use Rattle.cy_verify.proofs.Awaited.{due_next, next_came, all_came}
use Rattle.cy_verify.proofs.Heard.{stays_itself, stays_then, may_further, listening_more, index_there, told_few}
use Rattle.cy_verify.proofs.follower.Follower.hear_rest.Goals as goal

wrong : {b : Bool} → b ≡ true → b ≡ false → ⊥
wrong e n = cc

pub loop-at-init : goal.loop-at-init
loop-at-init c = record { listening = record { stays = stays_itself c.args.self.now; listens = c.requires.listened; many = sym c.arrival_count-at.ensures }; awaits = λ arrivals w here. w }

pub hear-requires-clause-may : goal.hear-requires-clause-may
hear-requires-clause-may c = may_further c.requires.may c.loop-at.invariant.listening.stays

pub hear-requires-clause-searched : goal.hear-requires-clause-searched
hear-requires-clause-searched c = c.loop-at.invariant.listening.listens.searched

pub returns-then-not-hear-clause-stays : goal.returns-then-not-hear-clause-stays
returns-then-not-hear-clause-stays c = stays_then c.loop-at.invariant.listening.stays c.hear.ensures.stays

pub returns-then-not-hear-clause-awaited : goal.returns-then-not-hear-clause-awaited
returns-then-not-hear-clause-awaited c = λ arrivals w here.
    let v = c.loop-at.invariant.awaits arrivals w here in
    let m = due_next c.args.tape.now c.loop-at.at v c.loop-at.invariant.listening.many c.loop-at-test.true (λ a at. here c.loop-at.at a at) in
    absurd (wrong (c.hear.ensures.due m.arrival.1 m.due).0 c.if-not-hear.true)

pub loop-at-preserved : goal.loop-at-preserved
loop-at-preserved c = record {
  listening = listening_more (slice_index c.args.roles.now c.loop-at.at) (index_there c.args.roles.now c.loop-at.at c.loop-at-test.true) c.loop-at.invariant.listening c.hear.ensures.stays (c.if-not-hear.ensures.heard refl);
  awaits = λ arrivals w here.
      let v = c.loop-at.invariant.awaits arrivals w here in
      let m = due_next c.args.tape.now c.loop-at.at v c.loop-at.invariant.listening.many c.loop-at-test.true (λ a at. here c.loop-at.at a at) in
      next_came v c.loop-at.invariant.listening.many m c.hear.ensures.stays (c.if-not-hear.ensures.due m.arrival.1 m.due).1;
}

pub returns-clause-stays : goal.returns-clause-stays
returns-clause-stays c = c.loop-at.invariant.listening.stays

pub returns-clause-listens : goal.returns-clause-listens
returns-clause-listens c = λ _. c.loop-at.invariant.listening.listens

pub returns-clause-all : goal.returns-clause-all
returns-clause-all c =
    let i = c.loop-at.invariant.listening in
    λ _. omega (arith, i.many, c.loop-at-test.false, told_few c.loop-at.self.visitor.arrivals c.args.roles.now i.listens.told)

pub returns-clause-awaited : goal.returns-clause-awaited
returns-clause-awaited c = λ arrivals w here.
    let v = c.loop-at.invariant.awaits arrivals w here in
    (refl, all_came v (omega (arith, c.loop-at.invariant.listening.many, c.loop-at-test.false)))
