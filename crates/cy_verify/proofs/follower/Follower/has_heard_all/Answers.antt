use Rattle.std.proofs.Common.{◌≡◌, true, Option, Some, None, is_some, ap, arith, length}
use Rattle.cy_verify.proofs.Awaited.{none_left}
use Rattle.std.proofs.lemmas.Option.{slice_get_within}
use Rattle.wake_core.specs.Run.{route_of}
use Rattle.cy_verify.proofs.Heard.{none_more}
use Rattle.cy_verify.proofs.TapeGrown.{none_of}
use Rattle.cy_verify.proofs.follower.Follower.has_heard_all.Goals as goal

found : {X : Type 0} (o : Option X) → o ≡ None → true ≡ is_some o → ⊥
found None e n = cc
found (Some x) e n = cc

pub loop-reader-init : goal.loop-reader-init
loop-reader-init c = λ j channel l. absurd (omega (arith, l))

pub loop-reader-preserved : goal.loop-reader-preserved
loop-reader-preserved c =
    none_more (route_of c.args.plan.now) c.args.self.now.visitor.arrivals c.args.self.now.searched c.args.tape.now c.loop-reader.reader c.requires.searched
    (rw (← c.as_slice-readers.ensures) c.loop-reader-test.true)
    (rw (← c.as_slice-readers.ensures) (c.next_on.ensures.none (none_of c.next_on.result c.if-is_some.ensures)))
    c.loop-reader.invariant

pub returns-clause-all : goal.returns-clause-all
returns-clause-all c = λ _ j channel is.
    let inside = slice_get_within c.args.plan.now.readers j channel is in
    c.loop-reader.invariant j channel (omega (arith, inside, c.loop-reader-test.false, ap length c.as_slice-readers.ensures)) is

pub returns-then-is_some-clause-whole : goal.returns-then-is_some-clause-whole
returns-then-is_some-clause-whole c = λ whole.
    absurd (found c.next_on.result (none_left (route_of c.args.plan.now) c.args.self.now.visitor.arrivals c.args.self.now.searched c.args.tape.now c.loop-reader.reader c.requires.searched
    (rw (← c.as_slice-readers.ensures) c.loop-reader-test.true) c.next_on.result (rw (← c.as_slice-readers.ensures) c.next_on.ensures.next) whole) c.if-is_some.ensures)
