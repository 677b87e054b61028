use Rattle.wake_core.specs.WorldOf.{plain_of}
use Rattle.wake_core.proofs.Taking.{passes_rest, passes_none}
use Rattle.wake_core.proofs.Scanning.{order_known, order_finds, order_passes}
use Rattle.wake_core.proofs.serial_run.first_ready.Goals as goal

pub loop-component-init : goal.loop-component-init
loop-component-init c = record { rest = c.requires.rest; passes = passes_none (plain_of c.args.world.now) }

pub take-requires-clause-known : goal.take-requires-clause-known
take-requires-clause-known c = order_known c.args.order.now c.loop-component.component-index (plain_of c.args.world.now) (plain_of c.loop-component.world) (plain_of c.loop-component.world)
    c.loop-component-test.true c.loop-component.invariant.rest c.loop-component.invariant.passes c.requires.known

pub returns-then-take-clause-found : goal.returns-then-take-clause-found
unfolding plain_of
returns-then-take-clause-found c = order_finds c.args.order.now c.loop-component.component-index (plain_of c.args.world.now) (plain_of c.loop-component.world) (plain_of c.take.new.self)
    c.loop-component-test.true c.loop-component.invariant.rest c.loop-component.invariant.passes (c.take.ensures.taken c.if-take.true) c.loop-component.world.sound

pub loop-component-preserved : goal.loop-component-preserved
loop-component-preserved c =
    let one = c.take.ensures.passed c.if-take.false in
    record {
      rest = passes_rest _ (plain_of c.loop-component.world) (plain_of c.take.new.self) c.loop-component.invariant.rest one;
      passes = order_passes c.args.order.now c.loop-component.component-index (plain_of c.args.world.now) (plain_of c.loop-component.world) (plain_of c.take.new.self)
          c.loop-component-test.true c.loop-component.invariant.rest c.loop-component.invariant.passes one;
    }
