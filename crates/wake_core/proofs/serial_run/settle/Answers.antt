use Rattle.cy_msg.specs.Placement.{scan_of}
use Rattle.wake_core.specs.WorldOf.{plain_of}
use Rattle.wake_core.proofs.Turning.{settles_begin, settles_step, settles_end, settles_known}
use Rattle.wake_core.proofs.serial_run.settle.Goals as goal

pub loop-init : goal.loop-init
loop-init c = settles_begin (scan_of c.args.contexts.now) (plain_of c.args.world.now) c.requires.rest

pub turn-requires-clause-known : goal.turn-requires-clause-known
turn-requires-clause-known c = settles_known (scan_of c.args.contexts.now) (plain_of c.args.world.now) (plain_of c.loop.world) c.loop.invariant c.requires.scan

pub loop-smaller : goal.loop-smaller
loop-smaller c = (c.turn.ensures.turns c.loop-test.true).fewer

pub loop-preserved : goal.loop-preserved
loop-preserved c = settles_step (scan_of c.args.contexts.now) (plain_of c.args.world.now) (plain_of c.loop.world) (plain_of c.turn.new.world) (c.turn.ensures.turns c.loop-test.true) c.loop.invariant

pub returns : goal.returns
unfolding plain_of
returns c = settles_end (scan_of c.args.contexts.now) (plain_of c.args.world.now) (plain_of c.loop.world) (plain_of c.turn.new.world) c.turn.new.world.sound (c.turn.ensures.ends c.loop-test.false) c.loop.invariant
