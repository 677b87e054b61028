use Rattle.cy_msg.specs.Placement.{scan_of}
use Rattle.wake_core.specs.WorldOf.{plain_of}
use Rattle.wake_core.proofs.Led.{led_by}
use Rattle.wake_core.proofs.Played.{finished_quiet, settled_at}
use Rattle.wake_core.proofs.serial_run.finish.Goals as goal

pub returns : goal.returns
unfolding plain_of
returns c =
    let settled = settled_at c.as_slice.result.now c.args.placement.now.contexts (plain_of c.args.world.now) (plain_of c.settle.new.world) c.as_slice.ensures c.settle.ensures in
    record {
      settles = λ stop heeds. (settled.settles stop heeds).0;
      quiet = finished_quiet c.outcomes_are_answers.ensures (scan_of c.args.placement.now.contexts) (plain_of c.args.world.now) (plain_of c.settle.new.world) c.requires.played c.requires.raised c.requires.clock c.requires.scan settled c.settle.new.world.sound;
      stays = settled.stays;
      led = led_by c.fetches_find.ensures.find (plain_of c.args.world.now) (plain_of c.settle.new.world) settled.events c.args.world.now.sound;
    }
