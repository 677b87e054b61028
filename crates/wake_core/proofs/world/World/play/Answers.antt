use Rattle.std.proofs.Common.{refl, ap, length, length-set, arith}
use Rattle.wake_core.specs.WorldOf.{plain_of, to_step}
use Rattle.wake_core.proofs.Sounding.{tape_sound}
use Rattle.wake_core.proofs.SentWorld.{play_room, play_few, play_known, play_event, play_owing, play_counted, play_waiting}
use Rattle.wake_core.proofs.world.World.play.Goals as goal

pub overflow_add-self : goal.overflow_add-self
overflow_add-self c = omega (arith, play_few c.args.self.now c.args.token c.requires)

pub put-requires : goal.put-requires
put-requires c = omega (arith, play_room c.args.self.now c.args.token c.requires)

pub readers-fills-requires : goal.readers-fills-requires
readers-fills-requires c = play_known c.args.self.now c.args.token c.requires

pub returns-clause-event : goal.returns-clause-event
unfolding plain_of
returns-clause-event c = play_event c.args.self.now c.args.token c.requires _ c.index_mut.result.now c.put.new.owed _ c.index_mut.ensures.value c.put.ensures.owed (ap length c.readers-fills.ensures) c.put.ensures.tape

pub returns-clause-steps : goal.returns-clause-steps
unfolding to_step
returns-clause-steps c = refl

pub invariant_of-self : goal.invariant_of-self
unfolding plain_of
invariant_of-self c =
    let all = ap length c.readers-fills.ensures in
    record {
      sized = rw (length-set c.args.self.now.owed.items 0 c.put.new.owed) c.args.self.now.sized;
      flagged = c.args.self.now.flagged;
      stepping = c.args.self.now.stepping;
      waiting = play_waiting c.args.self.now c.args.token c.requires _ c.index_mut.result.now c.put.new.owed _ c.index_mut.ensures.value c.put.ensures.owed all c.put.ensures.tape;
      visited = c.args.self.now.visited;
      roomy = rw c.put.ensures.room c.args.self.now.roomy;
      owing = play_owing c.args.self.now c.args.token c.requires _ c.index_mut.result.now c.put.new.owed _ c.index_mut.ensures.value c.put.ensures.owed all c.put.ensures.tape;
      counted = play_counted c.args.self.now c.args.token c.requires _ c.index_mut.result.now c.put.new.owed _ c.index_mut.ensures.value c.put.ensures.owed all c.put.ensures.tape;
      sound = tape_sound c.args.token (plain_of c.args.self.now) _ (play_event c.args.self.now c.args.token c.requires _ c.index_mut.result.now c.put.new.owed _ c.index_mut.ensures.value c.put.ensures.owed all c.put.ensures.tape) c.args.self.now.sound;
    }
