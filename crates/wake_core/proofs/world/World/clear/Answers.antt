use Rattle.std.proofs.Common.{◌<◌, [], length, refl, sym, ◌∙◌, ap, false, length-set, arith}
use Rattle.wake_core.specs.WorldOf.{plain_of, to_step}
use Rattle.wake_core.specs.Plain.{lists}
use Rattle.wake_core.proofs.Reading.{read_is}
use Rattle.wake_core.proofs.Owing.{clear_thread, clear_known, owed_each, owing_set, taken_owing, cleared_world, clears}
use Rattle.wake_core.proofs.Sounding.{clear_sound}
use Rattle.wake_core.proofs.world.World.clear.Goals as goal

pub index_mut-requires : goal.index_mut-requires
unfolding plain_of
index_mut-requires c = omega (arith, clear_thread c.args.self.now.owed.items c.args.thread c.args.component c.requires)

pub take_out-requires : goal.take_out-requires
unfolding plain_of
take_out-requires c =
    let owed = c.args.self.now.owed.items in
    ap (lists c.args.component) (sym (read_is (λ o. o.clearing.items) [] owed c.args.thread c.index_mut.result.now (clear_thread owed c.args.thread c.args.component c.requires) c.index_mut.ensures.value)) ∙ c.requires

pub index_mut-requires-2 : goal.index_mut-requires-2
unfolding plain_of
index_mut-requires-2 c = omega (arith, clear_known (plain_of c.args.self.now) c.args.thread c.args.component c.requires c.args.self.now.sound, c.args.self.now.sized.spent_fit)

pub invariant_of-self : goal.invariant_of-self
unfolding plain_of
invariant_of-self c =
    let w = plain_of c.args.self.now in
    let p = c.args.thread in
    let k = c.args.component in
    let owed = c.args.self.now.owed.items in
    let o = c.index_mut.result.now in
    let at = c.index_mut.ensures.value in
    let out = c.take_out.ensures in
    let thread = clear_thread owed p k c.requires in
    let within : k < length c.args.self.now.spent.items = omega (arith, clear_known w p k c.requires c.args.self.now.sound, c.args.self.now.sized.spent_fit) in
    record {
      sized = rw (length-set owed p c.take_out.new.self, length-set c.args.self.now.spent.items k false) c.args.self.now.sized;
      flagged = c.args.self.now.flagged;
      stepping = c.args.self.now.stepping;
      waiting = c.args.self.now.waiting;
      visited = c.args.self.now.visited;
      roomy = c.args.self.now.roomy;
      owing = owing_set p c.take_out.new.self thread (taken_owing out (owed_each p o thread at c.args.self.now.owing)) c.args.self.now.owing;
      counted = c.args.self.now.counted;
      sound = clear_sound p k w _ (clears out.before out.after (read_is (λ o. o.clearing.items) [] owed p o thread at ∙ out.there)
          (cleared_world w c.args.self.now.fixed.routes.items owed c.args.self.now.spent.items p k o c.take_out.new.self thread within at out)) c.args.self.now.sound;
    }

pub returns-clause-event : goal.returns-clause-event
unfolding plain_of
returns-clause-event c =
    let w = plain_of c.args.self.now in
    let p = c.args.thread in
    let k = c.args.component in
    let owed = c.args.self.now.owed.items in
    let o = c.index_mut.result.now in
    let at = c.index_mut.ensures.value in
    let out = c.take_out.ensures in
    let thread = clear_thread owed p k c.requires in
    let within : k < length c.args.self.now.spent.items = omega (arith, clear_known w p k c.requires c.args.self.now.sound, c.args.self.now.sized.spent_fit) in
    clears out.before out.after (read_is (λ o. o.clearing.items) [] owed p o thread at ∙ out.there)
    (cleared_world w c.args.self.now.fixed.routes.items owed c.args.self.now.spent.items p k o c.take_out.new.self thread within at out)

pub returns-clause-steps : goal.returns-clause-steps
unfolding to_step
returns-clause-steps c = refl
