use Rattle.std.proofs.Common.{◌+◌, ◌<◌, length, refl, sym, ◌∙◌, ap, Bool, [], ◌∷◌, ◌++◌, drop, if◌then◌else◌, length-set, arith}
use Rattle.wake_core.specs.Run.{set_at}
use Rattle.wake_core.specs.WorldOf.{plain_of, to_step}
use Rattle.wake_core.specs.Plain.{Ready}
use Rattle.wake_core.specs.Events.{is_waiting}
use Rattle.wake_core.proofs.Reading.{read_is}
use Rattle.wake_core.proofs.Owing.{look_thread, look_first, look_known, may_look_at, owed_each, owing_set, looked_owing, looked_world, looks}
use Rattle.wake_core.proofs.Sounding.{look_sound}
use Rattle.wake_core.proofs.world.World.look.Goals as goal

pub index-requires : goal.index-requires
unfolding plain_of
index-requires c = omega (arith, look_known (plain_of c.args.self.now) c.args.thread c.args.component c.requires.first c.args.self.now.sound, c.args.self.now.sized.routines_fit)

pub index_mut-requires : goal.index_mut-requires
unfolding plain_of
index_mut-requires c = omega (arith, look_thread c.args.self.now.owed.items c.args.thread c.args.component c.requires.first)

pub look-requires : goal.look-requires
unfolding plain_of
look-requires c =
    let owed = c.args.self.now.owed.items in
    may_look_at owed c.args.thread c.args.component c.index_mut.result.now (look_thread owed c.args.thread c.args.component c.requires.first) c.index_mut.ensures.value c.requires.first c.args.self.now.owing

pub invariant_of-self : goal.invariant_of-self
unfolding plain_of
invariant_of-self c =
    let w = plain_of c.args.self.now in
    let p = c.args.thread in
    let k = c.args.component in
    let routes = c.args.self.now.fixed.routes.items in
    let owed = c.args.self.now.owed.items in
    let o = c.index_mut.result.now in
    let at = c.index_mut.ensures.value in
    let thread = look_thread owed p k c.requires.first in
    let within : k < length c.args.self.now.routines.items = omega (arith, look_known w p k c.requires.first c.args.self.now.sound, c.args.self.now.sized.routines_fit) in
    let some = (may_look_at owed p k o thread at c.requires.first c.args.self.now.owing).some in
    let waits_is = c.waits-waits.ensures ∙ ap is_waiting (c.state.ensures ∙ sym (read_is (λ r. r.state) Ready c.args.self.now.routines.items k c.index.result.now within c.index.ensures)) in
    record {
      sized = rw (length-set owed p c.look.new.self) c.args.self.now.sized;
      flagged = c.args.self.now.flagged;
      stepping = c.args.self.now.stepping;
      waiting = c.args.self.now.waiting;
      visited = c.args.self.now.visited;
      roomy = c.args.self.now.roomy;
      owing = owing_set p c.look.new.self thread (looked_owing some c.look.ensures (owed_each p o thread at c.args.self.now.owing)) c.args.self.now.owing;
      counted = c.args.self.now.counted;
      sound = look_sound p k w _ (looks (drop (o.looked + 1) o.news.items) c.requires (look_first owed p k o thread at c.requires.first)
          (looked_world w routes owed p k _ o c.look.new.self thread at c.look.ensures
          ∙ ap (λ (b : Bool). record w { news = set_at p (drop (o.looked + 1) o.news.items) w.news; clearing = set_at p (if b then w.clearing p ++ k ∷ [] else w.clearing p) w.clearing }) waits_is)) c.args.self.now.sound;
    }

pub returns-clause-event : goal.returns-clause-event
unfolding plain_of
returns-clause-event c =
    let w = plain_of c.args.self.now in
    let p = c.args.thread in
    let k = c.args.component in
    let owed = c.args.self.now.owed.items in
    let o = c.index_mut.result.now in
    let at = c.index_mut.ensures.value in
    let thread = look_thread owed p k c.requires.first in
    let within : k < length c.args.self.now.routines.items = omega (arith, look_known w p k c.requires.first c.args.self.now.sound, c.args.self.now.sized.routines_fit) in
    let waits_is = c.waits-waits.ensures ∙ ap is_waiting (c.state.ensures ∙ sym (read_is (λ r. r.state) Ready c.args.self.now.routines.items k c.index.result.now within c.index.ensures)) in
    looks (drop (o.looked + 1) o.news.items) c.requires (look_first owed p k o thread at c.requires.first)
    (looked_world w c.args.self.now.fixed.routes.items owed p k _ o c.look.new.self thread at c.look.ensures
    ∙ ap (λ (b : Bool). record w { news = set_at p (drop (o.looked + 1) o.news.items) w.news; clearing = set_at p (if b then w.clearing p ++ k ∷ [] else w.clearing p) w.clearing }) waits_is)

pub returns-clause-answer : goal.returns-clause-answer
unfolding plain_of
returns-clause-answer c =
    let within : c.args.component < length c.args.self.now.routines.items = omega (arith, look_known (plain_of c.args.self.now) c.args.thread c.args.component c.requires.first c.args.self.now.sound, c.args.self.now.sized.routines_fit) in
    c.waits-waits.ensures ∙ ap is_waiting (c.state.ensures ∙ sym (read_is (λ r. r.state) Ready c.args.self.now.routines.items c.args.component c.index.result.now within c.index.ensures))

pub returns-clause-steps : goal.returns-clause-steps
unfolding to_step
returns-clause-steps c = refl
