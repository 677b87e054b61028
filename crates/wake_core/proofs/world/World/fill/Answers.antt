use Rattle.std.proofs.Common.{◌<◌, length, length-set, refl, sym, ◌∙◌, ap, [], arith}
use Rattle.cy_msg.proofs.Lists.{there}
use Rattle.cy_fuse.specs.Visitor.{VisitorView, arrived}
use Rattle.wake_core.specs.declared.owed.Owed.{Owed}
use Rattle.wake_core.specs.WorldOf.{plain_of, to_step}
use Rattle.wake_core.specs.Fields.{no_visitor}
use Rattle.wake_core.specs.private.Shown.{fills_of}
use Rattle.wake_core.proofs.Reading.{read-set, read_is}
use Rattle.wake_core.proofs.Sounding.{fill_sound}
use Rattle.wake_core.proofs.Owing.{owing_set, owed_each}
use Rattle.wake_core.proofs.Filling.{fill_thread, fill_known, fills_first, may_fill_first, fills_later, filled_owing, filled_world, fills, filled_visited, filled_roomy, fill_role, fill_room}
use Rattle.wake_core.proofs.world.World.fill.Goals as goal

pub index_mut-requires : goal.index_mut-requires
unfolding plain_of
index_mut-requires c = omega (arith, fill_thread c.args.self.now.fixed.routes.items c.args.self.now.owed.items c.args.thread (c.args.component, c.args.role) c.requires.first)

pub fill_first-requires : goal.fill_first-requires
unfolding plain_of
fill_first-requires c =
    let p = c.args.thread in
    let o : Owed = c.index_mut.result.now in
    let thread = fill_thread c.args.self.now.fixed.routes.items c.args.self.now.owed.items p (c.args.component, c.args.role) c.requires.first in
    may_fill_first o (c.args.component, c.args.role) (fills_first c.args.self.now.fixed.routes.items c.args.self.now.owed.items p o (c.args.component, c.args.role) thread c.index_mut.ensures.value c.requires.first)
    (owed_each p o thread c.index_mut.ensures.value c.args.self.now.owing)

pub index_mut-requires-2 : goal.index_mut-requires-2
unfolding plain_of
index_mut-requires-2 c = omega (arith, fill_known (plain_of c.args.self.now) c.args.thread c.args.component c.args.role c.requires.first c.args.self.now.sound, c.args.self.now.sized.visitors_fit)

pub returns-clause-steps : goal.returns-clause-steps
unfolding to_step
returns-clause-steps c = refl

pub arrive-requires-clause-role : goal.arrive-requires-clause-role
unfolding plain_of
arrive-requires-clause-role c =
    let p = c.args.thread in
    let v = c.args.component in
    let j = c.args.role in
    let w = plain_of c.args.self.now in
    let old : VisitorView = c.index_mut-2.result.now in
    let within : v < length c.args.self.now.visitors.items = omega (arith, fill_known w p v j c.requires.first c.args.self.now.sound, c.args.self.now.sized.visitors_fit) in
    let view = read_is (λ v. v) no_visitor c.args.self.now.visitors.items v old within c.index_mut-2.ensures.value in
    let x = there c.args.self.now.fixed.routes.items v (fill_known w p v j c.requires.first c.args.self.now.sound) in
    rw (sym (ap (λ (v : VisitorView). v.roles) view)) (fill_role w p v j c.requires.first c.args.self.now.sound c.args.self.now.visited x.0 x.1)

pub arrive-requires-clause-room : goal.arrive-requires-clause-room
unfolding plain_of
arrive-requires-clause-room c =
    let p = c.args.thread in
    let v = c.args.component in
    let j = c.args.role in
    let w = plain_of c.args.self.now in
    let old : VisitorView = c.index_mut-2.result.now in
    let within : v < length c.args.self.now.visitors.items = omega (arith, fill_known w p v j c.requires.first c.args.self.now.sound, c.args.self.now.sized.visitors_fit) in
    let view = read_is (λ v. v) no_visitor c.args.self.now.visitors.items v old within c.index_mut-2.ensures.value in
    let x = there c.args.self.now.fixed.routes.items v (fill_known w p v j c.requires.first c.args.self.now.sound) in
    rw (sym (ap (λ (v : VisitorView). v.spare) view)) (fill_room w p v j c.requires.first c.args.self.now.sound c.args.self.now.roomy
    (read_is (λ v. v.arrivals) [] c.args.self.now.visitors.items v old within c.index_mut-2.ensures.value ∙ ap (λ (v : VisitorView). v.arrivals) (sym view)) x.0 x.1)

pub returns-clause-event : goal.returns-clause-event
unfolding plain_of
returns-clause-event c =
    let p = c.args.thread in
    let v = c.args.component in
    let j = c.args.role in
    let w = plain_of c.args.self.now in
    let old : VisitorView = c.index_mut-2.result.now in
    let within : v < length c.args.self.now.visitors.items = omega (arith, fill_known w p v j c.requires.first c.args.self.now.sound, c.args.self.now.sized.visitors_fit) in
    let view = read_is (λ v. v) no_visitor c.args.self.now.visitors.items v old within c.index_mut-2.ensures.value in
    let routes = c.args.self.now.fixed.routes.items in
    let o : Owed = c.index_mut.result.now in
    let n : Owed = c.fill_first.new.owed in
    let new : VisitorView = c.arrive.new.self in
    let thread = fill_thread routes c.args.self.now.owed.items p (v, j) c.requires.first in
    let own = owed_each p o thread c.index_mut.ensures.value c.args.self.now.owing in
    let later = fills_later o n (fills_first routes c.args.self.now.owed.items p o (v, j) thread c.index_mut.ensures.value c.requires.first) c.fill_first.ensures own in
    let event = fills (fills_of routes n) (read_is (fills_of routes) [] c.args.self.now.owed.items p o thread c.index_mut.ensures.value ∙ later)
    (filled_world w routes c.args.self.now.visitors.items c.args.self.now.owed.items p v j c.args.token o n old new thread within c.index_mut.ensures.value c.index_mut-2.ensures.value c.arrive.ensures c.requires.token c.fill_first.ensures own.looked) in
    event

pub invariant_of-self : goal.invariant_of-self
unfolding plain_of
invariant_of-self c =
    let p = c.args.thread in
    let v = c.args.component in
    let j = c.args.role in
    let w = plain_of c.args.self.now in
    let old : VisitorView = c.index_mut-2.result.now in
    let within : v < length c.args.self.now.visitors.items = omega (arith, fill_known w p v j c.requires.first c.args.self.now.sound, c.args.self.now.sized.visitors_fit) in
    let view = read_is (λ v. v) no_visitor c.args.self.now.visitors.items v old within c.index_mut-2.ensures.value in
    let routes = c.args.self.now.fixed.routes.items in
    let o : Owed = c.index_mut.result.now in
    let n : Owed = c.fill_first.new.owed in
    let new : VisitorView = c.arrive.new.self in
    let thread = fill_thread routes c.args.self.now.owed.items p (v, j) c.requires.first in
    let own = owed_each p o thread c.index_mut.ensures.value c.args.self.now.owing in
    let later = fills_later o n (fills_first routes c.args.self.now.owed.items p o (v, j) thread c.index_mut.ensures.value c.requires.first) c.fill_first.ensures own in
    let event = fills (fills_of routes n) (read_is (fills_of routes) [] c.args.self.now.owed.items p o thread c.index_mut.ensures.value ∙ later)
    (filled_world w routes c.args.self.now.visitors.items c.args.self.now.owed.items p v j c.args.token o n old new thread within c.index_mut.ensures.value c.index_mut-2.ensures.value c.arrive.ensures c.requires.token c.fill_first.ensures own.looked) in
    let x = there c.args.self.now.fixed.routes.items v (fill_known w p v j c.requires.first c.args.self.now.sound) in
    let room = fill_room w p v j c.requires.first c.args.self.now.sound c.args.self.now.roomy
    (read_is (λ v. v.arrivals) [] c.args.self.now.visitors.items v old within c.index_mut-2.ensures.value ∙ ap (λ (v : VisitorView). v.arrivals) (sym view)) x.0 x.1 in
    let is = c.arrive.ensures ∙ ap (λ (a : VisitorView). arrived a j c.args.token) (sym view) in
    let visitors = read-set (λ v. v) no_visitor c.args.self.now.visitors.items v new within in
    record {
      sized = rw (length-set c.args.self.now.visitors.items v new, length-set c.args.self.now.owed.items p n) c.args.self.now.sized;
      flagged = c.args.self.now.flagged;
      stepping = c.args.self.now.stepping;
      waiting = c.args.self.now.waiting;
      visited = rw (visitors, is) (filled_visited v j c.args.token c.args.self.now.visited);
      roomy = rw (visitors, is) (filled_roomy v j c.args.token room c.args.self.now.roomy);
      owing = owing_set p n thread (filled_owing c.fill_first.ensures own) c.args.self.now.owing;
      counted = c.args.self.now.counted;
      sound = fill_sound p v j w _ event c.args.self.now.sound;
    }
