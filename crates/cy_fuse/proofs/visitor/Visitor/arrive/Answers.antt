use Rattle.std.proofs.Common.{◌<◌, ◌≤◌, ◌++◌, ◌∷◌, [], ◌∙◌, arith, ap}
use Rattle.cy_msg.specs.declared.token.Tuple.{Tuple}
use Rattle.cy_fuse.specs.Cache.{Cache}
use Rattle.cy_fuse.specs.Visitor.{VisitorView}
use Rattle.cy_fuse.proofs.Fusing.{fused-few}
use Rattle.cy_fuse.proofs.Arrivals.{comes_elsewhere, comes_first}
use Rattle.cy_fuse.proofs.visitor.Visitor.arrive.Goals as goal

pub join-requires : goal.join-requires
join-requires c =
    let v = c.self.invariant in
    omega (arith, ap (λ (b : Cache Tuple). b.tail) v.kept, fused-few c.self.inside.came.list c.self.inside.tuples.roles, v.few)

pub invariant_of-self : goal.invariant_of-self
invariant_of-self c =
    let within : c.args.role < c.self.inside.tuples.roles = omega (arith, c.requires.role, ap (λ (v : VisitorView). v.roles) c.self.view_is) in
    let room : 1 ≤ c.self.inside.spare = omega (arith, c.requires.room, ap (λ (v : VisitorView). v.spare) c.self.view_is) in
    comes_first {tuples = c.self.inside.tuples} c.args.role c.if-role-eq0.true
    (record {
      coming = record { visitor = c.self.invariant; known = within; some = room };
      items_are = c.push_reserved.ensures.items;
      room_is = c.push_reserved.ensures.capacity;
      list_is = c.then-self-inside.ensures ∙ ap (λ a. c.self.inside.came.list ++ a ∷ []) c.new.ensures;
    })
    c.join.new.self c.join.ensures

pub invariant_of-self-else-role-eq0 : goal.invariant_of-self-else-role-eq0
invariant_of-self-else-role-eq0 c =
    let within : c.args.role < c.self.inside.tuples.roles = omega (arith, c.requires.role, ap (λ (v : VisitorView). v.roles) c.self.view_is) in
    let room : 1 ≤ c.self.inside.spare = omega (arith, c.requires.room, ap (λ (v : VisitorView). v.spare) c.self.view_is) in
    comes_elsewhere {tuples = c.self.inside.tuples} c.args.role c.if-role-eq0.false
    (record {
      coming = record { visitor = c.self.invariant; known = within; some = room };
      items_are = c.push_reserved.ensures.items;
      room_is = c.push_reserved.ensures.capacity;
      list_is = c.then-self-inside.ensures ∙ ap (λ a. c.self.inside.came.list ++ a ∷ []) c.new.ensures;
    })
