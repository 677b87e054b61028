use Rattle.std.proofs.Common.{rules, arith, ◌≡◌, ◌++◌, ◌∷◌, [], length, length-append, refl, ap}
use Rattle.std.specs.Vec.Iter.{into_iter_items}
use Rattle.cy_table.specs.declared.part.Part.TheVariants as part
use Rattle.cy_table.proofs.Laying.{laid_step, few_rest}
use Rattle.cy_table.proofs.table.ends.slots_of.Goals as goal

pub loop-routine-preserved : goal.loop-routine-preserved
loop-routine-preserved c =
    let i = c.loop-routine.invariant in
    let r = c.in-Some.routine in
    let v = c.in-Some-next.visitor in
    let rs : into_iter_items c.loop-routine.routine-iterator ≡ r ∷ into_iter_items c.next.new.self = search rules in
    let vs : into_iter_items c.loop-routine.visitors ≡ v ∷ into_iter_items c.next-in-loop-routine.new.self = search rules in
    record {
      so_far = laid_step c.loop-routine.slots.items refl c.in_ok-lay.ensures.laid rs vs i.so_far;
      paired = search rules;
      calls = few_rest rs i.calls;
      left = search rules;
      room = omega (arith, i.room, c.lay.ensures.room, ap length c.in_ok-lay.ensures.laid, length-append (c.loop-routine.slots.items ++ part.Routine r ∷ []) (part.Visitor v ∷ []), length-append c.loop-routine.slots.items (part.Routine r ∷ []), ap length rs);
    }
