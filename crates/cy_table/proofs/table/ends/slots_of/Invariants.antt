use Rattle.std.proofs.Common.{◌≡◌, ◌≤◌, ◌+◌, ◌*◌, ◌++◌, ◌∷◌, length, vec_capacity}
use Rattle.std.specs.Vec.Iter.{into_iter_items, into_iter_len}
use Rattle.cy_table.specs.declared.part.Part.TheVariants as part
use Rattle.cy_table.specs.Ends.{laid, HaveFewCalls}
use Rattle.cy_table.proofs.table.ends.slots_of.Given as goal

-- The slots so far, and those of the components that are left, which are in pairs and have room.
abbrev pub invariant-loop-routine : goal.invariant-loop-routine
invariant-loop-routine l = record {
  so_far : l.slots.items ++ laid (into_iter_items l.routine-iterator) (into_iter_items l.visitors) ≡ part.Tape l.fn.tape ∷ laid l.fn.routines.items l.fn.visitors.items;
  paired : length (into_iter_items l.visitors) ≡ length (into_iter_items l.routine-iterator);
  calls : HaveFewCalls (into_iter_items l.routine-iterator);
  left : into_iter_len l.routine-iterator ≡ length (into_iter_items l.routine-iterator);
  room : length l.slots.items + 2 * length (into_iter_items l.routine-iterator) ≤ vec_capacity l.slots;
}
