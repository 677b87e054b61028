use Rattle.std.proofs.Common.{◌≡◌, ◌+◌, ◌*◌, ◌≤◌, vec_capacity}
use Rattle.std.specs.Mem.Slots.{slots_items, slots_len, slots_filled}
use Rattle.cy_table.proofs.Unpacking.{IsFrom, TakenOut}
use Rattle.cy_table.proofs.table.FlagTable.unpack.Given as goal

-- The slots of the components so far are empty, and what was in them is in the lists.
abbrev pub invariant-loop-c : goal.invariant-loop-c
invariant-loop-c l = record {
  same : slots_items l.closed.slots ≡ slots_items l.initial.closed.slots;
  long : slots_len l.closed.slots ≡ slots_len l.initial.closed.slots;
  words : l.closed.words ≡ l.initial.closed.words;
  full : IsFrom (2 * l.c + 1) (slots_filled l.closed.slots) (slots_len l.initial.closed.slots);
  taken : TakenOut (slots_items l.initial.closed.words) (slots_items l.initial.closed.slots) l.c l.taken.routines.items l.taken.visitors.items l.taken.spent.items;
  routines_room : l.count ≤ vec_capacity l.taken.routines;
  visitors_room : l.count ≤ vec_capacity l.taken.visitors;
  spent_room : l.count ≤ vec_capacity l.taken.spent;
}
