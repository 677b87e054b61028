use Rattle.std.proofs.Common.{List, ℕ, ◌≡◌, ◌≤◌, length, map, take}
use Rattle.std.specs.List.{list_any}
use Rattle.std.specs.Str.{bytes_eq}
use Rattle.std.specs.HashSet.{contains_by}
use Rattle.cy_wiring.specs.Wiring.{named}
use Rattle.cy_wiring.proofs.channels.count_different.Given as goal

abbrev pub invariant-loop-mention : goal.invariant-loop-mention
invariant-loop-mention l = record {
  kept : (q : List ℕ) → contains_by (λ k. bytes_eq q k.now) l.seen ≡ list_any (λ n. bytes_eq n q) (named (map (λ m. m.now) (take l.mention-index l.mentions)));
  counted : l.count ≡ length (named (map (λ m. m.now) (take l.mention-index l.mentions)));
  few : l.count ≤ l.mention-index;
}
