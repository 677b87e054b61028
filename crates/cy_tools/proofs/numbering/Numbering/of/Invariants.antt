use Rattle.std.proofs.Common.{◌≡◌, ◌≤◌, ◌+◌, length}
use Rattle.cy_tools.specs.Kept.{numbers_of}
use Rattle.cy_tools.specs.private.Keeping.{all_kept, kept_from}
use Rattle.cy_tools.specs.private.Giving.{numbers_from}
use Rattle.cy_tools.proofs.numbering.Numbering.of.Given as goal

-- What was noted, with the messages that are still to come.
abbrev pub invariant-loop-place : goal.invariant-loop-place
invariant-loop-place l = record {
  numbers : numbers_from l.kept l.numbering.order.numbers l.place ≡ numbers_of (all_kept l.kept);
  all : l.numbering.order.all ≡ length l.kept.loaded.channels;
  count : l.numbering.count + length (kept_from l.kept l.place) ≡ length (all_kept l.kept);
  few : l.numbering.count ≤ l.place;
}
