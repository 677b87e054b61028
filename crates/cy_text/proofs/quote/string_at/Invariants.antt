use Rattle.std.proofs.Common.{◌≡◌, ◌<◌, ◌≤◌, ◌+◌, ◌-◌, length, drop}
use Rattle.cy_text.specs.Strings.{string_from, string_at}
use Rattle.cy_text.proofs.quote.string_at.Given as goal

abbrev pub invariant-loop-place : goal.invariant-loop-place
invariant-loop-place l = record {
  reading : string_from l.start l.quote l.out.items (l.start + l.place) 0 (drop l.place l.bytes) ≡ string_at l.start l.bytes;
  within : l.place ≤ length l.bytes;
  behind : 0 < l.place;
}

abbrev pub decreases-loop-place : goal.decreases-loop-place
decreases-loop-place l = length l.bytes - l.place
