use Rattle.std.proofs.Common.{◌≡◌, ◌<◌, ◌≤◌, ℕ, length, drop, Some, All}
use Rattle.std.specs.Prelude.{slice_index}
use Rattle.cy_reader.specs.Record.{number_of}
use Rattle.cy_reader.specs.private.Alone.{all_mentioned, name_in}
use Rattle.cy_reader.specs.private.Loading.{AreSmall, IsTied}
use Rattle.cy_reader.proofs.joining.mention_all.Given as goal

-- What mentioning those that are left comes to.
abbrev pub invariant-loop-known : goal.invariant-loop-known
invariant-loop-known l = record {
  so_far : all_mentioned (drop l.known-index l.others) l.channels.list.items ≡ all_mentioned l.others l.fn.channels.list.items;
  small : AreSmall l.channels.list.items;
  tied : IsTied l.channels;
  grown : length l.fn.channels.list.items ≤ length l.channels.list.items;
  many : length l.numbers.items ≡ l.known-index;
  each : (n : ℕ) → n < length l.numbers.items → number_of (name_in l.others n) l.channels.list.items ≡ Some (slice_index l.numbers.items n);
  below : All (λ n. n < length l.channels.list.items) l.numbers.items;
}
