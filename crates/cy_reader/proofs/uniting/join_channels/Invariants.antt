use Rattle.std.proofs.Common.{◌≡◌, ◌<◌, ◌≤◌, ℕ, length, drop, Some, All}
use Rattle.std.specs.Prelude.{slice_index}
use Rattle.cy_reader.specs.United.{channels_joined}
use Rattle.cy_reader.specs.Record.{number_of}
use Rattle.cy_reader.specs.private.Alone.{name_in}
use Rattle.cy_reader.specs.private.Loading.{AreSmall, IsTied}
use Rattle.cy_reader.proofs.uniting.join_channels.Given as goal

-- What joining those that are left comes to.
abbrev pub invariant-loop-known : goal.invariant-loop-known
invariant-loop-known l = record {
  so_far : channels_joined (drop l.known-index l.later) l.channels.list.items ≡ channels_joined l.later l.fn.channels.list.items;
  small : AreSmall l.channels.list.items;
  tied : IsTied l.channels;
  grown : length l.fn.channels.list.items ≤ length l.channels.list.items;
  many : length l.numbers.items ≡ l.known-index;
  each : (n : ℕ) → n < length l.numbers.items → number_of (name_in l.later n) l.channels.list.items ≡ Some (slice_index l.numbers.items n);
  below : All (λ n. n < length l.channels.list.items) l.numbers.items;
}
