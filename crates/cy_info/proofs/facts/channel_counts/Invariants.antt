use Rattle.std.proofs.Common.{◌≡◌, ◌<◌, ◌==◌, ℕ, length, take, get_or}
use Rattle.std.specs.Prelude.{filter}
use Rattle.cy_info.proofs.facts.channel_counts.Given as goal

abbrev pub invariant-loop-place : goal.invariant-loop-place
invariant-loop-place l = record {
  all : length l.counts.items ≡ length l.whole.channels;
  each : (channel : ℕ) → channel < length l.whole.channels → get_or l.counts.items channel 0 ≡ length (filter (λ m. m.channel == channel) (take l.place l.whole.messages));
}
