use Rattle.std.proofs.Common.{◌≡◌, ◌<◌, ℕ, length, get_or}
use Rattle.cy_play_list.specs.Play.{name_of}
use Rattle.cy_play_list.specs.private.Uses.{no_use, use_of}
use Rattle.cy_play_list.proofs.play.uses_of.Given as goal

abbrev pub invariant-loop-channel : goal.invariant-loop-channel
invariant-loop-channel l = record {
  all : length l.uses.items ≡ l.channel;
  each : (n : ℕ) → n < l.channel → get_or l.uses.items n no_use ≡ use_of (record { names = l.names; filter = l.filter; written = l.written; values = l.values }) (name_of l.whole n);
}
