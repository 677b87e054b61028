-- The laws, from the lemmas on the tape.
use Rattle.wake_core.proofs.Taping.{played_taped, send_taped, send_written}
use Rattle.wake_core.proofs.Timing.{played-own, played-other}
use Rattle.wake_core.proofs.Listed.{to_play_total}
use Rattle.wake_core.proofs.laws.put.Goals as goal

pub returns : goal.returns
returns k = record {
  played = played-own;
  no_output = played_taped;
  written = λ w. send_written w;
  not_played = played-other;
  others = λ w c t unsent wired. (send_taped w c t unsent wired).other;
  all = to_play_total;
}
