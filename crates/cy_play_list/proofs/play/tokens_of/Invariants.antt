use Rattle.std.proofs.Common.{◌≡◌, ◌<◌, ◌==◌, ℕ, [], length, take, get_or}
use Rattle.std.specs.Prelude.{filter}
use Rattle.cy_play_list.specs.Play.{tokens_behind}
use Rattle.cy_play_list.specs.private.Uses.{number_by, value_from}
use Rattle.cy_play_list.proofs.play.tokens_of.Given as goal

abbrev pub invariant-loop-place : goal.invariant-loop-place
invariant-loop-place l = record {
  names : length l.counts.items ≡ l.names;
  counts : (channel : ℕ) → channel < l.names → get_or l.counts.items channel 0 ≡ length (filter (λ place. number_by l.uses l.whole place == channel) (take l.place-index l.places));
  tokens : l.tokens.items ≡ tokens_behind (number_by l.uses l.whole) (value_from l.uses l.values l.whole) l.whole [] (take l.place-index l.places);
}
