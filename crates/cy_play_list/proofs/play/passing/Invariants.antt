use Rattle.std.proofs.Common.{◌≡◌, ◌≤◌, ◌<◌, ℕ, length}
use Rattle.cy_play_list.specs.Play.{places_below}
use Rattle.cy_reader.specs.Named.{message_at}
use Rattle.cy_play_list.specs.private.Uses.{played_by, shadowed_by}
use Rattle.cy_play_list.proofs.play.passing.Given as goal

abbrev pub invariant-loop-place : goal.invariant-loop-place
invariant-loop-place l = record {
  places : l.passed.places.items ≡ played_by l.uses l.filter l.whole (places_below l.place);
  shadowed : l.passed.shadowed ≡ shadowed_by l.uses l.filter l.whole (places_below l.place);
  few : l.passed.shadowed ≤ l.place;
  below : (n : ℕ) → n < l.place → (message_at l.whole n).channel < length l.whole.channels;
}
