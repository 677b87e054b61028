-- The laws, from the lemmas on each part.
use Rattle.std.proofs.Common.{◌-◌, ◌≡◌, ◌∙◌, ap, sym, slice_get, arith}
use Rattle.wake_core.proofs.Standing.{item_stands, tape_stands}
use Rattle.wake_core.proofs.Writers.{writes_some}
use Rattle.wake_core.proofs.laws.places.Goals as goal

pub returns : goal.returns
returns k = record {
  taped = tape_stands;
  fused_ones = λ w s. item_stands s.delivered;
  writer = λ routes channel c e.
      let w = writes_some routes 0 channel c e in
      let same : c - 0 ≡ c = omega arith in
      (w.route, ap (slice_get routes) (sym same) ∙ w.at, w.writes);
}
