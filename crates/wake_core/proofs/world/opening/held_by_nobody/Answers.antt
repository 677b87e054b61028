use Rattle.wake_core.proofs.Beginning.{none_alone}
use Rattle.wake_core.proofs.world.opening.held_by_nobody.Goals as goal

pub returns-clause-unheld : goal.returns-clause-unheld
returns-clause-unheld c = record {
  found = c.in_ok-vec.ensures.items_if_clones_equal (none_alone _ (λ x e. e));
  held = c.in_ok-vec-2.ensures.items_if_clones_equal (λ y e. e);
  hands = c.in_ok-vec-3.ensures.items_if_clones_equal (none_alone _ (λ x e. e));
  owed = c.in_ok-owed_for.ensures.owed;
}
