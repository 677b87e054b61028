-- What holds of all messages that are ordered by time.
use Rattle.std.specs.Prelude.{List}
use Rattle.std.specs.List.Sorted.{IsPermutation, IsSortedByKey, IsStableByKey}
use Rattle.std.specs.Ordering.{nat_cmp}
use Rattle.cy_msg.specs.declared.token.Token.{Token}
use Rattle.cy_timer.specs.Merged.{by_time}

-- They are the messages that they were, their times never fall, and messages of one time stand in
-- the order in which they stood.
pub record IsInOrder (messages ordered : List Token) : Type 0 where
  pub same : IsPermutation messages ordered
  pub sorted : IsSortedByKey (λ t. t.time) nat_cmp ordered
  pub stable : IsStableByKey (λ t. t.time) nat_cmp messages ordered

abbrev pub AllInOrder : Type 0
AllInOrder = (messages : List Token) → IsInOrder messages (by_time messages)
