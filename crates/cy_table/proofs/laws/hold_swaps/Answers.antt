-- The swap of a hold word, by the law of Acquire.
use Rattle.std.proofs.Common.{◌+◌, ◌*◌}
use Rattle.cy_table.proofs.Places.{word_is, is_word}
use Rattle.cy_table.proofs.Holding.{acquire_becomes, held_still}
use Rattle.cy_table.proofs.laws.hold_swaps.Goals as goal

pub returns : goal.returns
returns k = record {
  free = λ r w s id c v out sits idle less free. acquire_becomes r w s id v sits c idle less (word_is s (4 * c + 4) 0 free) out (k.acquire.ensures.sound id c);
  held = λ r w s id c v out sits less taken. held_still r w s id v sits c less (λ z. taken (is_word s (4 * c + 4) 0 z)) out;
}
