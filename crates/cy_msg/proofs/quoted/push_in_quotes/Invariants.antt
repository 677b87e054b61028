use Rattle.std.proofs.Common.{◌≡◌, ◌∷◌, ◌++◌, take}
use Rattle.std.specs.List.{flat_map}
use Rattle.cy_msg.specs.Quoted.{escaped}
use Rattle.cy_msg.proofs.quoted.push_in_quotes.Given as goal

abbrev pub invariant-loop-byte : goal.invariant-loop-byte
invariant-loop-byte l = l.to.items ≡ l.fn.to.items ++ 34 ∷ flat_map (escaped l.is_text) (take l.byte-index l.bytes)
