use Rattle.std.proofs.Common.{◌≡◌, ◌++◌, map, string_bytes}
use Rattle.std.specs.Vec.Iter.{into_iter_items}
use Rattle.cy_args.proofs.machine.words_behind.Given as goal

abbrev pub invariant-loop-word : goal.invariant-loop-word
invariant-loop-word l = map string_bytes (into_iter_items l.initial.word-iterator) ≡ l.words.items ++ map string_bytes (into_iter_items l.word-iterator)
