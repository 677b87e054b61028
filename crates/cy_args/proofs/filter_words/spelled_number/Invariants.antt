use Rattle.std.proofs.Common.{◌≡◌, drop}
use Rattle.cy_args.specs.FilterWords.{digits_from}
use Rattle.cy_args.proofs.filter_words.spelled_number.Given as goal

abbrev pub invariant-loop-byte : goal.invariant-loop-byte
invariant-loop-byte l = digits_from 0 l.text ≡ digits_from l.value (drop l.byte-index l.text)
