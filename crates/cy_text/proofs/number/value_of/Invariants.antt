use Rattle.std.proofs.Common.{◌≡◌, ◌<◌, ◌^◌, drop}
use Rattle.cy_text.specs.Numbers.{value_from}
use Rattle.cy_text.proofs.number.value_of.Given as goal

abbrev pub invariant-loop-digit : goal.invariant-loop-digit
invariant-loop-digit l = record {
  reading : value_from l.base l.value (drop l.digit-index l.digits) ≡ value_from l.base 0 l.digits;
  fits : l.value < 2 ^ 64;
}
