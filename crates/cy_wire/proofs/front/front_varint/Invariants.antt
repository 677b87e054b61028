use Rattle.std.proofs.Common.{◌≡◌, ◌<◌, ◌^◌, ◌-◌, drop}
use Rattle.cy_wire.specs.Front.{number_within, behind}
use Rattle.cy_wire.proofs.front.front_varint.Given as goal

abbrev pub invariant-loop-place : goal.invariant-loop-place
invariant-loop-place l = record {
  reading : behind l.value l.scale l.place (number_within (10 - l.place) (drop l.place l.bytes)) ≡ number_within 10 l.bytes;
  power : l.scale ≡ 128 ^ l.place;
  lower : l.value < l.scale;
}
