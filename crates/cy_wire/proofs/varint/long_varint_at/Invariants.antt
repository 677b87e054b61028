use Rattle.std.proofs.Common.{◌≡◌, ◌<◌, ◌^◌, ◌-◌, drop}
use Rattle.cy_wire.specs.Varint.{varint_in, above}
use Rattle.cy_wire.proofs.varint.long_varint_at.Given as goal

abbrev pub invariant-loop-place : goal.invariant-loop-place
invariant-loop-place l = record {
  reading : above l.value l.scale l.place (varint_in (10 - l.place) l.at (drop l.place l.bytes)) ≡ varint_in 10 l.at l.bytes;
  power : l.scale ≡ 128 ^ l.place;
  lower : l.value < l.scale;
}
