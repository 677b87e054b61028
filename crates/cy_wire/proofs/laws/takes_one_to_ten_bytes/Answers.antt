use Rattle.cy_wire.proofs.Varints.{some-varint_bytes, length-varint_bytes, varint_bytes-small, bytes-varint_bytes}
use Rattle.cy_wire.proofs.laws.takes_one_to_ten_bytes.Goals as goal

pub returns : goal.returns
returns c = record {
  some = some-varint_bytes;
  most = length-varint_bytes;
  small = varint_bytes-small;
  bytes = bytes-varint_bytes;
}
