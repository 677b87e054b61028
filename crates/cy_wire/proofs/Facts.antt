-- The facts of numbers and their bytes that proofs of other crates cite, in one place.
pub use Rattle.cy_wire.proofs.Varints.{varint_bytes-small, varint_bytes-large, length-varint_bytes, some-varint_bytes, bytes-varint_bytes}
pub use Rattle.cy_wire.proofs.Fronts.{front_number-varint_bytes}
pub use Rattle.cy_wire.proofs.Signs.{unzigzag-zigzag, zigzag_fits}

-- For `using`: all but `varint_bytes-large`, which unrolls a number byte by byte.
pub ruleset wire_facts = (varint_bytes-small, length-varint_bytes, some-varint_bytes, bytes-varint_bytes, front_number-varint_bytes, unzigzag-zigzag, zigzag_fits)
