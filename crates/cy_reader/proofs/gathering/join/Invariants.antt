use Rattle.std.proofs.Common.{◌≡◌, ◌≤◌, ◌+◌, length, None}
use Rattle.std.specs.Prelude.{All, map}
use Rattle.std.specs.Vec.Iter.{into_iter_items, into_iter_len}
use Rattle.cy_reader.specs.Record.{add_sections}
use Rattle.cy_cut.specs.Sections.{longest_file}
use Rattle.cy_reader.specs.private.Alone.{AreDecoded}
use Rattle.cy_cut.specs.Cutting.{bytes_of, seen_part}
use Rattle.cy_reader.specs.private.Loading.{IsSound, met_of}
use Rattle.cy_reader.proofs.gathering.join.Given as goal

-- What the sections that are left come to, behind those that were met.
abbrev pub invariant-loop-part : goal.invariant-loop-part
invariant-loop-part l = record {
  so_far : add_sections (map seen_part (into_iter_items l.part-iterator)) None (met_of l.bodies.items l.loading) ≡ add_sections (map seen_part l.fn.parts.items) None (met_of l.fn.bodies.items l.fn.loading);
  sound : IsSound (length l.bodies.items) l.loading;
  bodies : length l.bodies.items + bytes_of (into_iter_items l.part-iterator) ≤ length l.fn.bodies.items + bytes_of l.fn.parts.items;
  messages : length l.loading.messages.items + bytes_of (into_iter_items l.part-iterator) ≤ length l.fn.loading.messages.items + bytes_of l.fn.parts.items;
  within : All (λ p. p.body_at + length p.body ≤ longest_file) (into_iter_items l.part-iterator);
  decoded : AreDecoded (into_iter_items l.part-iterator) (into_iter_items l.each);
  known : into_iter_len l.each ≡ length (into_iter_items l.each);
}
