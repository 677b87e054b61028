use Rattle.std.proofs.Common.{◌≡◌, ◌≤◌, ◌+◌, length, None}
use Rattle.std.specs.Prelude.{All, map}
use Rattle.std.specs.Vec.Iter.{into_iter_items}
use Rattle.cy_reader.specs.Record.{add_sections, nothing}
use Rattle.cy_cut.specs.Sections.{longest_file}
use Rattle.cy_cut.specs.Cutting.{bytes_of, seen_part}
use Rattle.cy_reader.specs.private.Loading.{HasRoom, IsSound, met_of}
use Rattle.cy_reader.proofs.gathering.add_parts.Given as goal

-- What the sections that are left come to, behind those that were met.
abbrev pub invariant-loop-left : goal.invariant-loop-left
invariant-loop-left g l = record {
  so_far : add_sections (map seen_part (into_iter_items l.left)) None (met_of l.bodies.items l.loading) ≡ add_sections (map seen_part l.fn.parts.items) None nothing;
  sound : IsSound (length l.bodies.items) l.loading;
  room : HasRoom (length l.bodies.items) l.loading (bytes_of (into_iter_items l.left));
  within : All (λ p. p.body_at + length p.body ≤ longest_file) (into_iter_items l.left);
}

abbrev pub decreases-loop-left : goal.decreases-loop-left
decreases-loop-left g l = length (into_iter_items l.left)
