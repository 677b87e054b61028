-- Where the sections of a file end.
use Rattle.std.specs.Prelude.{◌≡◌, ℕ, ◌≤◌, List, length}
use Rattle.cy_cut.specs.Sections.{sections_from, header_end}
use Rattle.cy_cut.specs.Heads.{end_of}

-- The sections of a file end at a place in it.
pub record EndsThere (file : List ℕ) (at : ℕ) : Type 0 where
  pub end : at ≡ end_of header_end (sections_from file header_end).sections
  pub inside : at ≤ length file
