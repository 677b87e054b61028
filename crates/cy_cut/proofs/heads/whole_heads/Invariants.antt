use Rattle.std.proofs.Common.{◌≡◌, ◌-◌, ◌<◌, ◌≤◌, ◌++◌, ℕ, length}
use Rattle.std.specs.Prelude.{map}
use Rattle.cy_cut.specs.Sections.{sections_in, sections_from, header_end}
use Rattle.cy_cut.specs.Heads.{end_of, section_head, whole_heads}
use Rattle.cy_cut.proofs.heads.whole_heads.Given as goal

abbrev pub invariant-loop-section : goal.invariant-loop-section
invariant-loop-section l = record {
  more : ℕ;
  fuel : length l.file - l.at < more;
  inside : l.at ≤ length l.file;
  heads : l.heads.items ++ map section_head (sections_in more l.file l.at).sections ≡ whole_heads l.file header_end;
  end : end_of l.at (sections_in more l.file l.at).sections ≡ end_of header_end (sections_from l.file header_end).sections;
}

abbrev pub decreases-loop-section : goal.decreases-loop-section
decreases-loop-section l = length l.file - l.at
