-- The bytes of a line.
use Rattle.std.specs.Prelude.{ℕ, List, ◌++◌, codes}
use Rattle.cy_commands.specs.declared.line.Line.{Line}
use Rattle.cy_commands.specs.declared.line.Line.TheVariants.{Fixed, Named, Made}

abbrev pub bytes_of_line : Line → List ℕ
bytes_of_line (Fixed text) = text.now
bytes_of_line (Named name what) = codes "cyber: " ++ name.now ++ what.now
bytes_of_line (Made bytes) = bytes
