-- What is kept of several records that are joined.
use Rattle.std.specs.Prelude.{ℕ, ◌≤◌}
use Rattle.cy_msg.specs.Once.{IsOnce}
use Rattle.cy_cut.specs.Sections.{longest_file}
use Rattle.cy_reader.specs.Record.{Met}
use Rattle.cy_reader.specs.Said.{names_of}

-- No two channels have one name, and the files are not too long.
pub record IsUnited (size : ℕ) (met : Met) : Type 0 where
  pub once : IsOnce (names_of met.channels)
  pub short : size ≤ longest_file
