-- How files are stored that only contracts see.
use Rattle.std.specs.FinMap.{code}
use Rattle.std.specs.Coded.{Coded, coded_ℕ, coded_list}
use Rattle.cy_store.specs.Files.{Files}

-- A map from names to bytes.
abbrev pub files_code : Coded Files
files_code = code (coded_list coded_ℕ) (coded_list coded_ℕ)
