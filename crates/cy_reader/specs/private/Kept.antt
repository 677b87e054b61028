-- What the program keeps of a record's file.
use Rattle.std.specs.Prelude.{ℕ, ◌≤◌, List, length, Option, IfSome}
use Rattle.std.specs.Option.{option_map}
use Rattle.cy_section.specs.declared.types.Header.{Header}
use Rattle.cy_cut.specs.declared.heads.KeptIndex.{KeptIndex}
use Rattle.cy_cut.specs.declared.heads.PlacedHead.{PlacedHead}
use Rattle.cy_reader.specs.declared.loading.Loading.{Loading}
use Rattle.cy_reader.specs.Record.{Source, HasLength}
use Rattle.cy_cut.specs.Heads.{IsPlaced, seen_index}
use Rattle.cy_cut.specs.Sections.{longest_file}
use Rattle.cy_reader.specs.private.Loading.{IsSound}

abbrev pub kept_source : List ℕ → ℕ → Header → List PlacedHead → Option KeptIndex → Source
kept_source name size header heads index = record {
  name = name;
  size = size;
  header = header;
  heads = heads;
  index = option_map seen_index index;
}

-- What is kept of such a file is sound, where the file itself is the only body.
pub record IsLoaded (file : List ℕ) (l : Loading) : Type 0 where
  pub sound : IsSound 1 l
  pub sized : HasLength file

-- What is kept is sound, the index has a place, and the file isn't too long.
pub record IsKept (size : ℕ) (bodies : List (List ℕ)) (index : Option KeptIndex) (l : Loading) :
    Type 0 where
  pub sound : IsSound (length bodies) l
  pub placed : IfSome index IsPlaced
  pub short : size ≤ longest_file
