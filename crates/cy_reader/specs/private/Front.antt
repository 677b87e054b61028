-- What is read of the front of a record's file, before its sections.
use Rattle.std.specs.Prelude.{◌≡◌, ◌≤◌, ℕ, List, length, map, ◌++◌, Option, None, Result}
use Rattle.std.specs.Prelude.{Ok, Err, IfOk, IfErr, IsErrOf}
use Rattle.std.specs.Option.{option_map}
use Rattle.cy_store.specs.Files.{Holds}
use Rattle.cy_store.specs.Store.{StoreView, HasCauses}
use Rattle.cy_section.specs.declared.error.SectionError.{SectionError}
use Rattle.cy_reader.specs.declared.error.LoadError.{LoadError}
use Rattle.cy_reader.specs.declared.error.LoadError.TheVariants.{Store}
use Rattle.cy_cut.specs.declared.cutting.CutFile.{CutFile}
use Rattle.cy_reader.specs.declared.front.Front.{Front}
use Rattle.cy_cut.specs.declared.heads.KeptIndex.{KeptIndex}
use Rattle.cy_cut.specs.Heads.{PlacedIndex, header_head, index_head, seen_index}
use Rattle.cy_reader.specs.Load.{IsRefusal}
use Rattle.cy_reader.specs.Record.{◌>>=◌, Contents, Source, file_header, add_sections, nothing}
use Rattle.cy_reader.specs.Record.{shown}
use Rattle.cy_cut.specs.Sections.{header_end, longest_file}
use Rattle.cy_cut.specs.Cutting.{seen_part, fault_in}

-- This is the front of a file.
pub record IsFront (file : List ℕ) (f : Front) : Type 0 where
  pub size : f.size ≡ length file
  pub header : file_header file ≡ Ok f.header
  pub head : f.head ≡ header_head file

pub record FrontAnswer (old new : StoreView) (name : List ℕ) (result : Result Front LoadError) :
    Type 0 where
  pub front : IfOk result (λ f. Holds old.files name (λ file. IsFront file f))
  pub sized : IfOk result (λ f. (header_end ≤ f.size) × (f.size ≤ longest_file))
  pub refused : IfErr result (IsRefusal old name)
  pub same : new.files ≡ old.files
  pub causes : HasCauses (IsErrOf result Store) old new name

-- The record of a file's front and sections.
abbrev pub index_in : Result (Option KeptIndex) SectionError → Option PlacedIndex
index_in (Ok index) = option_map seen_index index
index_in (Err fault) = None

abbrev pub cut_source : List ℕ → Front → CutFile → Source
cut_source name f c = record {
  name = name;
  size = f.size;
  header = f.header;
  heads = c.heads.items ++ index_head (index_in c.end);
  index = index_in c.end;
}

unfoldable pub cut_record : List ℕ → Front → CutFile → Result Contents LoadError
cut_record name f c = do
  met ← add_sections (map seen_part c.parts.items) (fault_in c.end) nothing
  Ok (shown (cut_source name f c) met)
