-- What several records come to that are joined to one.
use Rattle.std.specs.Prelude.{ℕ, ⊤, List, [], ◌∷◌, Option, Some, None}
use Rattle.cy_store.specs.Files.{Files}
use Rattle.cy_store.specs.Reads.{Reads, Accepts, Refuses, ◌>>=◌}
use Rattle.cy_salvage.specs.Joined.{Gathered, first_differing, no_records, record_joined}
use Rattle.cy_reader.specs.Record.{Contents}
use Rattle.cy_setup.specs.Faults.{in_file}
use Rattle.cy_setup.specs.RecordFile.{record_in}
use Rattle.cy_setup.specs.declared.error.Fault.{Fault}
use Rattle.cy_setup.specs.declared.error.Fault.TheVariants as fault
use Rattle.cy_setup.specs.declared.error.Refusal.{Refusal}

-- A later record is refused where a part differs of a channel of this name.
abbrev pub same_part : List ℕ → (List ℕ → Fault) → Option (List ℕ) → Reads Refusal ⊤
same_part file differ None = Accepts tt
same_part file differ (Some name) = Refuses record { file = file; fault = differ name }

-- The types of all its channels are compared first, and then their descriptions.
abbrev pub same_types : List ℕ → Gathered → Contents → Reads Refusal ⊤
same_types file g later = same_part file fault.TypesDiffer
    (first_differing (λ c. c.message_type) g.met.channels later.channels)

abbrev pub same_descriptions : List ℕ → Gathered → Contents → Reads Refusal ⊤
same_descriptions file g later = same_part file fault.DescriptionsDiffer
    (first_differing (λ c. c.proto_desc) g.met.channels later.channels)

abbrev pub same_parts : List ℕ → Gathered → Contents → Reads Refusal ⊤
same_parts file g later = same_types file g later >>= λ _. same_descriptions file g later

-- A later record is joined to those before it.
abbrev pub joined_in : List ℕ → Gathered → Contents → Reads Refusal Gathered
joined_in file g later =
    same_parts file g later >>= λ _. in_file file fault.Record (record_joined g later)

-- The records of some names are joined one after another: a record is read once those before it are
-- joined.
abbrev pub merged_from : List (List ℕ) → Gathered → Files → Reads Refusal Gathered
merged_from [] g files = Accepts g
merged_from (name ∷ names) g files = do
  later ← record_in name files
  all ← joined_in name g later
  merged_from names all files

abbrev pub merged_in : List (List ℕ) → Files → Reads Refusal Gathered
merged_in names files = merged_from names no_records files
