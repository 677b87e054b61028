-- What is made is accepted as the files of a replay.
use Rattle.std.specs.Prelude.{ℕ, ◌≡◌, ◌≤◌, ◌<◌, ◌++◌, List, length, None}
use Rattle.std.specs.Str.{IsUtf8}
use Rattle.cy_store.specs.Files.{Files}
use Rattle.cy_store.specs.Reads.{Accepts}
use Rattle.cy_msg.specs.Request.{Request, OfFiles}
use Rattle.cy_msg.specs.declared.filter.Filter.{Filter}
use Rattle.cy_make.specs.declared.config.Config.TheVariants.{Dag}
use Rattle.cy_make.specs.Inputs.{record_name, with_inputs}
use Rattle.cy_make.specs.Texts.{longest_prefix, suffix_of}
use Rattle.cy_setup.specs.Setup.{Replayed, replay_in}

-- A replay of the record that is made, through the components that are made, with the default
-- scheduler and no stop.
abbrev pub over_made : List ℕ → Filter → Request
over_made prefix filter = record {
  components = OfFiles (prefix ++ suffix_of Dag) None;
  input = record_name prefix;
  filter = filter;
  stop = None;
}

-- Once files of a prefix are made, with a record of at least one and at most 1,048,576 messages,
-- nothing of them is refused and none is missed, whatever other files are there.
abbrev pub MadeFilesAreAccepted : Type 0
MadeFilesAreAccepted = (n : ℕ) (prefix : List ℕ) (filter : Filter) (files : Files)
    → 0 < n → n ≤ 1048576 → length prefix ≤ longest_prefix → IsUtf8 prefix
    → (all : Replayed) × (replay_in (over_made prefix filter) (with_inputs n prefix files)
    ≡ Accepts all)
