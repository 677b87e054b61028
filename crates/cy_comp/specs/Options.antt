-- What component files say beside the class, the channel and the overflow.
use Rattle.std.specs.Prelude.{ℕ, List, []}
use Rattle.cy_comp.specs.declared.options.Options.{Options}

-- The options of a file that has none but the type of the messages.
abbrev pub options_with : (out_type : List ℕ) → Options
options_with out_type = record {
  out_type = out_type;
  description = [];
  answers = [];
  values = [];
}
