-- What the types stand for in which the code keeps what words give.
use Rattle.std.specs.Prelude.{ℕ, List, map, slice_get, Option, Some, None, option_map}
use Rattle.std.specs.Prelude.{option_and_then}
use Rattle.std.specs.Borrow.{Bor}
use Rattle.std.specs.List.{position}
use Rattle.std.specs.Str.{bytes_eq}
use Rattle.clap.specs.Words.{found_of, rows_of}
use Rattle.cy_args.specs.declared.options.Kind as code_kind
use Rattle.cy_args.specs.declared.options.Kind.TheVariants as kind
use Rattle.cy_args.specs.declared.options.Options as code
use Rattle.cy_args.specs.declared.options.Reading as reading
use Rattle.cy_args.specs.declared.options.Values as values
use Rattle.cy_args.specs.declared.options.Values.TheVariants.{Met, Kept}
use Rattle.cy_args.specs.private.Kept.{options_in}
use Rattle.cy_args.specs.Options.{Flag, Kind, Known, Options, Place, Value}
use Rattle.cy_args.specs.private.Program.{Head}
use Rattle.cy_args.specs.private.Scan.{Reading}

abbrev pub kind_as : code_kind.Kind → Kind
kind_as kind.Place = Place
kind_as kind.Value = Value
kind_as kind.Flag = Flag

abbrev pub Row : Type 0
Row = Bor (List ℕ) × code_kind.Kind

abbrev pub known_as : Row → Known
known_as k = record { name = k.0.now; kind = kind_as k.1 }

abbrev pub table_of : List Row → List Known
table_of known = map known_as known

-- What a command knows of its words, by its name.
abbrev pub head_as : Bor (List ℕ) × Bor (List Row) → Head
head_as f = record { name = f.0.now; known = table_of f.1.now }

abbrev pub place_in : List Known → List ℕ → Option ℕ
place_in known name = position (λ k. bytes_eq k.name name) known

abbrev pub value_at : List (Option (Bor (List ℕ))) → Option ℕ → Option (List ℕ)
value_at values None = None
value_at values (Some at) = option_and_then (option_map (λ v. v.now)) (slice_get values at)

unfoldable pub options_of : List Known → code.Options → Options
options_of known o = λ name. value_at o.values (place_in known name)

abbrev pub reading_of : List Known → reading.Reading → Reading
reading_of known r = record {
  options = options_of known r.options;
  pending = option_map (λ name. name.now) r.pending;
  left = table_of r.left.now;
}

abbrev pub values_of : List Known → values.Values → Options
values_of known (Met o) = options_of known o.now
values_of known (Kept matches) = options_in known (rows_of (found_of matches.now))
