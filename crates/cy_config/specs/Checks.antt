-- Which fields of a text are not as its format describes them. A format is given by its table: the
-- field that a message may hold under a name, where it may hold one.
use Rattle.std.specs.Prelude.{ℕ, ◌≡◌, List, [], ◌∷◌, ◌++◌, length, codes, decimal, Option, Some}
use Rattle.std.specs.Prelude.{None, option_and_then, option_map, unwrap_or, if◌then◌else◌}
use Rattle.std.specs.Option.{option_or}
use Rattle.cy_text.specs.Fields.{Fields, Held, Nothing, And, Message}
use Rattle.cy_config.specs.declared.field.Kind.{Kind}
use Rattle.cy_config.specs.declared.field.Kind.TheVariants as kind
use Rattle.cy_config.specs.declared.field.Field.{Field}
use Rattle.cy_config.specs.declared.error.ConfigError.{ConfigError}
use Rattle.cy_config.specs.declared.error.ConfigError.TheVariants.{Shape, Memory}
use Rattle.cy_config.specs.Kinds.{is_of_kind}
use Rattle.cy_config.specs.Lookups.{all_under}

abbrev pub Table : Type 0 → Type 0
Table M = M → List ℕ → Option (Field M)

-- A number among several, from 0, in brackets.
abbrev pub index_text : Option ℕ → List ℕ
index_text None = []
index_text (Some n) = codes "[" ++ decimal n ++ codes "]"

-- The number of a field that may stand more than once: how many of its name stand before it.
abbrev pub index_of : {M : Type 0} → Field M → Fields → List ℕ → Option ℕ
index_of f before name = if f.repeated then Some (length (all_under name before)) else None

-- The path of a field, behind that of the message in which it stands.
abbrev pub path_of : {M : Type 0} → Field M → List ℕ → Fields → List ℕ → List ℕ
path_of f path before name = path ++ name ++ index_text (index_of f before name)

-- The path of the first field whose value isn't of its kind, in the order of the text. Fields that
-- the table doesn't have are passed over.
abbrev mutual
  pub first_misfit : {M : Type 0} → Table M → M → List ℕ → Fields → Option (List ℕ)
  first_misfit table m path Nothing = None
  first_misfit table m path (And before name span held) =
      option_or (first_misfit table m path before)
      (option_and_then (λ f. misfit_of table f.kind (path_of f path before name) held)
      (table m name))

  -- The first within a value at a path: a message is looked into, and any other value has to be of
  -- its kind.
  pub misfit_of : {M : Type 0} → Table M → Kind M → List ℕ → Held → Option (List ℕ)
  misfit_of table (kind.Message m) path (Message fields) =
      first_misfit table m (path ++ codes ".") fields
  misfit_of table k path held = if is_of_kind k held then None else Some path

-- The paths of the fields that the table doesn't have, in the order of the text.
abbrev mutual
  pub unknown_paths : {M : Type 0} → Table M → M → List ℕ → Fields → List (List ℕ)
  unknown_paths table m path Nothing = []
  unknown_paths table m path (And before name span held) =
      unknown_paths table m path before
      ++ unwrap_or
      (option_map (λ f. unknown_in table f.kind (path_of f path before name) held) (table m name))
      ((path ++ name) ∷ [])

  -- Those within a value at a path.
  pub unknown_in : {M : Type 0} → Table M → Kind M → List ℕ → Held → List (List ℕ)
  unknown_in table (kind.Message m) path (Message fields) =
      unknown_paths table m (path ++ codes ".") fields
  unknown_in table k path held = []

-- An error names the field that doesn't fit, or is want of memory.
abbrev pub IsMisfit : Option (List ℕ) → ConfigError → Type 0
IsMisfit misfit (Shape path) = misfit ≡ Some path
IsMisfit misfit Memory = Unit {0}
