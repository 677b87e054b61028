-- The printed form of fields.
use Rattle.std.specs.Prelude.{ℕ, Bool, List, [], ◌++◌, codes, decimal, if◌then◌else◌}
use Rattle.std.specs.Str.{is_utf8}
use Rattle.cy_msg.specs.Quoted.{quoted}
use Rattle.cy_text.specs.Fields.{Fields, Held, Nothing, And, Whole, Literal, Word, Quote, Message}

abbrev pub sign_text : Bool → List ℕ
sign_text negative = if negative then codes "-" else []

abbrev mutual
  -- Each field on a line of its own, behind a margin.
  pub fields_text : List ℕ → Fields → List ℕ
  fields_text margin Nothing = []
  fields_text margin (And before name span held) = fields_text margin before
      ++ (margin ++ name ++ held_text margin held ++ codes "\n")

  -- What stands behind the name: a value behind a colon, or a message in braces, whose fields stand
  -- two spaces further in.
  pub held_text : List ℕ → Held → List ℕ
  held_text margin (Whole negative size) = codes ": " ++ sign_text negative ++ decimal size
  held_text margin (Literal text) = codes ": " ++ text
  held_text margin (Word negative text) = codes ": " ++ sign_text negative ++ text
  held_text margin (Quote bytes) = codes ": " ++ quoted (is_utf8 bytes) bytes
  held_text margin (Message fields) = codes " {\n" ++ fields_text (margin ++ codes "  ") fields
      ++ margin ++ codes "}"

-- A text of these fields.
abbrev pub printed : Fields → List ℕ
printed fields = fields_text [] fields
