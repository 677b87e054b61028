-- What a class asks of its component's wiring and parameters.
use Rattle.std.specs.Prelude.{ℕ, ◌&&◌, Bool, true, false, nat_le}
use Rattle.std.specs.List.{list_all}
use Rattle.cy_msg.specs.Tokens.{most_played}
use Rattle.cy_comp.specs.declared.answers.Answer.{Answer}
use Rattle.cy_comp.specs.declared.kind.Kind.{Kind}
use Rattle.cy_comp.specs.declared.kind.Kind.TheVariants as kind
use Rattle.cy_comp.specs.declared.kind.TheConstants.{MOST_WINDOW}

-- How many messages of a tuple a class reads. A sum reads as many as there are.
abbrev pub messages_needed : Kind → ℕ
messages_needed kind.Select = 3
messages_needed _ = 1

-- Whether the parameters are in their ranges. Messages with the content of an answer come from no
-- played one, so their origins are behind those.
abbrev pub is_kind_in_range : Kind → Bool
is_kind_in_range (kind.Window n) = nat_le 1 n && nat_le n MOST_WINDOW
is_kind_in_range (kind.Take n) = nat_le 1 n && nat_le n 4294967295
is_kind_in_range (kind.External answers) =
    list_all (λ (a : Answer). nat_le most_played a.origin) answers
is_kind_in_range _ = true

-- Whether components of the class hold their outputs back.
abbrev pub holds_outputs : Kind → Bool
holds_outputs (kind.Hold delay) = true
holds_outputs _ = false
