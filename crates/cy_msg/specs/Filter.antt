-- Which messages a filter lets through.
use Rattle.std.specs.Prelude.{ℕ, nat_le, Bool, true, not, ◌&&◌, List, Option, Some, None}
use Rattle.std.specs.List.{list_any}
use Rattle.std.specs.Str.{bytes_eq}
use Rattle.cy_msg.specs.declared.filter.Filter.{Filter}

-- A name is one of these.
abbrev pub is_among : List (List ℕ) → List ℕ → Bool
is_among names name = list_any (λ one. bytes_eq one name) names

-- A filter lets a channel through that it doesn't drop, where it names channels only one of these.
abbrev pub is_wanted : Option (List (List ℕ)) → List ℕ → Bool
is_wanted None name = true
is_wanted (Some only) name = is_among only name

abbrev pub lets_channel : Filter → List ℕ → Bool
lets_channel f name = is_wanted f.only name && not (is_among f.drop name)

-- And a time from its begin to its end, both included.
abbrev pub lets_time : Filter → ℕ → Bool
lets_time f time = nat_le f.begin time && nat_le time f.end
