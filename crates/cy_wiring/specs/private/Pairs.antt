-- What the code keeps of a value: the number of its component, and the value.
use Rattle.std.specs.Prelude.{ℕ, List, Option, Some, None, option_map, if◌then◌else◌}
use Rattle.std.specs.HashMap.{HashMap, get_by}
use Rattle.std.specs.Str.{bytes_eq}
use Rattle.std.specs.Borrow.{Bor}
use Rattle.cy_value.specs.declared.values.ChannelValue.{ChannelValue}
use Rattle.cy_wiring.specs.declared.given.Given.{Given}

abbrev pub pair_of : Given → ℕ × ChannelValue
pair_of g = (g.component, g.value.now)

-- The first value of a channel, where a map keeps one.
abbrev pub first_kept : {S : Type 0} → HashMap (Bor (List ℕ)) Given S → (channel : List ℕ)
    → Option (ℕ × ChannelValue)
first_kept firsts channel = option_map pair_of (get_by (λ k. bytes_eq channel k.now) firsts)

-- A value, where it is of a channel.
abbrev pub own_value : ℕ × ChannelValue → (channel : List ℕ) → Option (ℕ × ChannelValue)
own_value value channel = if bytes_eq value.1.channel channel then Some value else None
