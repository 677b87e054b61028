-- The stop of a replay.
use Rattle.std.specs.Prelude.{ℕ, ⊤, nat_le, List, length, filter, Option, Some, None}
use Rattle.std.specs.List.{position}
use Rattle.std.specs.Option.{option_map}
use Rattle.std.specs.Str.{bytes_eq}
use Rattle.cy_store.specs.Reads.{Reads, Accepts, Refuses}
use Rattle.cy_msg.specs.declared.stop.Stop.{Stop}
use Rattle.cy_msg.specs.declared.token.Token.{Token}
use Rattle.cy_comp.specs.declared.plan.Plan.{Plan}
use Rattle.cy_msg.specs.Request.{StopAt}
use Rattle.cy_setup.specs.declared.error.Fault.TheVariants as fault
use Rattle.cy_setup.specs.declared.error.Refusal.{Refusal}
use Rattle.cy_setup.specs.Wiring.{Wired}

-- The number of the component that has a name.
abbrev pub number_of : List Plan → List ℕ → Option ℕ
number_of plans name = position (λ p. bytes_eq p.name name) plans

-- A stop names a component of the wiring, or a file is refused.
abbrev pub found_or : (file name : List ℕ) → Option ℕ → Reads Refusal ⊤
found_or file name None = Refuses record { file = file; fault = fault.StopUnknown name }
found_or file name (Some component) = Accepts tt

abbrev pub stop_in : (file : List ℕ) → Option StopAt → Wired → Reads Refusal ⊤
stop_in file None w = Accepts tt
stop_in file (Some s) w = found_or file s.component (number_of w.plans s.component)

-- How many messages have a time of at most this one.
abbrev pub count_up_to : ℕ → List Token → ℕ
count_up_to time tokens = length (filter (λ t. nat_le t.time time) tokens)

-- The stop of a play list, where one is asked for: that of the component of its name, raised once
-- the messages up to its time were played. (Where no component has its name there is none, and the
-- file is refused.)
abbrev pub stop_of : Option StopAt → Wired → List Token → Option Stop
stop_of None w tokens = None
stop_of (Some s) w tokens =
    option_map (λ c. record { component = c; after = count_up_to s.time tokens })
    (number_of w.plans s.component)
