-- The timers of components.
use Rattle.std.specs.Prelude.{ℕ, ◌≡◌, ◌≤◌, List, length, map, slice_get, slice_index, Some}
use Rattle.std.specs.Prelude.{option_map, option_to_list}
use Rattle.std.specs.List.{Contains, flat_map}
use Rattle.cy_msg.specs.Once.{IsOnce}
use Rattle.cy_msg.specs.declared.token.Token.{Token}
use Rattle.cy_comp.specs.declared.plan.Plan.{Plan}
use Rattle.cy_timer.specs.declared.timer.Timer.{Timer}

-- The timer of a component that has an interval: its ticks stand on the channel that the component
-- reads.
abbrev pub timer_of : Plan → List Timer
timer_of plan = option_to_list (option_map
    (λ interval. record { channel = slice_index plan.readers 0; interval = interval })
    plan.interval)

-- The timers of components, in their order.
abbrev pub timers_of : List Plan → List Timer
timers_of plans = flat_map timer_of plans

-- Timers as components have them: few, with intervals, and each with a channel of its own.
pub record AreTimers (timers : List Timer) : Type 0 where
  pub few : length timers ≤ 64
  pub intervals : (i : ℕ) (t : Timer) → slice_get timers i ≡ Some t → 1 ≤ t.interval
  pub apart : IsOnce (map (λ t. t.channel) timers)

-- None of these messages stands on a channel of a timer.
abbrev pub AreApart : List Token → List Timer → Type 0
AreApart messages timers = (n : ℕ) (m : Token) → slice_get messages n ≡ Some m
    → ¬ (Contains (map (λ t. t.channel) timers) m.channel)
