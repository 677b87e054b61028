-- Who writes which channel, which component triggers which, and where following triggers comes
-- back.
use Rattle.std.specs.Prelude.{ℕ, zero, suc, ◌==◌, Bool, false, if◌then◌else◌, List, [], ◌∷◌, ◌++◌}
use Rattle.std.specs.Prelude.{length, map, take, slice_get, Option, Some, None, unwrap_or}
use Rattle.std.specs.Prelude.{option_map, option_and_then, is_some, ◌&&◌}
use Rattle.std.specs.List.{list_any, position}
use Rattle.std.specs.Str.{bytes_eq}
use Rattle.cy_dag.specs.DagFile.{first_found}
use Rattle.cy_dag.specs.declared.config.Config.{Config}
use Rattle.cy_dag.specs.declared.dag.DagComponent.{DagComponent}
use Rattle.cy_dag.specs.declared.error.DagError.{DagError}
use Rattle.cy_dag.specs.declared.error.DagError.TheVariants.{TwoWriters, TimerWritten, TriggerCycle}

-- The first of some components that writes a channel.
abbrev pub writer_named : List Config → List ℕ → Option ℕ
writer_named configs channel = position (λ config. bytes_eq config.out channel) configs

-- The first component before this one that writes the same channel.
abbrev pub earlier_writer : List Config → ℕ → Option ℕ
earlier_writer configs c =
    option_and_then (λ config. writer_named (take c configs) config.out) (slice_get configs c)

-- Two components write one channel: the least that does so behind another one, and the first that
-- writes that channel.
abbrev pub writers_at : List Config → ℕ → Option DagError
writers_at configs c = option_map (λ first. TwoWriters first c) (earlier_writer configs c)

unfoldable pub writers_refusal : List Config → Option DagError
writers_refusal configs = first_found (writers_at configs) (length configs)

-- Whether ticks of a component stand on a channel, and the first of some components whose ticks do.
abbrev pub ticks_on : List ℕ → DagComponent → Bool
ticks_on channel c = is_some c.interval && list_any (λ r. bytes_eq r.channel channel) c.readers

abbrev pub timer_named : List DagComponent → List ℕ → Option ℕ
timer_named components channel = position (ticks_on channel) components

-- The timer component whose ticks stand on the channel that a component writes.
abbrev pub timer_written : List DagComponent → List Config → ℕ → Option ℕ
timer_written components configs c =
    option_and_then (λ config. timer_named components config.out) (slice_get configs c)

-- A component writes the channel of ticks: the least that does so, and the timer component.
abbrev pub ticks_at : List DagComponent → List Config → ℕ → Option DagError
ticks_at components configs c =
    option_map (λ timer. TimerWritten c timer) (timer_written components configs c)

unfoldable pub ticks_refusal : List DagComponent → List Config → Option DagError
ticks_refusal components configs = first_found (ticks_at components configs) (length configs)

-- The trigger of a component: the one that writes its first reader's channel.
abbrev pub trigger_of : List Config → DagComponent → Option ℕ
trigger_of configs c = option_and_then (λ r. writer_named configs r.channel) (slice_get c.readers 0)

abbrev pub triggers_of : List DagComponent → List Config → List (Option ℕ)
triggers_of components configs = map (trigger_of configs) components

-- Where following triggers leads from a component, in so many steps.
abbrev pub trigger_in : List (Option ℕ) → ℕ → Option ℕ
trigger_in triggers c = option_and_then (λ t. t) (slice_get triggers c)

abbrev pub after : List (Option ℕ) → ℕ → ℕ → Option ℕ
after triggers zero c = Some c
after triggers (suc n) c = option_and_then (trigger_in triggers) (after triggers n c)

-- Whether something leads to a component.
abbrev pub is_at : Option ℕ → ℕ → Bool
is_at None c = false
is_at (Some d) c = d == c

-- In how many steps, beside the last one, following triggers from a component first comes back to
-- it. It is on a cycle where it does; more steps than there are components can't be needed.
abbrev pub back_at : List (Option ℕ) → ℕ → ℕ → Option ℕ
back_at triggers c n = if is_at (after triggers (suc n) c) c then Some n else None

unfoldable pub way_back : List (Option ℕ) → ℕ → Option ℕ
way_back triggers c = first_found (back_at triggers c) (length triggers)

-- The components that are met from one on, so many.
abbrev pub met : List (Option ℕ) → ℕ → ℕ → List ℕ
met triggers c zero = []
met triggers c (suc n) = met triggers c n ++ unwrap_or (after triggers n c) c ∷ []

-- There is a cycle of triggers: the least component on one, and those met until it comes again.
abbrev pub cycle_at : List (Option ℕ) → ℕ → Option DagError
cycle_at triggers c = option_map (λ n. TriggerCycle (met triggers c (suc n))) (way_back triggers c)

unfoldable pub cycle_refusal : List (Option ℕ) → Option DagError
cycle_refusal triggers = first_found (cycle_at triggers) (length triggers)
