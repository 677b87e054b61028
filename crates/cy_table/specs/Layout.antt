-- Which word and which slot is whose, and what the numbers in the words mean.
use Rattle.std.specs.Prelude.{ℕ, ◌+◌, ◌*◌, Bool, true, false, if◌then◌else◌, Option, Some, None}
use Rattle.cy_msg.specs.declared.stop.Stop.{Stop}
use Rattle.cy_comp.specs.declared.state.State.{State}
use Rattle.cy_comp.specs.declared.state.State.TheVariants.{Ready, DataWait, Sleep, Finished}

-- The clock; whether the run is closing; and the tape's door.
abbrev pub clock_word : ℕ
clock_word = 1

abbrev pub closing_word : ℕ
closing_word = 2

abbrev pub tape_door : ℕ
tape_door = 3

-- Of each component: whether it is held, its state, its flag, and its visitor's door.
abbrev pub hold_word : ℕ → ℕ
hold_word c = 4 * c + 4

abbrev pub state_word : ℕ → ℕ
state_word c = 4 * c + 5

abbrev pub flag_word : ℕ → ℕ
flag_word c = 4 * c + 6

abbrev pub visitor_door : ℕ → ℕ
visitor_door c = 4 * c + 7

-- The last word: whether the stop is raised, and which component it names.
abbrev pub stop_word : (components : ℕ) → ℕ
stop_word n = 4 * n + 4

abbrev pub words_for : (components : ℕ) → ℕ
words_for n = 4 * n + 5

-- The slots: the tape, and of each component its routine and its visitor.
abbrev pub tape_slot : ℕ
tape_slot = 0

abbrev pub routine_slot : ℕ → ℕ
routine_slot c = 2 * c + 1

abbrev pub visitor_slot : ℕ → ℕ
visitor_slot c = 2 * c + 2

abbrev pub slots_for : (components : ℕ) → ℕ
slots_for n = 2 * n + 1

-- The number of a state. The wake time of one that sleeps stands in its routine.
abbrev pub state_number : State → ℕ
state_number Ready = 0
state_number DataWait = 1
state_number (Sleep until) = 2
state_number Finished = 3

-- A word that says yes or no: a flag is spent, the run is closing.
abbrev pub yes_or_no : Bool → ℕ
yes_or_no false = 0
yes_or_no true = 1

-- The number of the component that a stop names, plus 1. What stands for no stop is the number of
-- no component, of which there are at most 64.
abbrev pub named_by : Option Stop → ℕ
named_by None = 65
named_by (Some s) = s.component + 1

-- The stop in its word: 0 until it is raised. (No event raises where no stop is given, and nothing
-- here rests on that.)
abbrev pub stop_number : Option Stop → (raised : Bool) → ℕ
stop_number stop raised = if raised then named_by stop else 0
