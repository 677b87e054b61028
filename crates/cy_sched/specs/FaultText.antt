-- How a refusal is told, and whether it is a limit that was passed: limits aside, its text is its
-- name and what is refused, in quotes.
use Rattle.std.specs.Prelude.{ℕ, List, [], Bool, true, false, codes}
use Rattle.cy_msg.specs.FaultText.{limit_text, named_text}
use Rattle.cy_sched.specs.declared.error.SchedError.{SchedError}
use Rattle.cy_sched.specs.declared.error.SchedError.TheVariants as sched

abbrev pub sched_text : SchedError → List ℕ
sched_text (sched.Shape path) = named_text (codes "Shape") [] path
sched_text (sched.UnknownPolicy policy) = named_text (codes "UnknownPolicy") [] policy
sched_text sched.NoGroup = codes "NoGroup"
sched_text (sched.GroupTwice name) = named_text (codes "GroupTwice") [] name
sched_text (sched.TooManyProcessors count) = limit_text (codes "TooManyProcessors") count
sched_text sched.Memory = codes "out of memory"

abbrev pub is_sched_limit : SchedError → Bool
is_sched_limit (sched.TooManyProcessors count) = true
is_sched_limit other = false
