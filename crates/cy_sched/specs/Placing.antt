-- Where a scheduler places the components of a run.
use Rattle.std.specs.Prelude.{ℕ, zero, suc, ℤ, pos, negsuc, ◌≡◌, ◌+◌, ◌==◌, nat_lt, nat_le, min}
use Rattle.std.specs.Prelude.{◌&&◌, ◌||◌, not, Bool, true, false, if◌then◌else◌}
use Rattle.std.specs.Prelude.{List, [], ◌∷◌, ◌++◌, map}
use Rattle.std.specs.Prelude.{length, codes, slice_get, Option, Some, None, unwrap_or, option_map}
use Rattle.std.specs.Prelude.{option_and_then}
use Rattle.std.specs.Fmt.{decimal}
use Rattle.std.specs.List.{filter}
use Rattle.std.specs.List.Sorted.{IsPermutation}
use Rattle.std.specs.Option.{option_or}
use Rattle.std.specs.Str.{bytes_eq}
use Rattle.cy_msg.specs.declared.placement.ContextPlan.{ContextPlan}
use Rattle.cy_sched.specs.declared.home.Home.{Home}
use Rattle.cy_sched.specs.declared.sched.Group.{Group}
use Rattle.cy_sched.specs.declared.sched.PinTask.{PinTask}
use Rattle.cy_sched.specs.declared.sched.Sched.{Sched}
use Rattle.cy_sched.specs.declared.sched.Sched.TheVariants.{Classic, Choreography}
use Rattle.cy_sched.specs.declared.sched.Task.{Task}

-- The numbers below one.
abbrev pub numbers_below : ℕ → List ℕ
numbers_below zero = []
numbers_below (suc n) = numbers_below n ++ n ∷ []

-- What is given for the greatest number below a bound for which something is given.
abbrev pub last_found : {A : Type 0} → (ℕ → Option A) → ℕ → Option A
last_found given zero = None
last_found given (suc n) = option_or (given n) (last_found given n)

-- Whether a task of a name names a component. A task without a name names none.
abbrev pub is_named : List ℕ → List ℕ → Bool
is_named task name = not (length task == 0) && bytes_eq task name

-- A home is the number of a context and a priority there. In a group priorities go from 0 to 19,
-- and what is above is 19.
abbrev pub in_group : ℕ → ℕ → Home
in_group context priority = record { context = context; priority = min priority 19 }

-- The priority that the last task of a group that names a component gives it.
abbrev pub task_priority : List Task → List ℕ → ℕ → Option ℕ
task_priority tasks name k =
    option_and_then (λ t. if is_named t.name name then Some t.prio else None) (slice_get tasks k)

unfoldable pub last_priority : List Task → List ℕ → Option ℕ
last_priority tasks name = last_found (task_priority tasks name) (length tasks)

-- The home that the last group with such a task gives it. A component that no task names has
-- priority 0 in the first group.
abbrev pub group_home : List Group → List ℕ → ℕ → Option Home
group_home groups name k =
    option_and_then (λ g. option_map (in_group k) (last_priority g.tasks name)) (slice_get groups k)

unfoldable pub classic_home : List Group → List ℕ → Home
classic_home groups name =
    unwrap_or (last_found (group_home groups name) (length groups)) (in_group 0 0)

-- The home that a task of a choreography with so many processors gives: the processor that it
-- names, where there is such a one, and else the pool, which stands behind all of them.
abbrev pub home_at : ℕ → ℕ → ℤ → Home
home_at processors priority (pos n) =
    if nat_lt n processors then record { context = n; priority = priority }
    else in_group processors priority
home_at processors priority (negsuc n) = in_group processors priority

abbrev pub pin_home : ℕ → List PinTask → List ℕ → ℕ → Option Home
pin_home processors tasks name k =
    option_and_then
    (λ t. if is_named t.name name then Some (home_at processors t.prio t.processor) else None)
    (slice_get tasks k)

-- The home that the last task that names a component gives it. A component that no task names has
-- priority 0 in the pool.
unfoldable pub choreography_home : ℕ → List PinTask → List ℕ → Home
choreography_home processors tasks name =
    unwrap_or (last_found (pin_home processors tasks name) (length tasks)) (in_group processors 0)

-- The homes of components with these names.
abbrev pub home_of : Sched → List ℕ → Home
home_of (Classic groups unknown) name = classic_home groups name
home_of (Choreography processors pool tasks unknown) name = choreography_home processors tasks name

abbrev pub homes_of : Sched → List (List ℕ) → List Home
homes_of sched names = map (home_of sched) names

-- The home of the component with a number.
abbrev pub home_in : List Home → ℕ → Home
home_in homes c = unwrap_or (slice_get homes c) (in_group 0 0)

-- Whether a context is the home of a component, and all components whose home it is.
abbrev pub is_member : List Home → ℕ → ℕ → Bool
is_member homes context c = (home_in homes c).context == context

abbrev pub members_of : List Home → ℕ → List ℕ
members_of homes context =
    filter (is_member homes context) (numbers_below (length homes))

-- Whether a component may be scanned right before another one: it has a higher priority, or the
-- same one and no higher number.
abbrev pub is_before : List Home → ℕ → ℕ → Bool
is_before homes c d =
    nat_lt (home_in homes d).priority (home_in homes c).priority
    || ((home_in homes c).priority == (home_in homes d).priority && nat_le c d)

-- The order in which a context's components are scanned.
pub record IsOrder (homes : List Home) (context : ℕ) (order : List ℕ) : Type 0 where
  pub members : IsPermutation (members_of homes context) order
  pub falling : (k c d : ℕ) → slice_get order k ≡ Some c → slice_get order (k + 1) ≡ Some d
      → is_before homes c d ≡ true

abbrev pub HaveOrders : List Home → List ContextPlan → Type 0
HaveOrders homes contexts = (k : ℕ) (plan : ContextPlan) → slice_get contexts k ≡ Some plan
    → IsOrder homes k plan.order

-- A context's name, whether it is pinned, and its processors.
abbrev pub Head : Type 0
Head = List ℕ × Bool × ℕ

abbrev pub head_of : ContextPlan → Head
head_of plan = (plan.name, plan.pinned, plan.processors)

abbrev pub group_head : Group → Head
group_head g = (g.name, false, g.processors)

abbrev pub pinned_name : ℕ → List ℕ
pinned_name n = codes "pinned " ++ decimal n

abbrev pub pinned_head : ℕ → Head
pinned_head n = (pinned_name n, true, 1)

abbrev pub choreography_heads : ℕ → ℕ → List Head
choreography_heads processors pool =
    map pinned_head (numbers_below processors) ++ (codes "default_grp", false, pool) ∷ []

-- The contexts of a scheduler: its groups, or its processors one by one and then the pool.
abbrev pub heads_of : Sched → List Head
heads_of (Classic groups unknown) = map group_head groups
heads_of (Choreography processors pool tasks unknown) = choreography_heads processors pool

-- Contexts are those of a scheduler, each with the components whose home it is in their order.
pub record IsPlaced (sched : Sched) (names : List (List ℕ)) (contexts : List ContextPlan) : Type 0
  where
    pub heads : map head_of contexts ≡ heads_of sched
    pub orders : HaveOrders (homes_of sched names) contexts
