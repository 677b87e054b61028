-- What a replay is asked for.
use Rattle.std.specs.Prelude.{ℕ, ◌≤◌, ⊤, List, length, Option, option_map}
use Rattle.cy_msg.specs.declared.filter.Filter.{Filter}
use Rattle.cy_msg.specs.declared.request.Components as code
use Rattle.cy_msg.specs.declared.request.Components.TheVariants as named
use Rattle.cy_msg.specs.declared.request.Request as code_request
use Rattle.cy_msg.specs.declared.request.StopAt as code_stop

-- Through which components a record is replayed: those of a DAG file, placed by a scheduler file,
-- where one is given; or one that passes the messages of a channel on to another.
pub data Components : Type 0 where
  OfFiles : (dag : List ℕ) (sched : Option (List ℕ)) → Components
  OfPass : (from to : List ℕ) → Components

-- The channel that one component reads has a name.
abbrev pub HasReader : Components → Type 0
HasReader (OfFiles dag sched) = ⊤
HasReader (OfPass from to) = 1 ≤ length from

-- A stop that is asked for: a component by its name, and a time. It is raised once the messages up
-- to this time are played, and before the next.
pub record StopAt : Type 0 where
  pub component : List ℕ
  pub time : ℕ

-- What a replay is set up from: its components, the name of its record, which messages are let
-- through, and the stop, where one is asked for.
pub record Request : Type 0 where
  pub components : Components
  pub input : List ℕ
  pub filter : Filter
  pub stop : Option StopAt

-- What the code's types stand for.
abbrev pub components_of : code.Components → Components
components_of (named.Files dag sched) = OfFiles dag.now (option_map (λ name. name.now) sched)
components_of (named.Pass from to) = OfPass from.now to.now

abbrev pub stop_at_of : code_stop.StopAt → StopAt
stop_at_of s = record { component = s.component.now; time = s.time }

abbrev pub request_of : code_request.Request → Request
request_of r = record {
  components = components_of r.components;
  input = r.input.now;
  filter = r.filter.now;
  stop = option_map stop_at_of r.stop;
}
