-- What a delivery makes of the visitors and the flags of a world.
use Rattle.std.specs.Prelude.{ℕ, ◌≤◌, ◌<◌, ◌==◌, ◌&&◌, Bool, false, List, [], ◌∷◌, length, get_or}
use Rattle.std.specs.Prelude.{set, if◌then◌else◌}
use Rattle.cy_msg.specs.declared.token.Token.{Token}
use Rattle.cy_fuse.specs.Visitor.{VisitorView, arrived}
use Rattle.cy_comp.specs.Routine.{RoutineView}
use Rattle.wake_core.specs.Events.{is_waiting}
use Rattle.wake_core.specs.Fields.{no_visitor, no_routine}

-- A message arrives at one reader.
abbrev pub arrived_at : (reader : ℕ × ℕ) → Token → List VisitorView → List VisitorView
arrived_at r t visitors =
    set visitors r.0 (arrived (get_or visitors r.0 no_visitor) r.1 t)

-- .. at each of these, one after another.
abbrev pub arrived_at_all : List (ℕ × ℕ) → Token → List VisitorView → List VisitorView
arrived_at_all [] t visitors = visitors
arrived_at_all (r ∷ rest) t visitors = arrived_at_all rest t (arrived_at r t visitors)

-- A component is known, reads in a role, and has room for one more message.
pub record MayArrive (r : ℕ × ℕ) (visitors : List VisitorView) : Type 0 where
  pub known : r.0 < length visitors
  pub role : r.1 < (get_or visitors r.0 no_visitor).roles
  pub room : 1 ≤ (get_or visitors r.0 no_visitor).spare

-- .. each of these, once those before it took theirs.
abbrev pub MayArriveAtAll : List (ℕ × ℕ) → Token → List VisitorView → Type 0
MayArriveAtAll [] t visitors = Unit {0}
MayArriveAtAll (r ∷ rest) t visitors =
    MayArrive r visitors × MayArriveAtAll rest t (arrived_at r t visitors)

-- The flag of a component that waits is cleared where this is its first reader.
abbrev pub cleared_by : (reader : ℕ × ℕ) → List RoutineView → List Bool → List Bool
cleared_by r routines spent =
    if r.1 == 0 && is_waiting (get_or routines r.0 no_routine).state
    then set spent r.0 false
    else spent

-- .. and so for each of these readers.
abbrev pub cleared_by_all : List (ℕ × ℕ) → List RoutineView → List Bool → List Bool
cleared_by_all [] routines spent = spent
cleared_by_all (r ∷ rest) routines spent =
    cleared_by_all rest routines (cleared_by r routines spent)

-- The readers are those of so many components.
abbrev pub AreReaders : List (ℕ × ℕ) → (components : ℕ) → Type 0
AreReaders [] n = Unit {0}
AreReaders (r ∷ rest) n = (r.0 < n) × AreReaders rest n
