-- What the state of a body stands for.
use Rattle.std.specs.Prelude.{◌≡◌}
use Rattle.cy_msg.specs.declared.token.Tuple.{Tuple}
use Rattle.cy_comp.specs.declared.kind.Kind.{Kind}
use Rattle.cy_comp.specs.declared.kind.Kind.TheVariants as kind
use Rattle.cy_comp.specs.declared.class.Class.{Class}
use Rattle.cy_comp.specs.declared.class.Class.TheVariants as class
use Rattle.cy_comp.specs.declared.call.Outcome.{Outcome}
use Rattle.cy_comp.specs.Step.{Kept, opening_of, step}
use Rattle.cy_comp.specs.Body.{BodyView}

abbrev pub kind_of : Class → Kind
kind_of class.Pass = kind.Pass
kind_of (class.Filter b) = kind.Filter b.lo b.hi
kind_of class.Sum = kind.Sum
kind_of (class.Count calls) = kind.Count
kind_of (class.Max greatest) = kind.Max
kind_of (class.Window w) = kind.Window w.n
kind_of (class.Change passed) = kind.Change
kind_of class.Select = kind.Select
kind_of (class.Hold delay) = kind.Hold delay
kind_of (class.Take t) = kind.Take t.n
kind_of (class.External e) = kind.External e.answers

abbrev pub kept_of : Class → Kept
kept_of (class.Count calls) = record (opening_of kind.Count) { calls = calls }
kept_of (class.Max greatest) = record (opening_of kind.Max) { greatest = greatest }
kept_of (class.Window w) = record (opening_of (kind.Window w.n)) { last = w.values.items }
kept_of (class.Change passed) = record (opening_of kind.Change) { passed = passed }
kept_of (class.Take t) = record (opening_of (kind.Take t.n)) { calls = t.calls }
kept_of (class.External e) = record (opening_of (kind.External e.answers)) { calls = e.calls }
kept_of _ = opening_of kind.Pass

abbrev pub body_of : Class → BodyView
body_of c = record { kind = kind_of c; kept = kept_of c }

-- A call on a tuple takes the one state to the other, and gives this outcome.
pub record Steps (old new : Class) (tuple : Tuple) (given : Outcome) : Type 0 where
  pub outcome : given ≡ (step (kind_of old) (kept_of old) tuple).1
  pub kept_next : kept_of new ≡ (step (kind_of old) (kept_of old) tuple).0
  pub same_kind : kind_of new ≡ kind_of old
