-- What contracts see of a component.
use Rattle.cy_comp.specs.declared.kind.Kind.{Kind}
use Rattle.cy_comp.specs.Step.{Kept, opening_of}

-- Its class, and what it keeps from its earlier calls.
pub record BodyView : Type 0 where
  pub kind : Kind
  pub kept : Kept

-- Before its first call.
abbrev pub new_body : Kind → BodyView
new_body k = record { kind = k; kept = opening_of k }
