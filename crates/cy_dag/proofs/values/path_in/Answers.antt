use Rattle.std.proofs.Common.{List, ℕ, Bor, map, unwrap_or, ap, ◌∙◌}
use Rattle.std.proofs.lemmas.List.{take_all}
use Rattle.cy_text.specs.Entries.{held_of}
use Rattle.cy_text.specs.Fields.{Held}
use Rattle.cy_text.specs.declared.tree.Value.{Value}
use Rattle.cy_dag.specs.Values.{field_number}
use Rattle.cy_dag.proofs.ValueSteps.{path_shown}
use Rattle.cy_dag.proofs.values.path_in.Goals as goal

pub returns : goal.returns
returns c =
    let xs = c.deref-value-items.result.now in
    let g : Value → ℕ = λ v. unwrap_or (field_number (held_of v)) 0 in
    let h : Held → ℕ = λ held. unwrap_or (field_number held) 0 in
    c.loop-value.invariant.made ∙ ap (λ (ys : List (Bor Value)). map g (map (λ (m : Bor Value). m.now) ys)) (take_all c.loop-value.value-index xs c.loop-value-test.false)
    ∙ path_shown xs ∙ ap (map h) c.loop-value.invariant.shown
