use Rattle.std.proofs.Common.{List, ℕ, refl, subst, ◌∙◌}
use Rattle.std.proofs.lemmas.Result.{err_from_is_err_and}
use Rattle.cy_setup.specs.Steps.{configured}
use Rattle.cy_setup.specs.Wiring.{IsWiredBy, wired_by, wiring_in}
use Rattle.cy_setup.proofs.Judging.{judges_memory, passed_on}
use Rattle.cy_setup.proofs.setup.wire_recorded.Goals as goal

pub returns-in_err-channels : goal.returns-in_err-channels
returns-in_err-channels c =
    let p = err_from_is_err_and c.from_residual.result c.from_residual.ensures.1 in
    passed_on wired_by _ c.from_residual.result p.0 _ p.1 p.2 (judges_memory wired_by _ _ refl)

pub returns : goal.returns
returns c =
    subst (λ (cs : List (List ℕ)). IsWiredBy (wiring_in c.args.file.now cs (configured c.args.configuration.now)) c.wire_components.result) (c.deref.ensures.value ∙ c.in_ok-channels.ensures) c.wire_components.ensures
