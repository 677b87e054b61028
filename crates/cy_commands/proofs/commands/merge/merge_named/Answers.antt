use Rattle.std.proofs.Common.{ℕ, List, Result, Err, subst}
use Rattle.cy_setup.specs.declared.error.SetupError.{SetupError}
use Rattle.cy_args.specs.Views.{merge_words_of}
use Rattle.cy_commands.specs.private.MergeEnds.{AreInputs}
use Rattle.cy_commands.proofs.MergeExits.{unmergeable}
use Rattle.cy_commands.proofs.commands.merge.merge_named.Goals as goal

pub returns-in-Err : goal.returns-in-Err
returns-in-Err g c =
    let w = merge_words_of c.args.merge.now in
    let answer : Result (Unit {0}) SetupError = Err c.in-Err.error in
    let tested = subst (λ (names : List (List ℕ)). AreInputs (g.S.Store.shows c.args.store.now).files names w.output answer) c.requires c.in-Err.ensures.tested in
    unmergeable {X = Unit {0}} w _ _ c.in-Err.error _ _ c.in-Err.ensures.same tested c.due_after_failed_setup.ensures
