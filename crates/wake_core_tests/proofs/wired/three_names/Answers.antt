use Rattle.std.proofs.Common.{◌∷◌, ◌++◌, [], ◌∙◌, ap}
use Rattle.wake_core_tests.proofs.Named.{third, a_is_not_o, b_is_not_o}
use Rattle.wake_core_tests.proofs.wired.three_names.Goals as goal

pub add-requires-3 : goal.add-requires-3
add-requires-3 c =
    let one = c.in_ok-add.ensures.added ∙ ap (λ l. l ++ (47 ∷ 97 ∷ []) ∷ []) c.new-names.ensures in
    third c.add-2.new.names (47 ∷ 111 ∷ []) (47 ∷ 97 ∷ []) (47 ∷ 98 ∷ []) (c.in_ok-add-2.ensures.added ∙ ap (λ l. l ++ (47 ∷ 98 ∷ []) ∷ []) one) a_is_not_o b_is_not_o
