use Rattle.std.proofs.Common.{Bor, List, ℕ, [], ◌∷◌, ◌++◌, ◌∙◌, ap, map}
use Rattle.std.proofs.lemmas.List.{map-append}
use Rattle.cy_setup.specs.Apart.{standard_output}
use Rattle.cy_commands.proofs.apart.others_of.Goals as goal

pub returns : goal.returns
returns c =
    ap (map (λ (n : Bor (List ℕ)). n.now)) c.in_ok-push.ensures.items ∙ map-append (λ (n : Bor (List ℕ)). n.now) c.in_ok-names.names.items _
    ∙ ap (λ (names : List (List ℕ)). names ++ standard_output ∷ []) c.in_ok-names.ensures
