use Rattle.std.proofs.Common.{rules}
use Rattle.std.proofs.lemmas.List.Sorted.{answers_always}
use Rattle.cy_comp.specs.declared.answers.Answer.{Answer}
use Rattle.cy_comp.proofs.Searching.{searched}
use Rattle.cy_comp.proofs.answers.search.Goals as goal

-- the closure gives the call of an answer
pub returns : goal.returns
returns c =
    let facts = c.binary_search_by_key.ensures in
    let by_key = facts.position (λ (a : Answer). a.call) (answers_always _ _ _ (λ f a r g called. search rules)) in
    searched _ c.requires c.args.call _ facts.bound by_key
