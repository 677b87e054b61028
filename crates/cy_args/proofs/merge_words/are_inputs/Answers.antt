use Rattle.std.proofs.Common.{rules, tests, lit<}
use Rattle.std.proofs.lemmas.Iterator.Search.{all_from_yields_List}
use Rattle.std.proofs.lemmas.Iterator.Splits.{YieldsList-from_str_split}
use Rattle.cy_args.specs.MergeWords.{are_inputs, is_input}
use Rattle.cy_args.proofs.merge_words.are_inputs.Goals as goal

pub returns : goal.returns
unfolding are_inputs
returns c =
    all_from_yields_List (is_input c.args.output.now) _ _ _ c.all.ensures.ran (YieldsList-from_str_split 44 c.args.list.now (lit< tt) c.split.ensures.text c.split.ensures.has_more c.split.ensures.pattern) (λ x b q k. search (rules, tests))
