use Rattle.std.proofs.Common.{rules, tests, lit<, ◌==◌, length, not}
use Rattle.std.proofs.lemmas.Iterator.Search.{all_from_yields_List}
use Rattle.std.proofs.lemmas.Iterator.Splits.{YieldsList-from_str_split}
use Rattle.cy_args.specs.FilterWords.{is_list}
use Rattle.cy_args.proofs.filter_words.is_list.Goals as goal

pub returns : goal.returns
unfolding is_list
returns c = all_from_yields_List (λ name. not (length name == 0)) _ _ _ c.all.ensures.ran (YieldsList-from_str_split 44 c.args.text.now (lit< tt) c.split.ensures.text c.split.ensures.has_more c.split.ensures.pattern) (λ x b q k. search (rules, tests))
