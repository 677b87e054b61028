-- What the type stands for in which the code keeps the options of a filter.
use Rattle.std.specs.Prelude.{[], option_map, unwrap_or}
use Rattle.cy_msg.specs.declared.filter.Filter.{Filter}
use Rattle.cy_args.specs.declared.filter_words.FilterWords.{FilterWords}
use Rattle.cy_args.specs.FilterWords.{names_in}

abbrev pub filter_of : FilterWords → Filter
filter_of f = record {
  only = option_map (λ list. names_in list.now) f.only;
  drop = unwrap_or (option_map (λ list. names_in list.now) f.drop) [];
  begin = f.begin;
  end = f.end;
}
