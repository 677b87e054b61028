-- What the program's own types stand for.
use Rattle.std.specs.Prelude.{⊤, option_map}
use Rattle.cy_msg.specs.Request.{HasReader}
use Rattle.cy_args.specs.declared.make_words.Make.{Make}
use Rattle.cy_args.specs.declared.check_words.Check.{Check}
use Rattle.cy_args.specs.declared.merge_words.Merge.{Merge}
use Rattle.cy_args.specs.declared.recover_words.Recover.{Recover}
use Rattle.cy_args.specs.declared.split_words.Split.{Split}
use Rattle.cy_args.specs.declared.words.Info.{Info}
use Rattle.cy_args.specs.declared.words.Command as code
use Rattle.cy_args.specs.declared.words.Command.TheVariants as asked
use Rattle.cy_args.specs.CheckWords.{CheckWords}
use Rattle.cy_args.specs.FilterViews.{filter_of}
use Rattle.cy_args.specs.FilterWords.{names_in}
use Rattle.cy_args.specs.MakeWords.{MakeWords, CanBeMade}
use Rattle.cy_args.specs.MergeWords.{MergeWords}
use Rattle.cy_args.specs.PlayViews.{play_words_of}
use Rattle.cy_args.specs.RecoverWords.{RecoverWords}
use Rattle.cy_args.specs.SplitWords.{SplitWords}
use Rattle.cy_args.specs.Command as command
use Rattle.cy_args.specs.Command.{InfoWords}

-- The words of each command.
abbrev pub check_words_of : Check → CheckWords
check_words_of w = record { dag = w.dag.now; sched = option_map (λ name. name.now) w.sched }

abbrev pub info_words_of : Info → InfoWords
info_words_of w = record { file = w.file.now }

abbrev pub make_words_of : Make → MakeWords
make_words_of w = record { count = w.count; prefix = w.prefix.now }

abbrev pub recover_words_of : Recover → RecoverWords
recover_words_of w = record { input = w.input.now; output = w.output.now }

abbrev pub split_words_of : Split → SplitWords
split_words_of w = record {
  input = w.input.now;
  output = w.output.now;
  filter = filter_of w.wanted;
}

abbrev pub merge_words_of : Merge → MergeWords
merge_words_of w = record { inputs = names_in w.list.now; output = w.output.now }

-- The command that is asked for, and that a channel which it reads has a name, or that the files of
-- `make` can be made.
abbrev pub command_asked : code.Command → command.Command
command_asked (asked.Check w) = command.Check (check_words_of w)
command_asked (asked.Info w) = command.Info (info_words_of w)
command_asked (asked.Play w) = command.Play (play_words_of w)
command_asked (asked.Make w) = command.Make (make_words_of w)
command_asked (asked.Verify w) = command.Verify (play_words_of w)
command_asked (asked.Recover w) = command.Recover (recover_words_of w)
command_asked (asked.Split w) = command.Split (split_words_of w)
command_asked (asked.Merge w) = command.Merge (merge_words_of w)

abbrev pub IsInForm : code.Command → Type 0
IsInForm (asked.Play w) = HasReader (play_words_of w).request.components
IsInForm (asked.Make w) = CanBeMade (make_words_of w)
IsInForm (asked.Verify w) = HasReader (play_words_of w).request.components
IsInForm c = ⊤
