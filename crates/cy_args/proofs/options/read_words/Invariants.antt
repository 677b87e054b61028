use Rattle.std.proofs.Common.{◌≡◌, None, drop}
use Rattle.cy_args.specs.private.OptionViews.{reading_of, table_of}
use Rattle.cy_args.specs.private.Scan.{no_options, read_words}
use Rattle.cy_args.proofs.options.read_words.Given as goal

abbrev pub invariant-loop-word : goal.invariant-loop-word
invariant-loop-word l =
    read_words (table_of l.known) l.words (record { options = no_options; pending = None; left = table_of l.known }) ≡ read_words (table_of l.known) (drop l.word-index l.words) (reading_of (table_of l.known) l.reading)
