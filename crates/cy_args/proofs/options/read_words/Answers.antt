use Rattle.std.proofs.Common.{None, ap, refl}
use Rattle.cy_args.specs.Options.{Options}
use Rattle.cy_args.specs.private.OptionViews.{table_of}
use Rattle.cy_args.specs.private.Scan.{read_words}
use Rattle.cy_args.proofs.Places.{no_values}
use Rattle.cy_args.proofs.options.read_words.Goals as goal

pub loop-word-init : goal.loop-word-init
loop-word-init c = ap (λ (o : Options). read_words (table_of c.args.known.now) c.args.words.now (record { options = o; pending = None; left = table_of c.args.known.now })) (no_values (table_of c.args.known.now) _ refl)
