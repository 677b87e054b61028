use Rattle.std.proofs.Common.{rules}
use Rattle.std.proofs.lemmas.Result.{err_from_is_err_and}
use Rattle.cy_args.proofs.Asked.{none_asked, some_asked}
use Rattle.cy_args.proofs.command_words.CommandWords.asking.Goals as goal

pub returns-then-is_none : goal.returns-then-is_none
returns-then-is_none c = none_asked c.args.words.now c.command_of.result c.command_of.ensures (search rules)

pub returns-in_err-of : goal.returns-in_err-of
returns-in_err-of c =
    let p = err_from_is_err_and c.from_residual.result c.from_residual.ensures.1 in
    rw p.1 (some_asked c.args.words.now c.command_of.result c.command_of.ensures (search rules))

pub returns : goal.returns
returns c = (some_asked c.args.words.now c.command_of.result c.command_of.ensures (search rules), c.in_ok-of.ensures)
