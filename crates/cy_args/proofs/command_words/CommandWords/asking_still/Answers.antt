use Rattle.std.proofs.Common.{rules}
use Rattle.std.proofs.lemmas.Result.{err_from_is_err_and}
use Rattle.cy_args.proofs.Asked.{none_asked_still, some_asked_still, still_some}
use Rattle.cy_args.proofs.command_words.CommandWords.asking_still.Goals as goal

pub returns-then-is_none : goal.returns-then-is_none
returns-then-is_none c = none_asked_still c.args.words.now c.still_command_of.result c.still_command_of.ensures (search rules)

pub of-requires : goal.of-requires
of-requires c = still_some c.args.words.now (search rules)

pub returns-in_err-of : goal.returns-in_err-of
returns-in_err-of c =
    let p = err_from_is_err_and c.from_residual.result c.from_residual.ensures.1 in
    rw p.1 (some_asked_still c.args.words.now c.still_command_of.result c.still_command_of.ensures (search rules))

pub returns : goal.returns
returns c = (some_asked_still c.args.words.now c.still_command_of.result c.still_command_of.ensures (search rules), c.in_ok-of.ensures)
