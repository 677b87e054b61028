use Rattle.std.proofs.Common.{ℕ, Result, Ok, Err, subst, codes}
use Rattle.cy_msg.specs.declared.filter.Filter.{Filter}
use Rattle.cy_reader.specs.Record.{record_of}
use Rattle.cy_tools.specs.Answer.{ToolAnswer}
use Rattle.cy_tools.specs.Tools.{splitting}
use Rattle.cy_tools.specs.declared.error.ToolError.{ToolError}
use Rattle.cy_tools.specs.declared.splitting.Parted.{Parted}
use Rattle.cy_args.specs.Views.{split_words_of}
use Rattle.cy_commands.specs.Line.{bytes_of_line}
use Rattle.cy_commands.specs.private.KeptEnds.{IsDueKept}
use Rattle.cy_commands.proofs.KeptExits.{parted, unparted}
use Rattle.cy_commands.proofs.commands.split.split_by.Goals as goal

pub returns-in-Ok-split : goal.returns-in-Ok-split
returns-in-Ok-split g c =
    let w = split_words_of c.args.split.now in
    let old = g.S.Store.shows c.args.store.now in
    let new = g.S.Store.shows c.split.new.store in
    let made = c.in-Ok-split.made in
    let due = c.due_kept.result in
    parted w old new made due.status (bytes_of_line due.line) c.requires.apart
    (subst (λ (f : Filter). ToolAnswer (record_of w.input) (splitting f) w.input w.output old new (Ok made)) c.requires.filter c.in-Ok-split.ensures)
    (subst (λ (n : ℕ). IsDueKept made.messages (codes " of ") n due.status (bytes_of_line due.line)) c.from.ensures c.due_kept.ensures)

pub returns-in-Err : goal.returns-in-Err
returns-in-Err g c =
    let w = split_words_of c.args.split.now in
    let old = g.S.Store.shows c.args.store.now in
    let new = g.S.Store.shows c.split.new.store in
    let answer : Result Parted ToolError = Err c.in-Err.error in
    unparted w old new c.in-Err.error _ _ c.requires.apart (subst (λ (f : Filter). ToolAnswer (record_of w.input) (splitting f) w.input w.output old new answer) c.requires.filter c.in-Err.ensures) c.due_unkept.ensures
