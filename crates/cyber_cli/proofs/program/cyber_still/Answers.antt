use Rattle.cy_commands.specs.Line.{bytes_of_line}
use Rattle.cy_args.proofs.Asked.{ask_for_one}
use Rattle.cyber_cli.proofs.Complete.{complete, not_sink}
use Rattle.cyber_cli.proofs.Left.{asked_still}
use Rattle.cyber_cli.proofs.program.cyber_still.Goals as goal

pub returns-clause-answers : goal.returns-clause-answers
returns-clause-answers g c command asked =
    let is_due = c.due_of-due.ensures c.args.words.now command c.asking_still-read.ensures asked in
    record {
      due = c.due_of-due.result.status;
      line = bytes_of_line c.due_of-due.result.line;
      is_due = is_due;
      stands = c.commands_leave_their_files.ensures c.args.words.now command _ _ _ _ (asked_still c.args.words.now command asked) is_due;
      is_told = c.tell.ensures;
    }

pub returns-clause-complete : goal.returns-clause-complete
returns-clause-complete g c command asked =
    complete c.verdicts_are_one.ensures command (g.S.Store.shows c.args.store.now) (g.S.Store.shows c.due_of-due.new.store)
    (record { out = g.O.Sink.shows c.args.out.now; err = g.E.Sink.shows c.args.err.now }) (record { out = g.O.Sink.shows c.tell.new.out; err = g.E.Sink.shows c.tell.new.err }) c.tell.result
    (returns-clause-answers g c command asked)

pub tell-requires : goal.tell-requires
tell-requires g c =
    let one = (ask_for_one c.args.words.now).1 in
    not_sink one.0 (g.S.Store.shows c.args.store.now) (g.S.Store.shows c.due_of-due.new.store) c.due_of-due.result.status (bytes_of_line c.due_of-due.result.line)
    (c.due_of-due.ensures c.args.words.now one.0 c.asking_still-read.ensures one.1.0)
