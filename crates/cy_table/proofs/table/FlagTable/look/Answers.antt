-- The load of a state.
use Rattle.std.proofs.Common.{sym, ap, ◌∙◌, arith}
use Rattle.cy_table.specs.Plays.{Thread}
use Rattle.wake_core.specs.WorldOf.{plain_of}
use Rattle.cy_table.specs.Sights.{thread_in}
use Rattle.cy_table.proofs.Marking.{allowed}
use Rattle.cy_table.proofs.Words.{looks}
use Rattle.cy_table.proofs.table.FlagTable.look.Goals as goal

pub load-found-requires : goal.load-found-requires
load-found-requires c =
    let table = c.args.self.now.table.shared in
    let made = plain_of table.key.value in
    let seat = c.args.pass.now.seat in
    (c.requires.at.table, omega (arith, c.args.self.now.words, c.requires.inside), allowed seat.me (looks c.state_loads.ensures made table.table_id.slots seat.id c.args.component (thread_in seat.me) c.requires.at.live c.requires.filled c.requires.news c.requires.inside))

pub returns-clause-same : goal.returns-clause-same
returns-clause-same c =
    let told = c.load-found.ensures.2.0 c.args.component c.requires.news in
    record {
      at = record {
        table = c.load-found.ensures.0 ∙ c.requires.at.table;
        live = λ z. c.requires.at.live (sym (ap (λ (m : Thread). m.0.live) told) ∙ z);
      };
      number = c.load-found.ensures.1;
    }

pub invariant_of-pass : goal.invariant_of-pass
invariant_of-pass c =
    let told = c.load-found.ensures.2.0 c.args.component c.requires.news in
    record { counted = c.args.pass.now.counted ∙ ap (λ (m : Thread). m.0.split) (sym told) }
