-- The tape goes back to its slot with one message more, and the store of its door gives it home.
use Rattle.std.proofs.Common.{[], ◌∷◌, ap, ◌∙◌, arith}
use Rattle.atomic_table.specs.Table.{rest}
use Rattle.wake_core.specs.WorldOf.{plain_of}
use Rattle.cy_table.specs.declared.part.Part.TheVariants as part
use Rattle.cy_table.specs.Deeds as deed
use Rattle.cy_table.specs.Seats.{TapeView}
use Rattle.cy_table.specs.Steps.{entering, taping}
use Rattle.cy_table.specs.Plays.{Thread, last_put}
use Rattle.cy_table.specs.Sights.{thread_in}
use Rattle.cy_table.proofs.Marking.{since_as, since_on, allowed}
use Rattle.cy_table.proofs.Taping.{tapes, last_here}
use Rattle.cy_table.proofs.Slots.{exchanged, since_exchange}
use Rattle.cy_table.proofs.table.FlagTable.tape.Goals as goal

pub store-requires : goal.store-requires
store-requires g c =
    let table = c.args.self.now.table.shared in
    let made = plain_of table.key.value in
    let old = thread_in c.args.pass.now.seat.me in
    let t = c.enter_at_last-tape in
    let e = c.exchange-left.ensures in
    let x = t.result in
    let p = exchanged t.new.pass.seat.me c.exchange-left.new.seat.me _ _ _ _ _ _ t.ensures.entered.thread e.2 e.3 in (
      e.0 ∙ t.ensures.same.at.table,
      omega (arith, c.args.self.now.words),
      allowed c.exchange-left.new.seat.me (tapes c.tape_stores.ensures made table.table_id.slots c.exchange-left.new.seat.id c.args.token x old.0 old.1 (thread_in c.exchange-left.new.seat.me) c.requires.at.live (e.1 ∙ (t.ensures.same.number ∙ c.requires.player)) c.requires.may
          (p.1 ∙ ap (λ (y : TapeView). let n : Thread = (entering old.0 x, (0, part.Tape y) ∷ old.1) in n) c.put.ensures)),
    )

pub returns-clause-thread : goal.returns-clause-thread
returns-clause-thread g c =
    let old = thread_in c.args.pass.now.seat.me in
    let t = c.enter_at_last-tape in
    let e = c.exchange-left.ensures in
    let x = t.result in
    let p = exchanged t.new.pass.seat.me c.exchange-left.new.seat.me _ _ _ _ _ _ t.ensures.entered.thread e.2 e.3 in
    let is = p.1 ∙ ap (λ (y : TapeView). let n : Thread = (entering old.0 x, (0, part.Tape y) ∷ old.1) in n) c.put.ensures in
    c.store.ensures.2.0 ∙ ap (λ (m : Thread). let n : Thread = (taping m.0 (last_put m.1), rest m.1) in n) is
    ∙ ap (λ d. let n : Thread = (taping old.0 d, old.1) in n) (last_here x c.args.token old.1)

pub returns-clause-noted : goal.returns-clause-noted
returns-clause-noted g c =
    let t = c.enter_at_last-tape in
    let e = c.exchange-left.ensures in
    let old = thread_in c.args.pass.now.seat.me in
    let p = exchanged t.new.pass.seat.me c.exchange-left.new.seat.me _ _ _ _ _ _ t.ensures.entered.thread e.2 e.3 in
    since_on _ _ _ _ _ (since_exchange [] _ t.new.pass.seat.me c.exchange-left.new.seat.me _ t.ensures.noted e.3) (since_as _ _ _ _ (ap (λ (m : Thread). deed.Tape (last_put m.1) ∷ []) (p.1 ∙ ap (λ (y : TapeView). let n : Thread = (entering old.0 t.result, (0, part.Tape y) ∷ old.1) in n) c.put.ensures) ∙ ap (λ d. deed.Tape d ∷ []) (last_here t.result c.args.token old.1)) c.store.ensures.2.1)
