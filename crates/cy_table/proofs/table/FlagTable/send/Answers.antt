-- The tape goes back to its slot with the output behind the others, and the store of its door gives
-- it home.
use Rattle.std.proofs.Common.{◌≡◌, [], ◌∷◌, length, Some, sym, ap, ◌∙◌, inr, arith}
use Rattle.atomic_table.specs.Table.{rest}
use Rattle.cy_comp.specs.Calls.{output, outs}
use Rattle.cy_comp.specs.Routine.{RoutineView}
use Rattle.wake_core.specs.WorldOf.{plain_of}
use Rattle.cy_table.specs.declared.part.Part.TheVariants as part
use Rattle.cy_table.specs.Deeds as deed
use Rattle.cy_table.specs.Seats.{TapeView}
use Rattle.cy_table.specs.Steps.{entering, with_message, out_at, phase_sent, sending}
use Rattle.cy_table.specs.Plays.{Thread, in_hand, last_put}
use Rattle.cy_table.specs.Hold.{with_found}
use Rattle.cy_table.specs.Calls.{channel_of}
use Rattle.cy_table.specs.Sights.{thread_in}
use Rattle.cy_table.proofs.Marking.{since_as, since_on, allowed}
use Rattle.cy_table.proofs.Taping.{sends, last_here}
use Rattle.cy_table.proofs.Slots.{exchanged, since_exchange}
use Rattle.cy_table.proofs.Resuming.{some_is, output_of}
use Rattle.cy_table.proofs.table.FlagTable.send.Goals as goal

pub enter_at_last-tape-requires : goal.enter_at_last-tape-requires
enter_at_last-tape-requires g c =
    let o = output_of c.args.hold.now (in_hand c.args.pass.now.seat.me.0.seat) c.requires.stepped c.requires.holds.routine c.requires.waits in
    record { at = c.requires.at; bare = c.requires.bare; may = inr (o.out, c.requires.holds.hand, o.seen) }

pub store-requires : goal.store-requires
store-requires g c =
    let table = c.args.self.now.table.shared in
    let made = plain_of table.key.value in
    let old = thread_in c.args.pass.now.seat.me in
    let h = c.args.hold.now in
    let k = in_hand old.0 in
    let t = c.enter_at_last-tape in
    let e = c.exchange-left.ensures in
    let x = t.result in
    let o = output_of h k c.requires.stepped c.requires.holds.routine c.requires.waits in
    let token_is : c.in-Some.token ≡ output (channel_of h) (length (outs (channel_of h) k.routine.calls)) o.out = some_is _ _ (sym c.in-Some.is ∙ (c.token.ensures ∙ o.token)) in
    let writes = c.requires.holds.channel ∙ ap (out_at made.routes) (sym c.requires.holds.croutine) in
    let p = exchanged t.new.pass.seat.me c.exchange-left.new.seat.me _ _ _ _ _ _ t.ensures.entered.thread e.2 e.3 in (
      e.0 ∙ t.ensures.same.at.table,
      omega (arith, c.args.self.now.words),
      allowed c.exchange-left.new.seat.me (sends c.tape_stores.ensures made table.table_id.slots c.exchange-left.new.seat.id (channel_of h) x o.out old.0 old.1 (thread_in c.exchange-left.new.seat.me) c.requires.at.live c.requires.holds.hand o.seen c.requires.may writes
          (p.1 ∙ ap (λ (y : TapeView). let n : Thread = (entering old.0 x, (0, part.Tape y) ∷ old.1) in n) (c.put.ensures ∙ ap (with_message x) token_is))),
    )

pub returns-clause-sent : goal.returns-clause-sent
returns-clause-sent g c =
    let old = thread_in c.args.pass.now.seat.me in
    let h = c.args.hold.now in
    let k = in_hand old.0 in
    let t = c.enter_at_last-tape in
    let e = c.exchange-left.ensures in
    let x = t.result in
    let p = exchanged t.new.pass.seat.me c.exchange-left.new.seat.me _ _ _ _ _ _ t.ensures.entered.thread e.2 e.3 in
    let is = p.1 ∙ ap (λ (y : TapeView). let n : Thread = (entering old.0 x, (0, part.Tape y) ∷ old.1) in n) c.put.ensures in
    let thread = c.store.ensures.2.0 ∙ (ap (λ (m : Thread). let n : Thread = (sending m.0 (in_hand m.0) (last_put m.1), rest m.1) in n) is
    ∙ ap (λ d. let n : Thread = (sending old.0 k d, old.1) in n) (last_here x c.in-Some.token old.1)) in
    let plain = c.requires.holds.routine ∙ ap (with_found h.routine) c.requires.stepped in
    record {
      waited = sym c.token.ensures ∙ c.in-Some.is;
      seat = ap (λ (m : Thread). m.0) thread;
      holds = record {
        hand = ap (λ (m : Thread). m.0.hand) thread ∙ ap (λ (m : Thread). Some (in_hand m.0)) (sym thread);
        croutine = ap (λ (m : Thread). (in_hand m.0).croutine) thread ∙ c.requires.holds.croutine;
        channel = c.requires.holds.channel;
        routine = ap (λ (m : Thread). (in_hand m.0).routine) thread
            ∙ (ap (λ (r : RoutineView). let z : RoutineView = record r { pending = Rattle.std.proofs.Common.None } in z) plain ∙ (sym c.sent.ensures ∙ sym (ap (with_found c.sent.new.self) c.requires.stepped)));
        out = ap (λ (m : Thread). m.1) thread ∙ c.requires.holds.out;
        inside = c.requires.holds.inside;
      };
      stepped = c.requires.stepped;
    }

pub returns-clause-noted : goal.returns-clause-noted
returns-clause-noted g c =
    let t = c.enter_at_last-tape in
    let e = c.exchange-left.ensures in
    let old = thread_in c.args.pass.now.seat.me in
    let k = in_hand old.0 in
    let p = exchanged t.new.pass.seat.me c.exchange-left.new.seat.me _ _ _ _ _ _ t.ensures.entered.thread e.2 e.3 in
    let is = p.1 ∙ ap (λ (y : TapeView). let n : Thread = (entering old.0 t.result, (0, part.Tape y) ∷ old.1) in n) c.put.ensures in
    since_on _ _ _ _ _ (since_exchange [] _ t.new.pass.seat.me c.exchange-left.new.seat.me _ t.ensures.noted e.3) (since_as _ _ _ _ (ap (λ (m : Thread). deed.Send (in_hand m.0).croutine (phase_sent (in_hand m.0).phase) (last_put m.1) ∷ []) is ∙ (ap (λ d. deed.Send k.croutine (phase_sent k.phase) d ∷ []) (last_here t.result c.in-Some.token old.1) ∙ ap (λ n. deed.Send n (phase_sent k.phase) c.in-Some.token ∷ []) c.requires.holds.croutine)) c.store.ensures.2.1)
