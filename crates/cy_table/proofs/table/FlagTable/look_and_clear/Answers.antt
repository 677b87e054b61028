-- What a look found to wait is the last whose flag is to be cleared.
use Rattle.std.proofs.Common.{◌++◌, ◌∷◌, [], if◌then◌else◌, true, sym, ap, ◌∙◌}
use Rattle.cy_table.specs.Steps.{looking, clearing_but}
use Rattle.cy_table.specs.Plays.{Thread, but_first, but_last}
use Rattle.cy_table.specs.Sights.{thread_in}
use Rattle.cy_table.proofs.Marking.{since_on}
use Rattle.cy_table.proofs.Words.{but_last_is}
use Rattle.cy_table.proofs.table.FlagTable.look_and_clear.Goals as goal

pub clear-requires-clause-last : goal.clear-requires-clause-last
clear-requires-clause-last c =
    let v = c.args.pass.now.seat.me.0.seat in
    let i = c.args.component in
    let more = v.clearing ++ i ∷ [] in
    let cl = ap (λ (m : Thread). m.0.clearing) c.look.ensures.thread ∙ ap (λ b. if b then more else v.clearing) c.if-look.true in
    cl ∙ ap (λ l. l ++ i ∷ []) (sym (ap but_last cl ∙ but_last_is v.clearing i))

pub returns-then-look-clause-thread : goal.returns-then-look-clause-thread
returns-then-look-clause-thread c =
    let old = thread_in c.args.pass.now.seat.me in
    let v = old.0 in
    let i = c.args.component in
    let there = c.look.ensures.thread ∙ ap (λ b. let n : Thread = (looking v i (but_first v.news) b, old.1) in n) c.if-look.true in
    c.clear.ensures.thread
    ∙ ap (λ (m : Thread). let n : Thread = (clearing_but m.0 (but_last m.0.clearing), m.1) in n) there
    ∙ ap (λ l. let n : Thread = (clearing_but (looking v i (but_first v.news) true) l, old.1) in n) (but_last_is v.clearing i)

pub returns-then-look-clause-noted : goal.returns-then-look-clause-noted
returns-then-look-clause-noted c = (true, since_on _ _ _ _ _ c.look.ensures.noted c.clear.ensures.noted)
