use Rattle.std.proofs.Common.{ℕ, ◌++◌, ◌∷◌, [], ◌∙◌, sym, ap, refl, length, take, map, arith, List}
use Rattle.std.proofs.lemmas.Option.{slice_get_read}
use Rattle.cy_msg.proofs.Lists.{take_next}
use Rattle.wake_core.specs.private.Sent.{sent_count}
use Rattle.wake_core.proofs.Beginning.{made_at}
use Rattle.wake_core.proofs.world.apart.sent_by.Goals as goal

pub sent_count-requires : goal.sent_count-requires
sent_count-requires c =
    let routines = c.args.routines.now in
    let i = c.loop-routine.routine-index in
    c.requires.each i c.routine-item.result (slice_get_read routines (length routines) i c.routine-item.result refl (omega (arith, c.loop-routine-test.true)) c.routine-item.is)

pub loop-routine-preserved : goal.loop-routine-preserved
loop-routine-preserved c =
    let routines = c.args.routines.now in
    let i = c.loop-routine.routine-index in
    let at = slice_get_read routines (length routines) i c.routine-item.result refl (omega (arith, c.loop-routine-test.true)) c.routine-item.is in
    record {
      so_far = c.in_ok-push.ensures.items ∙ ap (λ (ns : List ℕ). ns ++ c.sent_count.result ∷ []) c.loop-routine.invariant.so_far ∙ ap (λ (n : ℕ). take i (map sent_count routines) ++ n ∷ []) c.sent_count.ensures
          ∙ sym (take_next (map sent_count routines) i (sent_count c.routine-item.result) (made_at sent_count routines i c.routine-item.result at));
    }
