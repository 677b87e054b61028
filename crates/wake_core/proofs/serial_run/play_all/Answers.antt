use Rattle.std.proofs.Common.{ℕ, ◌≤◌, ◌<◌, sym, ◌∙◌, refl, arith, inl, inr}
use Rattle.cy_msg.specs.Placement.{scan_of}
use Rattle.wake_core.specs.WorldOf.{plain_of}
use Rattle.wake_core.proofs.Played.{plays_begin, plays_step, next_may, list_at}
use Rattle.wake_core.proofs.serial_run.play_all.Goals as goal

-- A place before the end is within the list.
inside : {i m n : ℕ} → i < m → m ≤ n → i < n
inside a b = omega arith

pub loop-index-init : goal.loop-index-init
loop-index-init c = plays_begin (scan_of c.args.contexts.now) c.args.tokens.now c.args.from (plain_of c.args.world.now) c.requires.may.played

pub play-requires-clause-next : goal.play-requires-clause-next
play-requires-clause-next c =
    let w = plain_of c.loop-index.world in
    next_may c.args.tokens.now w c.loop-index.index _ c.requires.may.timed c.requires.may.numbered
    (list_at c.args.tokens.now c.args.tokens.now c.loop-index.index _ refl (inside c.loop-index-test.true c.requires.may.within)) c.loop-index.invariant.played
    c.args.to c.loop-index-test.true
    (λ s given. elim (c.requires.may.in_time s (sym c.loop-index.invariant.made.stop ∙ given)) [ inl up ↦ inl (c.loop-index.invariant.raised ∙ up) | inr l ↦ inr l ])

pub loop-index-preserved : goal.loop-index-preserved
unfolding plain_of
loop-index-preserved c = plays_step (scan_of c.args.contexts.now) c.args.tokens.now c.args.from c.loop-index.index (plain_of c.args.world.now) (plain_of c.loop-index.world) (plain_of c.play.new.world) (plain_of c.settle.new.world) _
    c.requires.may.timed (list_at c.args.tokens.now c.args.tokens.now c.loop-index.index _ refl (inside c.loop-index-test.true c.requires.may.within)) c.loop-index.world.sound c.loop-index.invariant c.play.ensures c.settle.ensures
