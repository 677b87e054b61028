use Rattle.std.proofs.Common.{ℕ, sym, subst, List, ◌<◌, ◌≡◌, true, length}
use Rattle.wake_core.specs.WorldOf.{plain_of}
use Rattle.wake_core.specs.Plain.{lists}
use Rattle.wake_core.specs.Turns.{Finds, Passes}
use Rattle.wake_core.proofs.Taking.{passes_rest, passes_none}
use Rattle.wake_core.proofs.Scanning.{context_known, context_finds, context_passes, none_of, item_at}
use Rattle.wake_core.proofs.serial_run.first_of_all.Goals as goal

pub loop-context-init : goal.loop-context-init
loop-context-init c = record { rest = c.requires.rest; passes = passes_none (plain_of c.args.world.now) }

pub first_ready-found-requires-clause-known : goal.first_ready-found-requires-clause-known
first_ready-found-requires-clause-known c =
    subst (λ (l : List ℕ). (k : ℕ) → lists k l ≡ true → k < length (plain_of c.loop-context.world).routes) (sym c.as_slice.ensures)
    (context_known c.args.contexts.now c.loop-context.context-index c.context-item.result (plain_of c.args.world.now) (plain_of c.loop-context.world) (item_at _ _ _ c.loop-context-test.true c.context-item.is) c.loop-context.invariant.passes c.requires.known)

pub returns-then-is_some-clause-found : goal.returns-then-is_some-clause-found
returns-then-is_some-clause-found c = λ k e. context_finds c.args.contexts.now c.loop-context.context-index c.context-item.result (plain_of c.args.world.now) (plain_of c.loop-context.world) (item_at _ _ _ c.loop-context-test.true c.context-item.is)
    c.loop-context.invariant.passes k (plain_of c.first_ready-found.new.world)
    (subst (λ (l : List ℕ). Finds l k (plain_of c.loop-context.world) (plain_of c.first_ready-found.new.world)) c.as_slice.ensures (c.first_ready-found.ensures.found k e))

pub loop-context-preserved : goal.loop-context-preserved
loop-context-preserved c =
    let passed = c.first_ready-found.ensures.none (none_of c.first_ready-found.result c.is_some.result c.is_some.ensures c.if-is_some.false) in
    record {
      rest = passes_rest c.as_slice.result.now (plain_of c.loop-context.world) (plain_of c.first_ready-found.new.world) c.loop-context.invariant.rest passed;
      passes = context_passes c.args.contexts.now c.loop-context.context-index c.context-item.result (plain_of c.args.world.now) (plain_of c.loop-context.world) (item_at _ _ _ c.loop-context-test.true c.context-item.is) c.loop-context.invariant.passes
          (plain_of c.first_ready-found.new.world)
          (subst (λ (l : List ℕ). Passes l (plain_of c.loop-context.world) (plain_of c.first_ready-found.new.world)) c.as_slice.ensures passed);
    }
