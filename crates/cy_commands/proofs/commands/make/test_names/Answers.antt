use Rattle.std.proofs.Common.{Bor, List, ℕ, ◌∙◌, ap, map}
use Rattle.cy_store.specs.Store.{StoreView}
use Rattle.cy_commands.proofs.OwnNames.{own_said}
use Rattle.cy_commands.proofs.commands.make.test_names.Goals as goal

pub returns-in-Err-clause-tested : goal.returns-in-Err-clause-tested
returns-in-Err-clause-tested g c =
    own_said c.args.prefix.now c.args.names.now c.loop-name.name-index _ (g.S.Store.shows c.args.store.now).files _ _ _ c.in-Err.error (ap (λ (v : StoreView). v.files) c.loop-name.invariant.same) (c.as_str.ensures.value ∙ c.name-item.is) c.requires c.loop-name-test.true
    (ap (map (λ (o : Bor (List ℕ)). o.now)) c.as_slice.ensures.value ∙ c.loop-name.invariant.others) c.in-Err.ensures.apart
