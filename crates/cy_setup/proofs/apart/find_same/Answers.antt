use Rattle.std.proofs.Common.{Bor, List, ℕ, ap, ◌∙◌}
use Rattle.std.specs.Str.{bytes_eq}
use Rattle.cy_store.specs.Store.{StoreView}
use Rattle.cy_setup.proofs.FirstFound.{told_found, told_none}
use Rattle.cy_setup.proofs.apart.find_same.Goals as goal

pub returns-then-same-clause-told : goal.returns-then-same-clause-told
returns-then-same-clause-told g c =
    told_found (bytes_eq c.args.name.now) (λ (o : Bor (List ℕ)). o.now) (g.S.Store.shows c.args.store.now).files _ (ap (λ (v : StoreView). v.files) c.loop-other.invariant.same) c.args.others.now c.loop-other.other-index _ c.same.result
    c.loop-other-test.true c.loop-other.invariant.none c.same.ensures.told c.if-same.true

pub loop-other-preserved : goal.loop-other-preserved
loop-other-preserved g c = record {
  same = c.same.ensures.same ∙ c.loop-other.invariant.same;
  none = told_none (bytes_eq c.args.name.now) (λ (o : Bor (List ℕ)). o.now) (g.S.Store.shows c.args.store.now).files _ (ap (λ (v : StoreView). v.files) c.loop-other.invariant.same) c.args.others.now c.loop-other.other-index _ c.same.result
      c.loop-other-test.true c.loop-other.invariant.none c.same.ensures.told c.if-same.false;
}
