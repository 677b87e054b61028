use Rattle.std.proofs.Common.{◌∙◌, sym, ap, length, subst, List, ℕ}
use Rattle.wake_core.specs.Run.{Route, routes_of}
use Rattle.wake_core.specs.Fields.{IsFixed, IsWithin}
use Rattle.wake_core.specs.private.Shown.{IsTable, HaveFew}
use Rattle.wake_core.proofs.Tabled.{fixed_wiring, few_of}
use Rattle.wake_core.proofs.fixed.Fixed.new.Goals as goal

pub table_of-requires : goal.table_of-requires
table_of-requires c =
    let plans = c.args.wiring.now.plans in
    let is = c.as_slice-2.ensures.value ∙ c.in_ok-routes.ensures.routes ∙ ap routes_of c.as_slice.ensures in
    subst HaveFew (sym is) (few_of (routes_of plans) c.args.counts.now (fixed_wiring c.args.wiring.now.names plans c.args.counts.now c.args.wiring.now.lawful c.requires.counts c.requires.limited))

pub invariant_of-result : goal.invariant_of-result
invariant_of-result c =
    let plans = c.args.wiring.now.plans in
    let is = c.in_ok-routes.ensures.routes ∙ ap routes_of c.as_slice.ensures in
    let counts = c.in_ok-from_slice.ensures.items in
    record {
      within = subst (λ (rs : List Route). IsWithin rs c.in_ok-from_slice.field-0.items c.args.stop) (sym is) (subst (λ (ns : List ℕ). IsWithin (routes_of plans) ns c.args.stop) (sym counts) c.requires.within);
      lawful = subst (λ (rs : List Route). IsFixed rs c.in_ok-from_slice.field-0.items) (sym is)
          (subst (λ (ns : List ℕ). IsFixed (routes_of plans) ns) (sym counts) (fixed_wiring c.args.wiring.now.names plans c.args.counts.now c.args.wiring.now.lawful c.requires.counts c.requires.limited));
      table = subst (λ n. IsTable c.in_ok-routes.routes.items n c.in_ok-readers.readers.items) (c.count.ensures.count ∙ sym c.requires.counts ∙ ap length (sym counts))
          (subst (λ (rs : List Route). IsTable rs c.count.result c.in_ok-readers.readers.items) c.as_slice-2.ensures.value c.in_ok-readers.ensures.table);
    }
