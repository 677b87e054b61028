use Rattle.std.proofs.Common.{List, ℕ, option_map, sym, ap, ◌∙◌}
use Rattle.std.specs.Str.{bytes_eq}
use Rattle.cy_text.specs.Entries.{held_of}
use Rattle.cy_config.proofs.EntrySteps.{last_here, last_before}
use Rattle.cy_config.proofs.lookup.last_under.Goals as goal
use Rattle.cy_config.proofs.lookup.last_under.Goals.{then-eq, else-eq}

pub loop-entry-preserved : goal.loop-entry-preserved
loop-entry-preserved c =
    let name = c.args.name.now in
    let es = c.entries-entry-items.result.now in
    let k = c.loop-entry.entry-index in
    let e = c.entry-item.result in
    let compared = ap (λ (x : List ℕ). bytes_eq x name) (sym c.as_str.ensures.value) ∙ sym c.eq.ensures in
    elim c.if-eq.branch [
      | then-eq w ↦ record {
        last = ap (option_map (λ v. held_of v.now)) w.last-is ∙ sym (last_here name es k e c.loop-entry-test.true c.entry-item.is (compared ∙ w.if-eq.true));
        shown = c.loop-entry.invariant.shown;
      }
      | else-eq w ↦ record {
        last = ap (option_map (λ v. held_of v.now)) w.last-is ∙ c.loop-entry.invariant.last ∙ sym (last_before name es k e c.loop-entry-test.true c.entry-item.is (compared ∙ w.if-eq.false));
        shown = c.loop-entry.invariant.shown;
      }
    ]
