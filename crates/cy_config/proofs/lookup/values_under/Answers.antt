use Rattle.std.proofs.Common.{List, ℕ, Bor, ◌≡◌, ◌∷◌, [], ◌++◌, map, take, refl, sym, ap, ◌∙◌}
use Rattle.std.specs.Str.{bytes_eq}
use Rattle.std.proofs.lemmas.List.{map-append, take_all}
use Rattle.cy_text.specs.Entries.{fields_of, held_of}
use Rattle.cy_text.specs.Fields.{Held}
use Rattle.cy_text.specs.declared.tree.Value.{Value}
use Rattle.cy_config.specs.Lookups.{all_under}
use Rattle.cy_config.proofs.EntrySteps.{all_here, all_before}
use Rattle.cy_config.proofs.lookup.values_under.Goals as goal
use Rattle.cy_config.proofs.lookup.values_under.Goals.{then-eq+in_ok-push, else-eq}

-- One value more is found.
pushed : (xs : List (Bor Value)) (x : Bor Value) (ys zs : List Held) → map (λ v. held_of v.now) xs ≡ ys → zs ≡ ys ++ held_of x.now ∷ [] → map (λ v. held_of v.now) (xs ++ x ∷ []) ≡ zs
pushed xs x ys zs before more = rw (map-append, before, more) refl

pub loop-entry-preserved : goal.loop-entry-preserved
loop-entry-preserved c =
    let name = c.args.name.now in
    let es = c.entries-entry-items.result.now in
    let k = c.loop-entry.entry-index in
    let e = c.entry-item.result in
    let there = c.loop-entry-test.true in
    let compared = ap (λ (x : List ℕ). bytes_eq x name) (sym c.as_str.ensures.value) ∙ sym c.eq.ensures in
    elim c.if-eq.branch [
      | then-eq+in_ok-push w ↦ record {
        found = ap (λ v. map (λ m. held_of m.now) v.items) w.found-is ∙ (rw w.in_ok-push.ensures.items
            (pushed c.loop-entry.found.items _ _ _ c.loop-entry.invariant.found (all_here name es k e there c.entry-item.is (compared ∙ w.if-eq.true))));
        shown = c.loop-entry.invariant.shown;
      }
      | else-eq w ↦ record {
        found = ap (λ v. map (λ m. held_of m.now) v.items) w.found-is ∙ c.loop-entry.invariant.found ∙ sym (all_before name es k e there c.entry-item.is (compared ∙ w.if-eq.false));
        shown = c.loop-entry.invariant.shown;
      }
    ]

pub returns : goal.returns
returns c =
    let all : fields_of (take c.loop-entry.entry-index c.entries-entry-items.result.now) ≡ c.args.tree.now =
    ap fields_of (take_all c.loop-entry.entry-index c.entries-entry-items.result.now c.loop-entry-test.false) ∙ c.loop-entry.invariant.shown in
    c.loop-entry.invariant.found ∙ ap (all_under c.args.name.now) all
