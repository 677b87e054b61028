use Rattle.std.proofs.Common.{List, ℕ, Bor, ◌≡◌, ◌∷◌, [], ◌++◌, map, take, refl, sym, ap, ◌∙◌}
use Rattle.std.specs.Str.{bytes_eq}
use Rattle.cy_text.specs.Entries.{fields_of}
use Rattle.cy_config.specs.Lookups.{messages_under}
use Rattle.cy_config.proofs.Sizes.{messages_size}
use Rattle.std.proofs.lemmas.List.{map-append, take_all}
use Rattle.cy_text.specs.Fields.{Fields}
use Rattle.cy_config.proofs.EntrySteps.{messages_here, messages_none, messages_before}
use Rattle.cy_config.proofs.lookup.messages_under.Goals as goal
use Rattle.cy_config.proofs.lookup.messages_under.Goals.{then-eq+in-Some+in_ok-push, then-eq+in_default, else-eq}

-- one message more is found
pushed : (xs : List (Bor Fields)) (x : Bor Fields) (ys zs : List Fields) → map (λ m. m.now) xs ≡ ys → zs ≡ ys ++ x.now ∷ [] → map (λ m. m.now) (xs ++ x ∷ []) ≡ zs
pushed xs x ys zs before more = rw (map-append, before, more) refl

pub loop-entry-preserved : goal.loop-entry-preserved
loop-entry-preserved c =
    let name = c.args.name.now in
    let es = c.entries-entry-items.result.now in
    let k = c.loop-entry.entry-index in
    let e = c.entry-item.result in
    let there = c.loop-entry-test.true in
    let compared = ap (λ (x : List ℕ). bytes_eq x name) (sym c.as_str.ensures.value) ∙ sym c.eq.ensures in
    let before = c.loop-entry.invariant.found in
    elim c.if-eq.branch [
      | then-eq+in-Some+in_ok-push w ↦ record {
        found = ap (λ v. map (λ m. m.now) v.items) w.found-is ∙ (rw w.in_ok-push.ensures.items
            (pushed c.loop-entry.found.items w.in-Some.fields _ _ before (messages_here name es k e w.in-Some.fields.now there c.entry-item.is (compared ∙ w.if-eq.true) (sym w.in-Some.ensures))));
        shown = c.loop-entry.invariant.shown;
      }
      | then-eq+in_default w ↦ record {
        found = ap (λ v. map (λ m. m.now) v.items) w.found-is ∙ before ∙ sym (messages_none name es k e there c.entry-item.is (compared ∙ w.if-eq.true) (sym w.in_default.ensures));
        shown = c.loop-entry.invariant.shown;
      }
      | else-eq w ↦ record {
        found = ap (λ v. map (λ m. m.now) v.items) w.found-is ∙ before ∙ sym (messages_before name es k e there c.entry-item.is (compared ∙ w.if-eq.false));
        shown = c.loop-entry.invariant.shown;
      }
    ]

pub returns-clause-size : goal.returns-clause-size
returns-clause-size c =
    let all : fields_of (take c.loop-entry.entry-index c.entries-entry-items.result.now) ≡ c.args.tree.now =
    ap fields_of (take_all c.loop-entry.entry-index c.entries-entry-items.result.now c.loop-entry-test.false) ∙ c.loop-entry.invariant.shown in
    messages_size c.loop-entry.found.items c.args.name.now c.args.tree.now (c.loop-entry.invariant.found ∙ ap (messages_under c.args.name.now) all)
