use Rattle.std.proofs.Common.{◌≡◌, ◌+◌, refl, arith, ap, sym, ◌∙◌}
use Rattle.cy_config.specs.private.Tallies.{times_of}
use Rattle.std.specs.List.{position}
use Rattle.std.proofs.lemmas.List.{get_or_default}
use Rattle.std.proofs.lemmas.List.Quantifiers.{position-Some}
use Rattle.cy_config.proofs.TallySteps.{is_name, times_at, times_none, not_met, counts_met, counts_new}
use Rattle.cy_config.proofs.tally.Tally.next.Goals as goal

pub overflow_add-times : goal.overflow_add-times
overflow_add-times c =
    let met = c.args.self.now.met.items in
    let name = c.args.name.now in
    let i = c.in-Some.place in
    let d = c.index.result.now in
    let at = position-Some (is_name name) met i d (ap (position (is_name name)) (sym c.as_slice.ensures.value) ∙ sym c.in-Some.ensures) in
    let same = times_at met name i d at.0 at.1 at.2 in
    let room = c.requires in
    let here : d.times ≡ times_of met name = ap (λ m. m.times) c.index.ensures ∙ sym same in
    omega (arith, room, here)

pub returns-in-Some-clause-before : goal.returns-in-Some-clause-before
returns-in-Some-clause-before c =
    let met = c.args.self.now.met.items in
    let name = c.args.name.now in
    let i = c.in-Some.place in
    let d = c.index.result.now in
    let at = position-Some (is_name name) met i d (ap (position (is_name name)) (sym c.as_slice.ensures.value) ∙ sym c.in-Some.ensures) in
    ap (λ m. m.times) c.index.ensures ∙ sym (times_at met name i d at.0 at.1 at.2)

pub returns-in-Some-clause-counted : goal.returns-in-Some-clause-counted
returns-in-Some-clause-counted c =
    let met = c.args.self.now.met.items in
    let name = c.args.name.now in
    let i = c.in-Some.place in
    let d = c.index_mut.result.now in
    let at = position-Some (is_name name) met i d (ap (position (is_name name)) (sym c.as_slice.ensures.value) ∙ sym c.in-Some.ensures) in
    λ other. counts_met met name other i d _ at.0 at.1 at.2 (ap (λ m. m.name.now) c.index_mut.ensures.value)
    (ap (λ m. m.times + 1) (c.index.ensures ∙ get_or_default met i c.index.result.now d at.0))

pub returns-in_ok-push-in-None-clause-before : goal.returns-in_ok-push-in-None-clause-before
returns-in_ok-push-in-None-clause-before c =
    let met = c.args.self.now.met.items in
    let name = c.args.name.now in
    sym (times_none met name (not_met met name c.place_of.result c.in-None.is (c.place_of.ensures ∙ ap (position (is_name name)) c.as_slice.ensures.value)))

pub returns-in_ok-push-in-None-clause-counted : goal.returns-in_ok-push-in-None-clause-counted
returns-in_ok-push-in-None-clause-counted c =
    let met = c.args.self.now.met.items in
    let name = c.args.name.now in
    let absent = not_met met name c.place_of.result c.in-None.is (c.place_of.ensures ∙ ap (position (is_name name)) c.as_slice.ensures.value) in
    λ other. ap (λ xs. times_of xs other) c.in_ok-push-in-None.ensures.items ∙ counts_new met name other _ absent refl refl
