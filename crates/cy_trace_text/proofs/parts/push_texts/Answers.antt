use Rattle.std.proofs.Common.{ap, sym, subst, ◌∙◌, ◌++◌, ◌≡◌, get_or, flat_map, length, arith, List, ℕ}
use Rattle.std.specs.Prelude.{IfOk, Result, Ok}
use Rattle.std.specs.declared.alloc.AllocError.{AllocError}
use Rattle.std.proofs.lemmas.List.{take_all}
use Rattle.wake_core.specs.Rest.{run_shown}
use Rattle.wake_core.specs.WorldOf.{plain_of}
use Rattle.cy_trace_text.specs.declared.parts.Part.{Part}
use Rattle.cy_trace_text.specs.declared.parts.Part.TheVariants.{Head}
use Rattle.cy_trace_text.specs.Parts.{part_text}
use Rattle.cy_trace_text.proofs.Parting.{zip_at, zip_long, text_added}
use Rattle.cy_trace_text.proofs.parts.push_texts.Goals as goal

pub loop-text-preserved : goal.loop-text-preserved
loop-text-preserved g c =
    let l = c.loop-text in
    let n = l.text-index in
    let f = part_text c.args.wiring.now.names c.args.wiring.now.plans c.args.shadowed (run_shown (plain_of c.args.world.now)) in
    let texts : List (Result (List ℕ) AllocError) = c.in_ok-texts.texts.items in
    let item : Result (List ℕ) AllocError = c.text-item.result in
    let part = get_or c.args.parts.now n Head in
    let at = zip_at (λ p t. IfOk t (λ text. text ≡ f p)) c.args.parts.now texts n Head item c.in_ok-texts.ensures (omega (arith, c.loop-text-test.true, ap length c.as_slice-text-items.ensures.value)) in
    let same : get_or texts n item ≡ Ok c.in-Ok.text = ap (λ (ts : List (Result (List ℕ) AllocError)). get_or ts n item) (sym c.as_slice-text-items.ensures.value) ∙ sym c.text-item.is ∙ c.in-Ok.is in
    let text : c.in-Ok.text ≡ f part = subst (λ t. IfOk t (λ text. text ≡ f part)) same at.1 in
    text_added f c.args.parts.now n Head l.to.items c.args.to.now.items _ at.0 l.invariant
    (c.in_ok-extend_from_slice-in-Ok.ensures.items ∙ ap (λ b. l.to.items ++ b) (c.as_slice.ensures ∙ text))

pub returns-clause-text : goal.returns-clause-text
returns-clause-text g c =
    let l = c.loop-text in
    let f = part_text c.args.wiring.now.names c.args.wiring.now.plans c.args.shadowed (run_shown (plain_of c.args.world.now)) in
    let many = zip_long (λ p t. IfOk t (λ text. text ≡ f p)) c.args.parts.now c.in_ok-texts.texts.items c.in_ok-texts.ensures in
    l.invariant ∙ ap (λ (ps : List Part). c.args.to.now.items ++ flat_map f ps) (take_all l.text-index c.args.parts.now (omega (arith, many, c.loop-text-test.false)))
