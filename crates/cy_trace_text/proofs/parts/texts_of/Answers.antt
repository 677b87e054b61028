use Rattle.std.proofs.Common.{ap, ◌≡◌, ◌∙◌, subst}
use Rattle.std.specs.Prelude.{IfOk}
use Rattle.std.specs.List.{AllZip}
use Rattle.rayon.proofs.ListFacts.{IfOk-then}
use Rattle.rayon.proofs.ToStd.{slice-AllZip}
use Rattle.wake_core.specs.Rest.{run_shown}
use Rattle.wake_core.specs.WorldOf.{plain_of}
use Rattle.cy_trace_text.specs.Parts.{part_text}
use Rattle.cy_trace_text.proofs.parts.texts_of.Goals as goal

pub returns : goal.returns
returns g c =
    let slice = ap (λ it. it.base.slice.now) c.map.ensures.base ∙ ap (λ it. it.slice.now) c.with_min_len.ensures.base ∙ c.par_iter.ensures in
    IfOk-then c.collect.result _ _ c.collect.ensures (λ v h.
    let chain = h.1 in
    let made : AllZip (λ p t. IfOk t (λ text. text ≡ part_text c.map.result.f.2.now.names c.map.result.f.2.now.plans c.map.result.f.3.now (run_shown (plain_of c.map.result.f.1.now)) p)) c.args.parts.now h.0 =
    slice-AllZip chain.0 c.args.parts.now (chain.1 ∙ slice)
    (λ p t. IfOk t (λ text. text ≡ part_text c.map.result.f.2.now.names c.map.result.f.2.now.plans c.map.result.f.3.now (run_shown (plain_of c.map.result.f.1.now)) p)) h.0 chain.2 in
    rw h.2 (subst (λ f. AllZip (λ p t. IfOk t (λ text. text ≡ part_text f.2.now.names f.2.now.plans f.3.now (run_shown (plain_of f.1.now)) p)) c.args.parts.now h.0) c.map.ensures.f made))
