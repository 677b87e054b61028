use Rattle.std.proofs.Common.{◌≡◌, ℕ, List, Some, slice_get, subst, arith}
use Rattle.std.specs.Str.{IsUtf8}
use Rattle.cy_comp.specs.declared.plan.Plan.{Plan}
use Rattle.cy_trace.specs.TraceForm.{IsShort}
use Rattle.cy_trace_text.proofs.StepSuits.{GivenSuit}
use Rattle.cy_trace_text.proofs.TextRead.{traces_fit}
use Rattle.cy_trace_text.proofs.typed.traces_of_runs_fit.Goals as goal

pub returns : goal.returns
returns c =
    let wiring = c.args.wiring.now in
    let named = subst (λ (ps : List Plan). (n : ℕ) (p : Plan) → slice_get ps n ≡ Some p → IsUtf8 p.name) c.as_slice.ensures c.components_have_texts.ensures in
    let given = subst (λ (ps : List Plan). (n : ℕ) (p : Plan) → slice_get ps n ≡ Some p → GivenSuit p.kind) c.as_slice-2.ensures c.classes_suit.ensures in
    let short : IsShort c.args.shadowed = omega (arith, c.ranges.shadowed.fits) in
    traces_fit wiring.names wiring.plans c.args.shadowed c.args.messages.now wiring.lawful c.names_are_texts.ensures named given c.messages_suit.ensures short c.runs_are_read_back.ensures.fit
