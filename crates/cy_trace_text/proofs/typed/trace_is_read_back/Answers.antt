use Rattle.std.proofs.Common.{◌≡◌, ℕ, List, Some, slice_get, subst, arith}
use Rattle.std.specs.Str.{IsUtf8}
use Rattle.cy_msg.specs.declared.token.Token.{Token}
use Rattle.cy_comp.specs.declared.plan.Plan.{Plan}
use Rattle.wake_core.specs.WorldOf.{plain_of}
use Rattle.cy_trace_text.specs.Laws.{Suits}
use Rattle.cy_trace.specs.TraceForm.{IsShort}
use Rattle.cy_trace_text.proofs.StepSuits.{GivenSuit}
use Rattle.cy_trace_text.proofs.TextRead.{text_is_read}
use Rattle.cy_trace_text.proofs.typed.trace_is_read_back.Goals as goal

pub returns : goal.returns
returns c =
    let wiring = c.args.wiring.now in
    let named = subst (λ (ps : List Plan). (n : ℕ) (p : Plan) → slice_get ps n ≡ Some p → IsUtf8 p.name) c.as_slice.ensures c.components_have_texts.ensures in
    let given = subst (λ (ps : List Plan). (n : ℕ) (p : Plan) → slice_get ps n ≡ Some p → GivenSuit p.kind) c.as_slice-2.ensures c.classes_suit.ensures in
    let suit = subst (λ (ts : List Token). (n : ℕ) (t : Token) → slice_get ts n ≡ Some t → Suits t) c.tape_list.ensures.tape c.messages_suit.ensures in
    let short : IsShort c.args.shadowed = omega (arith, c.ranges.shadowed.fits) in
    text_is_read wiring.names wiring.plans c.args.shadowed (plain_of c.args.world.now) wiring.lawful c.requires.routes c.requires.channels c.names_are_texts.ensures named given suit short c.sound.ensures.sound
    c.runs_are_read_back.ensures.fit c.runs_are_traces.ensures
