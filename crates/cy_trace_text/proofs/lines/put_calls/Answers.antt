use Rattle.std.proofs.Common.{ap, length, arith, append-nil, sym, ◌∙◌, ◌++◌, take}
use Rattle.cy_trace_text.specs.TraceText.{call_lines}
use Rattle.cy_trace_text.specs.private.OutsAfter.{outs_after}
use Rattle.cy_trace_text.proofs.Gathered.{outs_next, line_next}
use Rattle.cy_trace_text.proofs.Summaries.{line_told, outs_told}
use Rattle.cy_trace_text.proofs.lines.put_calls.Goals as goal

pub put_call-at-requires-clause-countable : goal.put_call-at-requires-clause-countable
put_call-at-requires-clause-countable c = omega (arith, ap length c.in-Some.ensures.steps.1, c.loop-call.invariant.few, c.requires.countable)

pub put_call-at-requires-clause-room : goal.put_call-at-requires-clause-room
put_call-at-requires-clause-room c = omega (arith, ap length c.in-Some.ensures.steps.1, c.loop-call.invariant.room, c.requires.room)

pub overflow_add-after : goal.overflow_add-after
overflow_add-after c = omega (arith, ap length c.in-Some.ensures.steps.1, c.loop-call.invariant.few, c.requires.countable, c.outs_of-after.ensures.few)

pub loop-call-preserved : goal.loop-call-preserved
loop-call-preserved c =
    let l = c.loop-call in
    let first = c.in-Some.ensures.steps in
    let count = outs_told _ first.0 c.in-Some.call first.2 c.outs_of-after.ensures.count in
    let text = c.put_call-at.ensures.text ∙ ap (λ t. take l.at l.page ++ t) (line_told l.after first.0 c.in-Some.call first.2) in
    record {
      room = omega (arith, ap length first.1, l.invariant.room, c.put_call-at.ensures.end);
      few = omega (arith, ap length first.1, l.invariant.few, c.outs_of-after.ensures.few);
      count = outs_next l.after _ l.rest _ first.0 _ first.1 count l.invariant.count;
      text = line_next l.after _ l.rest _ first.0 (take l.at l.page) _ _ first.1 count text l.invariant.text;
    }

pub returns-clause-text : goal.returns-clause-text
returns-clause-text c =
    let l = c.loop-call in
    sym (append-nil (take l.at l.page)) ∙ ap (λ r. take l.at l.page ++ call_lines l.after r) (sym c.in_default.ensures.steps.0) ∙ l.invariant.text

pub returns-clause-end : goal.returns-clause-end
returns-clause-end c = omega (arith, c.loop-call.invariant.room, c.requires.room)

pub returns-clause-after : goal.returns-clause-after
returns-clause-after c =
    let l = c.loop-call in
    ap (outs_after l.after) (sym c.in_default.ensures.steps.0) ∙ l.invariant.count
