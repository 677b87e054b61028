use Rattle.std.proofs.Common.{◌++◌, ◌+◌, ◌∷◌, [], ◌≡◌, ◌∙◌, List, ap, sym, refl, arith, length, append-nil, length-append}
use Rattle.cy_comp.specs.declared.call.Call.{Call}
use Rattle.cy_trace_text.specs.TraceText.{call_lines}
use Rattle.cy_trace_text.proofs.Gathered.{outs_few, calls_added, calls_parted, first_count}
use Rattle.cy_trace_text.proofs.lines.push_call_lines.Goals as goal

pub put_calls-end-requires-clause-countable : goal.put_calls-end-requires-clause-countable
put_calls-end-requires-clause-countable c =
    let l = c.loop-left in
    let few = first_count c.min-count.result l.rest c.split_at-some.result.0 c.split_at-some.ensures.first (omega (arith, c.min-count.ensures, l.invariant.left)) in
    omega (arith, few, c.min-count.ensures, l.invariant.left, l.invariant.few, c.requires)

pub put_calls-end-requires-clause-room : goal.put_calls-end-requires-clause-room
put_calls-end-requires-clause-room c =
    let l = c.loop-left in
    let few = first_count c.min-count.result l.rest c.split_at-some.result.0 c.split_at-some.ensures.first (omega (arith, c.min-count.ensures, l.invariant.left)) in
    omega (arith, few, c.min-count.ensures)

pub loop-left-preserved : goal.loop-left-preserved
loop-left-preserved c =
    let l = c.loop-left in
    let n = c.min-count.result in
    let some : List Call = c.split_at-some.result.0 in
    let others : List Call = c.split_at-some.result.1 in
    let put = c.put_calls-end in
    let whole = c.args.to.now.items ++ call_lines c.args.before c.args.calls in
    let parts = calls_parted n l.rest some others c.split_at-some.ensures.first c.split_at-some.ensures.others in
    let few = first_count n l.rest some c.split_at-some.ensures.first (omega (arith, c.min-count.ensures, l.invariant.left)) in
    let all : length l.rest ≡ length some + length others = ap length parts ∙ length-append some others in
    record {
      left = omega (arith, all, few, l.invariant.left);
      few = omega (arith, all, outs_few l.before some, put.ensures.after, l.invariant.few);
      text = calls_added l.before put.result.1 l.rest some others l.to.items c.extend_from_slice.new.self.items _ whole parts put.ensures.after c.in_ok-extend_from_slice.ensures.items put.ensures.text l.invariant.text;
    }

nothing : (rest : List Call) → length rest ≡ 0 → rest ≡ []
nothing [] e = refl
nothing (x ∷ rest) e = absurd (omega (arith, e))

pub returns : goal.returns
returns c =
    let l = c.loop-left in
    sym (append-nil l.to.items) ∙ ap (λ r. l.to.items ++ call_lines l.before r) (sym (nothing l.rest (omega (arith, l.invariant.left, c.loop-left-test.false)))) ∙ l.invariant.text
