use Rattle.std.proofs.Common.{◌+◌, ap, refl, arith, List}
use Rattle.cy_comp.specs.declared.call.Call.{Call}
use Rattle.std.proofs.lemmas.List.{take_all}
use Rattle.cy_trace_text.specs.TraceText.{call_lines}
use Rattle.cy_trace_text.proofs.Parting.{outs_part, rest_part, some_part, before_few, calls_part, adds-none, adds-as}
use Rattle.cy_trace_text.proofs.parts.push_call_parts.Goals as goal

pub overflow_add-before : goal.overflow_add-before
overflow_add-before c =
    let l = c.loop-left in
    let calls : List Call = c.args.calls in
    let n = c.min-count.result in
    let some = some_part l.from n calls l.rest c.split_at-some.result.0 l.invariant.rest c.split_at-some.ensures.first in
    let all = outs_part l.from n l.before c.outputs-before.result calls c.split_at-some.result.0 l.invariant.before some c.outputs-before.ensures.count in
    let few = before_few (l.from + n) (l.before + c.outputs-before.result) calls all (omega (arith, l.invariant.left, c.min-count.ensures)) in
    omega (arith, few, l.invariant.left, c.min-count.ensures, c.len-left.ensures, c.len-left.type_inv)

pub loop-left-init : goal.loop-left-init
loop-left-init c = record {
  left = omega (arith, c.len-left.ensures);
  rest = refl;
  before = refl;
  adds = λ names plans shadowed w known its. adds-none c.args.parts.now.items;
}

pub loop-left-preserved : goal.loop-left-preserved
loop-left-preserved c =
    let l = c.loop-left in
    let calls : List Call = c.args.calls in
    let n = c.min-count.result in
    let some = some_part l.from n calls l.rest c.split_at-some.result.0 l.invariant.rest c.split_at-some.ensures.first in
    record {
      left = omega (arith, l.invariant.left, c.min-count.ensures);
      rest = rest_part l.from n calls l.rest c.split_at-some.result.1 l.invariant.rest c.split_at-some.ensures.others;
      before = outs_part l.from n l.before c.outputs-before.result calls c.split_at-some.result.0 l.invariant.before some c.outputs-before.ensures.count;
      adds = λ names plans shadowed w known its. calls_part c.args.component l.from n l.before calls c.args.parts.now.items l.parts.items _ its known (omega (arith, l.invariant.left, c.min-count.ensures)) l.invariant.before
          (omega (arith, before_few l.from l.before calls l.invariant.before (omega (arith, l.invariant.left)), l.invariant.left, c.min-count.ensures, c.len-left.ensures, c.len-left.type_inv))
          c.in_ok-push.ensures.items (l.invariant.adds names plans shadowed w known its);
    }

pub returns : goal.returns
returns c = λ names plans shadowed w known its.
    let l = c.loop-left in
    adds-as c.args.parts.now.items l.parts.items _ _ (ap (call_lines 0) (take_all l.from c.args.calls (omega (arith, l.invariant.left, c.loop-left-test.false)))) (l.invariant.adds names plans shadowed w known its)
