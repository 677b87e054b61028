use Rattle.std.proofs.Common.{◌+◌, ◌-◌, ◌<◌, ◌≡◌, ◌∙◌, sym, ap, length, slice_index, arith}
use Rattle.std.proofs.lemmas.List.{length-map}
use Rattle.wake_core.specs.Run.{route_of, routes_of}
use Rattle.wake_core.specs.Planned.{planned_count, source_after}
use Rattle.wake_core.proofs.Counting.{source_again}
use Rattle.wake_core.proofs.entries.planned_on.Goals as goal

pub loop-preserved : goal.loop-preserved
loop-preserved c =
    let routes = routes_of c.args.wiring.now.plans in
    let end = length c.as_slice-end.result.now in
    let before : c.loop.counter < end = omega (arith, c.loop-test.true) in
    record {
      known = c.source-from.ensures.known;
      ends = c.loop.invariant.ends;
      after = ap (source_after routes (end - (c.loop.counter + 1))) c.source-from.ensures.source ∙ sym (source_again routes c.loop.from c.loop.counter end before) ∙ c.loop.invariant.after;
    }

pub returns : goal.returns
unfolding planned_count
returns c =
    let plans = c.args.wiring.now.plans in
    let none : length c.as_slice-end.result.now - c.loop.counter ≡ 0 = omega (arith, c.loop-test.false, c.loop.auto.counter-end) in
    ap (slice_index c.args.counts.now) (ap (λ n. source_after (routes_of plans) n c.loop.from) (sym none) ∙ c.loop.invariant.after
    ∙ ap (λ n. source_after (routes_of plans) n c.args.channel) (sym (length-map plans route_of)))
