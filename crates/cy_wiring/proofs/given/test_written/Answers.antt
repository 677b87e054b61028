use Rattle.std.proofs.Common.{ℕ, option_map, ap}
use Rattle.cy_wiring.specs.Given.{written, written_refusal}
use Rattle.cy_wiring.specs.private.Pairs.{pair_of}
use Rattle.cy_dag.specs.declared.error.DagError.TheVariants.{ValueWritten}
use Rattle.cy_wiring.proofs.GivenSteps.{maker_is}
use Rattle.cy_dag.proofs.LoopSteps.{accepted_more, refused_here}
use Rattle.cy_wiring.proofs.given.test_written.Goals as goal

pub returns-in-Some-clause-refused : goal.returns-in-Some-clause-refused
unfolding written_refusal
returns-in-Some-clause-refused c =
    let cs = c.args.components.now in
    let configs = c.args.configs.now in
    let item = c.value-item.result in
    let made = maker_is cs configs c.as_str.result.now item.value.now.channel c.maker_of.result _ c.maker_of.ensures c.as_str.ensures.value c.in-Some.is in
    refused_here pair_of (λ place. written cs configs) c.args.given.now c.loop-value.value-index item c.loop-value-test.true c.value-item.is (ValueWritten item.component c.in-Some.writer)
    c.loop-value.invariant (ap (option_map (λ (maker : ℕ). ValueWritten item.component maker)) made)

pub loop-value-preserved : goal.loop-value-preserved
loop-value-preserved c =
    let cs = c.args.components.now in
    let configs = c.args.configs.now in
    let item = c.value-item.result in
    let made = maker_is cs configs c.as_str.result.now item.value.now.channel c.maker_of.result _ c.maker_of.ensures c.as_str.ensures.value c.in_default.is in
    accepted_more pair_of (λ place. written cs configs) c.args.given.now c.loop-value.value-index item c.loop-value-test.true c.value-item.is
    c.loop-value.invariant (ap (option_map (λ (maker : ℕ). ValueWritten item.component maker)) made)
