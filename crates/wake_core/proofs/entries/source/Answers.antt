use Rattle.std.proofs.Common.{◌==◌, ◌∙◌, sym, ap, List, ℕ, slice_index, position, subst, length, ◌<◌}
use Rattle.cy_comp.specs.declared.plan.Plan.{Plan}
use Rattle.wake_core.proofs.Counting.{source_itself, source_read, writer_at, reader_known}
use Rattle.wake_core.proofs.entries.source.Goals as goal

pub returns-in-Some-clause-source : goal.returns-in-Some-clause-source
returns-in-Some-clause-source c =
    let plans = c.args.wiring.now.plans in
    let at = ap (λ (ps : List Plan). position (λ (p : Plan). p.out == c.args.channel) ps) (sym c.as_slice-plans.ensures) ∙ sym c.writer.ensures ∙ c.in-Some.is in
    let is = writer_at plans c.as_slice-plans.result.now c.args.channel c.in-Some.component c.index-plans-component.result c.as_slice-plans.ensures at c.index-plans-component.is in
    ap (λ (rs : List ℕ). slice_index rs 0) (c.as_slice.ensures ∙ ap (λ (p : Plan). p.readers) (sym c.index-plans-component.is)) ∙ source_read c.args.wiring.now.names plans c.args.wiring.now.lawful c.args.channel c.in-Some.component c.index-plans-component.result at is

pub returns-in-Some-clause-known : goal.returns-in-Some-clause-known
returns-in-Some-clause-known c =
    let plans = c.args.wiring.now.plans in
    let at = ap (λ (ps : List Plan). position (λ (p : Plan). p.out == c.args.channel) ps) (sym c.as_slice-plans.ensures) ∙ sym c.writer.ensures ∙ c.in-Some.is in
    let is = writer_at plans c.as_slice-plans.result.now c.args.channel c.in-Some.component c.index-plans-component.result c.as_slice-plans.ensures at c.index-plans-component.is in
    subst (λ (rs : List ℕ). slice_index rs 0 < length c.args.wiring.now.names) (sym (c.as_slice.ensures ∙ ap (λ (p : Plan). p.readers) (sym c.index-plans-component.is))) (reader_known c.args.wiring.now.names plans c.args.wiring.now.lawful c.in-Some.component c.index-plans-component.result is)

pub returns-in-None-clause-source : goal.returns-in-None-clause-source
returns-in-None-clause-source c =
    source_itself c.args.wiring.now.plans c.args.channel (ap (λ (ps : List Plan). position (λ (p : Plan). p.out == c.args.channel) ps) (sym c.as_slice-plans.ensures) ∙ sym c.writer.ensures ∙ c.in-None.is)
