use Rattle.std.proofs.Common.{ℕ, List, take, Some, ap, sym, ◌∙◌}
use Rattle.std.specs.List.{list_any}
use Rattle.std.specs.Str.{bytes_eq}
use Rattle.cy_dag.proofs.Repeats.{channel_step, found_where, later_where}
use Rattle.cy_dag.proofs.component.repeated_channel.Goals as goal

pub loop-place-preserved : goal.loop-place-preserved
loop-place-preserved c =
    let step = channel_step c.args.readers.now c.loop-place.place c.index-readers-place.result _ c.loop-place-test.true c.index-readers-place.is
    (c.reads.ensures ∙ ap (λ (n : List ℕ). list_any (λ e. bytes_eq e.channel n) (take c.loop-place.place c.args.readers.now)) c.as_str-channel.ensures.value) in
    c.loop-place.invariant ∙ step ∙ later_where _ _ _ c.if-reads.false

pub returns-then-reads : goal.returns-then-reads
returns-then-reads c =
    let step = channel_step c.args.readers.now c.loop-place.place c.index-readers-place.result _ c.loop-place-test.true c.index-readers-place.is
    (c.reads.ensures ∙ ap (λ (n : List ℕ). list_any (λ e. bytes_eq e.channel n) (take c.loop-place.place c.args.readers.now)) c.as_str-channel.ensures.value) in
    sym (c.loop-place.invariant ∙ step ∙ found_where _ _ _ c.if-reads.true ∙ ap (λ (x : List ℕ). Some x) (sym c.as_str-channel.ensures.value))
