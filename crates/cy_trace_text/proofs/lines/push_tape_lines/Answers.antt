use Rattle.std.proofs.Common.{◌∙◌, ap, List}
use Rattle.cy_trace_text.specs.declared.start.LineStart.{LineStart}
use Rattle.cy_trace_text.proofs.Starts.{texts_of, known_starts, lines_end, on_ok}
use Rattle.cy_trace_text.proofs.lines.push_tape_lines.Goals as goal

pub push_short-requires-clause-known : goal.push_short-requires-clause-known
push_short-requires-clause-known c =
    known_starts c.args.names.now c.args.tape.now _ (ap (λ (l : List LineStart). texts_of l) c.deref-then-are_short.ensures.value ∙ c.in_ok-starts.ensures) c.requires

pub returns-then-are_short : goal.returns-then-are_short
returns-then-are_short c =
    on_ok c.push_short.result _ _ (λ so. lines_end c.args.names.now c.args.tape.now (texts_of c.deref-then-are_short.result.now) c.args.to.now.items c.push_short.new.to.items (ap (λ (l : List LineStart). texts_of l) c.deref-then-are_short.ensures.value ∙ c.in_ok-starts.ensures) so c.requires) c.push_short.ensures

pub push_long-requires : goal.push_long-requires
push_long-requires c =
    known_starts c.args.names.now c.args.tape.now _ (ap (λ (l : List LineStart). texts_of l) c.deref-else-are_short.ensures.value ∙ c.in_ok-starts.ensures) c.requires

pub returns : goal.returns
returns c =
    on_ok c.push_long.result _ _ (λ so. lines_end c.args.names.now c.args.tape.now (texts_of c.deref-else-are_short.result.now) c.args.to.now.items c.push_long.new.to.items (ap (λ (l : List LineStart). texts_of l) c.deref-else-are_short.ensures.value ∙ c.in_ok-starts.ensures) so c.requires) c.push_long.ensures
