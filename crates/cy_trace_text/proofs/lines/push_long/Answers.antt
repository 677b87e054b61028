use Rattle.std.proofs.Common.{◌∙◌, ap, sym, List, ℕ, ◌++◌, codes, append_assoc}
use Rattle.cy_trace_text.specs.declared.start.LineStart.{LineStart}
use Rattle.cy_trace_text.proofs.Gathered.{line_added}
use Rattle.cy_trace_text.proofs.lines.push_long.Goals as goal

pub loop-token-preserved : goal.loop-token-preserved
loop-token-preserved c =
    let l = c.loop-token in
    let mid = c.extend_from_slice.new.self.items in
    let word = c.as_slice.ensures ∙ sym (ap (λ (s : LineStart). s.text) c.index-starts-token.is) in
    let ended = c.in_ok-extend_from_slice-2.ensures.items ∙ ap (λ (t : List ℕ). mid ++ t) c.put_end-end.ensures.text ∙ sym (append_assoc mid _ (codes "\n")) in
    line_added c.args.starts.now c.args.tape.now l.token-index _ c.index-starts-token.result c.as_slice.result.now l.to.items mid c.extend_from_slice-in-loop-token.new.self.items c.args.to.now.items c.loop-token-test.true c.requires c.index-starts-token.is word l.invariant c.in_ok-extend_from_slice.ensures.items ended
