use Rattle.std.proofs.Common.{◌<◌, ◌++◌, length, flat_map}
use Rattle.std.proofs.lemmas.List.Elements.{All-same, All-drop}
use Rattle.cy_trace_text.specs.private.TapeLines.{started_line}
use Rattle.cy_trace_text.proofs.Gathered.{lines_added}
use Rattle.cy_trace_text.proofs.Starts.{texts_of}
use Rattle.cy_trace_text.proofs.lines.push_short.Goals as goal

pub loop-rest-preserved : goal.loop-rest-preserved
loop-rest-preserved c =
    let l = c.loop-rest in
    let starts = c.args.starts.now in
    let whole = c.args.to.now.items ++ flat_map (started_line (texts_of starts)) c.args.tape.now in
    record {
      known = All-same (λ t. t.channel < length starts) c.split_at.result.1.now _ c.split_at.ensures.back (All-drop (λ t. t.channel < length starts) _ l.rest.now l.invariant.known);
      text = lines_added (texts_of starts) l.rest.now c.split_at.result.0.now c.split_at.result.1.now l.to.items c.extend_from_slice.new.self.items _ whole c.split_at.ensures.by_index.0 c.in_ok-extend_from_slice.ensures.items c.put_tape-end.ensures.text l.invariant.text;
    }
