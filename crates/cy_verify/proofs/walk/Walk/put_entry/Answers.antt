use Rattle.std.proofs.Common.{◌≡◌, sym, ◌∙◌, ap, slice_get}
use Rattle.cy_trace.specs.declared.trace.TapeEntry.{TapeEntry}
use Rattle.wake_core.proofs.Cited.{writes_position}
use Rattle.cy_trace.specs.Tapes.{entry_of}
use Rattle.cy_verify.proofs.WalkLed.{known_channel, entry_named, writer_at}
use Rattle.cy_verify.proofs.Walked.{writer_out}
use Rattle.cy_verify.proofs.walk.Walk.put_entry.Goals as goal

pub put_output-requires-clause-named : goal.put_output-requires-clause-named
put_output-requires-clause-named c = λ p at. ap (slice_get c.args.wiring.now.names) (writer_out c.args.wiring.now.plans c.in-Some.channel c.in-Some-writer_of.writer (rw (← c.as_slice.ensures) (sym c.in-Some-writer_of.ensures)) p at) ∙ c.in-Some.ensures.found

pub returns-in-Some-writer_of-clause-leads : goal.returns-in-Some-writer_of-clause-leads
returns-in-Some-writer_of-clause-leads c = λ w token led next told.
    let named = entry_named c.args.wiring.now.names token (entry_of (c.args.name.now, c.args.message.seq)) (known_channel c.args.wiring.now c.args.list.now c.args.told.now c.args.self.now c.requires.may c.requires.walked w led token next) told in
    let same : c.in-Some.channel ≡ token.channel = c.requires.once c.in-Some.channel token.channel c.args.name.now c.in-Some.ensures.found named in
    let writer = writer_at c.args.wiring.now.plans c.in-Some.channel c.in-Some-writer_of.writer (rw (← c.as_slice.ensures) (sym c.in-Some-writer_of.ensures)) in
    c.put_output.ensures.leads w writer.0 token led next writer.1 (sym same ∙ sym writer.2) (ap (λ (t : TapeEntry). t.seq) told)

pub returns-in-None-clause-leads : goal.returns-in-None-clause-leads
returns-in-None-clause-leads c = λ w token led next told.
    let named = entry_named c.args.wiring.now.names token (entry_of (c.args.name.now, c.args.message.seq)) (known_channel c.args.wiring.now c.args.list.now c.args.told.now c.args.self.now c.requires.may c.requires.walked w led token next) told in
    let same : c.in-Some.channel ≡ token.channel = c.requires.once c.in-Some.channel token.channel c.args.name.now c.in-Some.ensures.found named in
    c.put_played.ensures.leads w token led next (sym same) (writes_position c.args.wiring.now.plans c.in-Some.channel ∙ (rw (← c.as_slice.ensures) (sym c.in-None.ensures))) (ap (λ (t : TapeEntry). t.seq) told)
