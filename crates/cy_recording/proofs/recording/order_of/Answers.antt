use Rattle.std.proofs.Common.{◌∙◌, ap, sym, ℕ, List, [], get_or, map, ◌<◌, arith}
use Rattle.std.proofs.lemmas.Option.{slice_get-get_or}
use Rattle.cy_msg.specs.declared.token.Token.{Token}
use Rattle.cy_writer.specs.Order.{with_number}
use Rattle.cy_writer.proofs.OrderNumbers.{numbers_more, numbers_filled}
use Rattle.cy_recording.proofs.TapeRecord.{channel_at, channels_each, no_token}
use Rattle.cy_recording.proofs.recording.order_of.Goals as goal

pub loop-token-preserved : goal.loop-token-preserved
loop-token-preserved c =
    let tape = c.args.tape.now in
    let n = c.loop-token.token-index in
    let t = get_or tape n no_token in
    let inv = c.loop-token.invariant in
    record {
      numbers = c.in_ok-note.ensures.numbers ∙ ap (λ (known : List ℕ). with_number known t.channel) inv.numbers
          ∙ sym (numbers_more [] (map (λ (t : Token). t.channel) tape) n t.channel (channel_at tape n t (slice_get-get_or tape n no_token c.loop-token-test.true)));
      all = c.note.ensures.all ∙ inv.all;
    }

pub note-requires : goal.note-requires
note-requires c =
    let tape = c.args.tape.now in
    let n = c.loop-token.token-index in
    let t = get_or tape n no_token in
    let below : t.channel < c.args.channels = c.requires n t (slice_get-get_or tape n no_token c.loop-token-test.true) in
    let all = c.loop-token.invariant.all in
    omega (arith, below, all)

pub returns-then-is_full-clause-numbers : goal.returns-then-is_full-clause-numbers
returns-then-is_full-clause-numbers c =
    let l = c.loop-token in
    numbers_filled l.order [] (map (λ (t : Token). t.channel) c.args.tape.now) l.token-index l.invariant.numbers (c.is_full.ensures.all c.if-is_full.true)
    (channels_each (λ d. d < l.order.all) c.args.tape.now (λ n t here. let low : t.channel < c.args.channels = c.requires n t here in let all = l.invariant.all in omega (arith, low, all)))
