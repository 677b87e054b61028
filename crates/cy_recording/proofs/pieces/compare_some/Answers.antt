use Rattle.std.proofs.Common.{rules, ◌+◌, sym, ap, ◌∙◌, arith, take, drop, length, ℕ, Option}
use Rattle.std.specs.Option.{option_or}
use Rattle.cy_recording.specs.private.Unlike.{unlike}
use Rattle.cy_recording.proofs.Unlikes.{at_end, read_of, piece_some, piece_within}
use Rattle.cy_recording.proofs.Kept.{cause_ok}
use Rattle.cy_recording.proofs.pieces.compare_some.Goals as goal

pub returns-then-read-eq0 : goal.returns-then-read-eq0
returns-then-read-eq0 g c = record {
  found = at_end c.args.at _ c.args.text.now c.args.name.now (g.S.Store.shows c.args.store.now).files
      (piece_some c.min-size.result (length c.args.text.now) c.args.buffer.now c.min-size.ensures c.requires.some c.requires.room)
      c.requires.some (c.in_ok-read.ensures.end c.if-read-eq0.true);
  some = tt;
  same = c.in_ok-read.ensures.same;
  cause = cause_ok _ _ _ _ _ c.in_ok-read.ensures.cause;
}

pub returns-in-Some : goal.returns-in-Some
returns-in-Some g c =
    let n = c.in_ok-read.read in
    let at = c.args.at in
    let text = c.args.text.now in
    let size = c.min-size.result in
    let buffer = c.args.buffer.now in
    record {
      found = λ m file is there.
          read_of at n (take size buffer) c.read_at.new.buf (drop size buffer) c.args.name.now text (g.S.Store.shows c.args.store.now).files
          c.in_ok-read.ensures.within (search rules) (piece_within n size (length text) buffer c.min-size.ensures c.in_ok-read.ensures.within)
          c.in_ok-read.ensures.value m file is there
          ∙ ap (λ (o : Option ℕ). option_or o (unlike (at + n) (drop n (drop at file)) (drop n text))) (sym c.first_unlike.ensures ∙ c.in-Some.is);
      some = tt;
      same = c.in_ok-read.ensures.same;
      cause = cause_ok _ _ _ _ _ c.in_ok-read.ensures.cause;
    }

pub returns-in-None : goal.returns-in-None
returns-in-None g c =
    let n = c.in_ok-read.read in
    let at = c.args.at in
    let text = c.args.text.now in
    let size = c.min-size.result in
    let buffer = c.args.buffer.now in
    let within = piece_within n size (length text) buffer c.min-size.ensures c.in_ok-read.ensures.within in
    record {
      found = λ m file is there.
          read_of at n (take size buffer) c.read_at.new.buf (drop size buffer) c.args.name.now text (g.S.Store.shows c.args.store.now).files
          c.in_ok-read.ensures.within (search rules) within
          c.in_ok-read.ensures.value m file is there
          ∙ ap (λ (o : Option ℕ). option_or o (unlike (at + n) (drop n (drop at file)) (drop n text))) (sym c.first_unlike.ensures ∙ c.in-None.is);
      some = (omega (arith, c.if-read-eq0.false), within);
      same = c.in_ok-read.ensures.same;
      cause = cause_ok _ _ _ _ _ c.in_ok-read.ensures.cause;
    }
