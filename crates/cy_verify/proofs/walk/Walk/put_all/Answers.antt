use Rattle.std.proofs.Common.{◌≡◌, Bool, true, false, length, refl, sym, ◌∙◌, ap, arith}
use Rattle.cy_trace.specs.Tapes.{entry_of}
use Rattle.cy_verify.proofs.WalkLed.{next_entry, put_whole, put_led_first, same_number}
use Rattle.cy_verify.proofs.Walked.{put_first, put_next, same_may, taken_all}
use Rattle.cy_verify.proofs.walk.Walk.put_all.Goals as goal

wrong : {b : Bool} → b ≡ true → b ≡ false → ⊥
wrong e n = cc

pub loop-place-init : goal.loop-place-init
loop-place-init c = put_led_first (put_first c.requires.walked c.requires.empty)

pub put_entry-requires-clause-may : goal.put_entry-requires-clause-may
put_entry-requires-clause-may c = same_may c.args.wiring.now c.args.list.now c.args.self.now c.loop-place.self c.loop-place.invariant.to.same c.requires.may

pub put_entry-requires-clause-walked : goal.put_entry-requires-clause-walked
put_entry-requires-clause-walked c = rw c.as_slice-told.ensures c.loop-place.invariant.to.walked

pub returns-then-not-put_entry-clause-same : goal.returns-then-not-put_entry-clause-same
returns-then-not-put_entry-clause-same c = c.put_entry.ensures.same ∙ c.loop-place.invariant.to.same

pub loop-place-preserved : goal.loop-place-preserved
loop-place-preserved c = record {
  to = put_next c.loop-place.place (entry_of (c.entry.result.0.now, c.entry.result.1.seq)) c.entry.ensures
      c.loop-place.invariant.to (rw (← c.as_slice-told.ensures) (c.if-not-put_entry.ensures.walked refl)) (c.if-not-put_entry.ensures.puts refl) c.put_entry.ensures.same;
  led = λ p led told.
      let next = next_entry (entry_of (c.entry.result.0.now, c.entry.result.1.seq)) c.loop-place.invariant.to c.entry.ensures p told in
      rw (← c.as_slice-told.ensures) (c.put_entry.ensures.leads p next.0 (rw c.as_slice-told.ensures (c.loop-place.invariant.led p led told)) next.1 next.2).1;
}

pub returns-then-not-put_entry-clause-leads : goal.returns-then-not-put_entry-clause-leads
returns-then-not-put_entry-clause-leads c = λ p led told.
    let next = next_entry (entry_of (c.entry.result.0.now, c.entry.result.1.seq)) c.loop-place.invariant.to c.entry.ensures p told in
    absurd (wrong (c.put_entry.ensures.leads p next.0 (rw c.as_slice-told.ensures (c.loop-place.invariant.led p led told)) next.1 next.2).0 c.if-not-put_entry.true)

pub returns-clause-leads : goal.returns-clause-leads
returns-clause-leads c = λ p led told.
    let here = c.loop-place.invariant.led p led told in
    let whole = put_whole c.loop-place.invariant.to (omega (arith, c.count-place-end.ensures, c.loop-place-test.false)) p told here in
    (same_number c.loop-place.self.played (length c.as_slice.result.now) (whole.1 ∙ ap length (sym c.as_slice.ensures)), whole.0, here)

pub returns-clause-walked : goal.returns-clause-walked
returns-clause-walked c = λ _. c.loop-place.invariant.to.walked

pub returns-clause-told : goal.returns-clause-told
returns-clause-told c = λ _. c.loop-place.invariant.to.told ∙ taken_all c.loop-place.place c.args.trace.now.tape (omega (arith, c.count-place-end.ensures, c.loop-place-test.false))

pub returns-clause-same : goal.returns-clause-same
returns-clause-same c = c.loop-place.invariant.to.same
