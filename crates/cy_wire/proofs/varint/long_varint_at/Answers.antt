use Rattle.std.proofs.Common.{rules, ◌≡◌, ◌<◌, ◌≤◌, ◌^◌, ◌*◌, ◌+◌, ◌%◌, length, get_or, arith, sym}
use Rattle.cy_wire.proofs.Fronts.{scale_bound, below_next, next_scale, last_scale}
use Rattle.cy_wire.proofs.VarintSteps.{ends_at, last_at, last_fits, step, long_at}
use Rattle.cy_wire.proofs.varint.long_varint_at.Goals as goal

pub returns-in_default-clause-number : goal.returns-in_default-clause-number
returns-in_default-clause-number c =
    let ends : length c.args.bytes.now ≤ c.loop-place.place = search rules in
    sym (ends_at c.loop-place.value c.loop-place.scale c.loop-place.place c.args.at c.args.bytes.now (omega arith) ends c.loop-place.invariant.reading)

pub returns-then-byte-lt128-clause-number : goal.returns-then-byte-lt128-clause-number
returns-then-byte-lt128-clause-number c =
    let byte = c.in-Some.field-0.now in
    let here : byte ≡ get_or c.args.bytes.now c.loop-place.place byte = search rules in
    let there : c.loop-place.place < length c.args.bytes.now = search rules in
    let same : c.from.result ≡ byte = omega arith in
    let bound = scale_bound c.loop-place.place c.loop-place-test.true in
    let below = below_next c.loop-place.value c.loop-place.scale byte c.loop-place.invariant.lower c.if-byte-lt128.true in
    rw same (sym (last_fits c.loop-place.value c.loop-place.scale c.loop-place.place c.args.at byte c.args.bytes.now (omega arith) there here c.if-byte-lt128.true (omega (arith, bound, below)) c.loop-place.invariant.reading))

pub loop-place-preserved : goal.loop-place-preserved
loop-place-preserved c =
    let byte = c.in-Some.field-0.now in
    let here : byte ≡ get_or c.args.bytes.now c.loop-place.place byte = search rules in
    let there : c.loop-place.place < length c.args.bytes.now = search rules in
    record {
      reading = rw c.from.ensures (step c.loop-place.value c.loop-place.scale c.loop-place.place c.args.at byte c.args.bytes.now _ (omega arith) there here c.if-byte-lt128.false c.loop-place.invariant.reading);
      power = next_scale c.loop-place.scale c.loop-place.place c.loop-place.invariant.power;
      lower = below_next c.loop-place.value c.loop-place.scale c.from.result c.loop-place.invariant.lower (omega arith);
    }

pub returns-in_default-get-clause-number : goal.returns-in_default-get-clause-number
returns-in_default-get-clause-number c =
    let ends : length c.args.bytes.now ≤ c.loop-place.place = search rules in
    sym (ends_at c.loop-place.value c.loop-place.scale c.loop-place.place c.args.at c.args.bytes.now (omega arith) ends c.loop-place.invariant.reading)

pub returns-then-last-ge128-clause-number : goal.returns-then-last-ge128-clause-number
returns-then-last-ge128-clause-number c =
    let last = c.in-Some-get.field-0.now in
    let nine : c.loop-place.place ≡ 9 = omega arith in
    let here : last ≡ get_or c.args.bytes.now 9 last = search rules in
    let there : 9 < length c.args.bytes.now = search rules in
    sym (long_at c.loop-place.value c.loop-place.scale c.args.at last c.args.bytes.now there here c.if-last-ge128.true (rw nine at c.loop-place.invariant.reading))

pub returns-clause-number : goal.returns-clause-number
returns-clause-number c =
    let last = c.in-Some-get.field-0.now in
    let nine : c.loop-place.place ≡ 9 = omega arith in
    let here : last ≡ get_or c.args.bytes.now 9 last = search rules in
    let there : 9 < length c.args.bytes.now = search rules in
    let scale = last_scale c.loop-place.scale c.loop-place.place nine c.loop-place.invariant.power in
    let low : (c.loop-place.value + c.loop-place.scale * last) % 2 ^ 64 ≡ c.loop-place.value + c.from-2.result * c.loop-place.scale = rw scale (omega (arith, scale)) in
    rw (← low) (sym (last_at c.loop-place.value c.loop-place.scale 9 c.args.at last c.args.bytes.now (omega arith) there here c.if-last-ge128.false (rw nine at c.loop-place.invariant.reading)))
