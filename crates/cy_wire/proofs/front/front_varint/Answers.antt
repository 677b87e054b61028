use Rattle.std.proofs.Common.{rules, ◌≡◌, ◌<◌, ◌≤◌, ◌^◌, ◌*◌, length, get_or, arith, sym}
use Rattle.cy_wire.proofs.Fronts.{ends_at, last_at, step, exceeds_at, scale_bound, below_next, next_scale, last_scale}
use Rattle.cy_wire.proofs.front.front_varint.Goals as goal

pub returns-in_err-byte-clause-number : goal.returns-in_err-byte-clause-number
returns-in_err-byte-clause-number c =
    let ends : length c.args.bytes.now ≤ c.loop-place.place = search rules in
    let none = ends_at c.loop-place.value c.loop-place.scale c.loop-place.place c.args.bytes.now ends c.loop-place.invariant.reading in
    search (rules, none)

pub returns-then-byte-lt128-clause-number : goal.returns-then-byte-lt128-clause-number
returns-then-byte-lt128-clause-number c =
    let byte = c.in_ok-byte.field-0.now in
    let here : byte ≡ get_or c.args.bytes.now c.loop-place.place byte = search rules in
    let there : c.loop-place.place < length c.args.bytes.now = search rules in
    let same : c.from.result ≡ byte = omega arith in
    let bound = scale_bound c.loop-place.place c.loop-place-test.true in
    let below = below_next c.loop-place.value c.loop-place.scale byte c.loop-place.invariant.lower c.if-byte-lt128.true in
    rw same (sym (last_at c.loop-place.value c.loop-place.scale c.loop-place.place byte c.args.bytes.now (omega arith) there here c.if-byte-lt128.true (omega (arith, bound, below)) c.loop-place.invariant.reading))

pub loop-place-preserved : goal.loop-place-preserved
loop-place-preserved c =
    let byte = c.in_ok-byte.field-0.now in
    let here : byte ≡ get_or c.args.bytes.now c.loop-place.place byte = search rules in
    let there : c.loop-place.place < length c.args.bytes.now = search rules in
    record {
      reading = rw c.from.ensures (step c.loop-place.value c.loop-place.scale c.loop-place.place byte c.args.bytes.now _ c.loop-place-test.true there here c.if-byte-lt128.false c.loop-place.invariant.reading);
      power = next_scale c.loop-place.scale c.loop-place.place c.loop-place.invariant.power;
      lower = below_next c.loop-place.value c.loop-place.scale c.from.result c.loop-place.invariant.lower (omega arith);
    }

pub returns-in_err-last-clause-number : goal.returns-in_err-last-clause-number
returns-in_err-last-clause-number c =
    let ends : length c.args.bytes.now ≤ c.loop-place.place = search rules in
    let none = ends_at c.loop-place.value c.loop-place.scale c.loop-place.place c.args.bytes.now ends c.loop-place.invariant.reading in
    search (rules, none)

pub returns-then-last-lt2-clause-number : goal.returns-then-last-lt2-clause-number
returns-then-last-lt2-clause-number c =
    let last = c.in_ok-last.field-0.now in
    let nine : c.loop-place.place ≡ 9 = omega arith in
    let here : last ≡ get_or c.args.bytes.now 9 last = search rules in
    let there : 9 < length c.args.bytes.now = search rules in
    let scale = last_scale c.loop-place.scale c.loop-place.place nine c.loop-place.invariant.power in
    let product : c.loop-place.scale * last ≤ 2 ^ 63 = rw scale (omega arith) in
    let reading = rw nine at c.loop-place.invariant.reading in
    rw c.from-then-last-lt2.ensures (sym (last_at c.loop-place.value c.loop-place.scale 9 last c.args.bytes.now (omega arith) there here (omega arith) (omega (arith, scale, product)) reading))

pub returns-else-last-lt2-clause-number : goal.returns-else-last-lt2-clause-number
returns-else-last-lt2-clause-number c =
    let last = c.in_ok-last.field-0.now in
    let nine : c.loop-place.place ≡ 9 = omega arith in
    let here : last ≡ get_or c.args.bytes.now 9 last = search rules in
    let there : 9 < length c.args.bytes.now = search rules in
    let scale = last_scale c.loop-place.scale c.loop-place.place nine c.loop-place.invariant.power in
    sym (exceeds_at c.loop-place.value last c.args.bytes.now there here c.if-last-lt2.false (rw (scale, nine) at c.loop-place.invariant.reading))
