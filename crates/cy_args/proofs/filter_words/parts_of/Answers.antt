use Rattle.std.proofs.Common.{List, ℕ, Bor, ◌∷◌, [], map, ap, ◌∙◌, ne_eqb}
use Rattle.std.proofs.lemmas.List.{map-append}
use Rattle.cy_args.proofs.Commas.{none_yet, goes_on, part_ends, ends_at, all_parts}
use Rattle.cy_args.proofs.filter_words.parts_of.Goals as goal

pub loop-place-init : goal.loop-place-init
loop-place-init c = rw c.new-parts.ensures.items (none_yet c.args.list.now)

pub range-requires-clause-start_le_end : goal.range-requires-clause-start_le_end
range-requires-clause-start_le_end c = c.loop-place.invariant.begun

pub range-requires-clause-start_boundary : goal.range-requires-clause-start_boundary
range-requires-clause-start_boundary c = c.loop-place.invariant.boundary

pub range-requires-clause-end_boundary : goal.range-requires-clause-end_boundary
range-requires-clause-end_boundary c =
    let same = c.as_bytes-bytes.ensures.value in
    ends_at c.args.list.now c.loop-place.place (rw same at c.loop-place-test.true) (rw same at c.if-byte-ne44.false)

pub loop-place-preserved : goal.loop-place-preserved
loop-place-preserved c =
    let same = c.as_bytes-bytes.ensures.value in
    let shown = λ (ps : List (Bor (List ℕ))). map (λ (p : Bor (List ℕ)). p.now) ps in
    part_ends c.args.list.now (shown c.loop-place.parts.items) (shown c.push.new.self.items) c.range.result.now c.loop-place.start c.loop-place.place c.utf8.list c.loop-place.invariant
    (rw same at c.loop-place-test.true) (rw same at c.if-byte-ne44.false) c.range.ensures.value
    (ap shown c.in_ok-push.ensures.items ∙ map-append (λ (p : Bor (List ℕ)). p.now) c.loop-place.parts.items (c.range.result ∷ []))

pub loop-place-preserved-then-byte-ne44 : goal.loop-place-preserved-then-byte-ne44
loop-place-preserved-then-byte-ne44 c =
    let same = c.as_bytes-bytes.ensures.value in
    let shown = λ (ps : List (Bor (List ℕ))). map (λ (p : Bor (List ℕ)). p.now) ps in
    goes_on c.args.list.now (shown c.loop-place.parts.items) c.loop-place.start c.loop-place.place c.loop-place.invariant (rw same at c.loop-place-test.true) (ne_eqb _ 44 (rw same at c.if-byte-ne44.true))

pub range_from-requires : goal.range_from-requires
range_from-requires c = c.loop-place.invariant.boundary

pub returns : goal.returns
returns c =
    let same = c.as_bytes-bytes.ensures.value in
    let shown = λ (ps : List (Bor (List ℕ))). map (λ (p : Bor (List ℕ)). p.now) ps in
    all_parts c.args.list.now (shown c.loop-place.parts.items) (shown c.push-2.new.self.items) c.range_from.result.now c.loop-place.start c.loop-place.place c.loop-place.invariant
    (rw same at c.loop-place-test.false) c.range_from.ensures.value
    (ap shown c.in_ok-push-2.ensures.items ∙ map-append (λ (p : Bor (List ℕ)). p.now) c.loop-place.parts.items (c.range_from.result ∷ []))
