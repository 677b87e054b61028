use Rattle.std.proofs.Common.{◌<◌, ◌+◌, ◌-◌, ◌∷◌, [], suc, length, refl, ap, arith, inl, inr}
use Rattle.std.proofs.lemmas.Result.{err_from_is_err_and}
use Rattle.cy_cut.specs.Found.{seen_section}
use Rattle.cy_reader.specs.private.Loading.{met_of}
use Rattle.cy_reader.proofs.Growing.{kept_grown}
use Rattle.cy_reader.proofs.Moved.{nothing_sound, met_nothing}
use Rattle.cy_reader.proofs.Meeting.{section_read, section_wrong, sections_end, sections_fault}
use Rattle.cy_cut.proofs.Ahead.{one_less}
use Rattle.cy_reader.proofs.loading.add_sections.Goals as goal

pub loop-loading-init : goal.loop-loading-init
loop-loading-init c = (
  suc (length c.args.file.now),
  omega arith,
  c.requires.long,
  nothing_sound 1 c.none-loading.result c.none-loading.ensures,
  rw (met_nothing (c.args.file.now ∷ []) c.none-loading.result c.none-loading.ensures) refl,
  omega (arith, ap length c.none-loading.ensures.messages),
)

pub add_section-requires-clause-few : goal.add_section-requires-clause-few
add_section-requires-clause-few c =
    let stands = rw c.in-Some.is at c.in_ok-section.ensures.stands in
    omega (arith, c.loop-loading.invariant.5, stands.0, stands.1.inside, c.requires.short)

pub returns-in_err-section-clause-met : goal.returns-in_err-section-clause-met
returns-in_err-section-clause-met c =
    let p = err_from_is_err_and c.from_residual.result c.from_residual.ensures.1 in
    let inv = c.loop-loading.invariant in
    let less = one_less inv.0 (omega (arith, inv.1)) in
    rw (p.1, p.2) (inr (sections_fault c.args.file.now less.0 c.loop-loading.at (met_of (c.args.file.now ∷ []) c.loop-loading.loading) c.in_err-section.field-0.0 _ c.in_err-section.ensures.section (rw less.1 at inv.4)))

pub returns-in_err-add_section-clause-met : goal.returns-in_err-add_section-clause-met
returns-in_err-add_section-clause-met c =
    let p = err_from_is_err_and c.from_residual-in_err-add_section.result c.from_residual-in_err-add_section.ensures.1 in
    let inv = c.loop-loading.invariant in
    let less = one_less inv.0 (omega (arith, inv.1)) in
    let found = rw c.in-Some.is at c.in_ok-section.ensures.section in
    rw (p.1, p.2) (elim c.in_err-add_section.ensures.met [
      | inl memory ↦ inl memory
      | inr wrong ↦ inr (section_wrong c.args.file.now less.0 c.loop-loading.at (seen_section c.in-Some.section) (met_of (c.args.file.now ∷ []) c.loop-loading.loading) _ _ found wrong (rw less.1 at inv.4))
    ])

pub loop-loading-preserved : goal.loop-loading-preserved
loop-loading-preserved c =
    let inv = c.loop-loading.invariant in
    let less = one_less inv.0 (omega (arith, inv.1)) in
    let found = rw c.in-Some.is at c.in_ok-section.ensures.section in
    let stands = rw c.in-Some.is at c.in_ok-section.ensures.stands in
    let inside = stands.1.inside in
    let start = stands.0 in
    let fuel = inv.1 in
    let more = less.1 in
    let room : length c.args.file.now - (c.in-Some.section.body_at + length c.in-Some.section.body.now) < less.0 = omega arith in (
      less.0,
      room,
      inside,
      c.in_ok-add_section.ensures.still_sound,
      section_read c.args.file.now less.0 c.loop-loading.at (seen_section c.in-Some.section) (met_of (c.args.file.now ∷ []) c.loop-loading.loading) (met_of (c.args.file.now ∷ []) c.add_section.new.loading) _ found c.in_ok-add_section.ensures.met (rw less.1 at inv.4),
      omega (arith, kept_grown (seen_section c.in-Some.section) (c.args.file.now ∷ []) (c.args.file.now ∷ []) c.loop-loading.loading c.add_section.new.loading c.in_ok-add_section.ensures.met, inv.5, start),
    )

pub returns-clause-met : goal.returns-clause-met
returns-clause-met c =
    let inv = c.loop-loading.invariant in
    let less = one_less inv.0 (omega (arith, inv.1)) in
    let found = rw c.in_default.is at c.in_ok-section.ensures.section in
    sections_end c.args.file.now less.0 c.loop-loading.at (met_of (c.args.file.now ∷ []) c.loop-loading.loading) _ found (rw less.1 at inv.4)
