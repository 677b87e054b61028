use Rattle.std.proofs.Common.{◌≡◌, ◌-◌, ◌++◌, ◌∷◌, [], suc, length, refl, sym, ap, ◌∙◌, arith}
use Rattle.cy_cut.specs.declared.heads.PlacedHead.{PlacedHead}
use Rattle.cy_cut.specs.Found.{seen_section}
use Rattle.cy_cut.specs.Heads.{whole_heads, section_head}
use Rattle.cy_cut.specs.Sections.{header_end}
use Rattle.cy_cut.proofs.Ahead.{one_less}
use Rattle.cy_cut.proofs.Walked.{one_found, none_found_there, head_more, heads_end, end_more, end_there}
use Rattle.cy_cut.proofs.heads.whole_heads.Goals as goal

pub loop-section-init : goal.loop-section-init
loop-section-init c = record {
  more = suc (length c.args.file.now);
  fuel = omega arith;
  inside = c.requires;
  heads = rw (c.in_ok-push.ensures.items, c.new-heads.ensures.items, c.header_head.ensures) refl;
  end = refl;
}

pub loop-section-preserved : goal.loop-section-preserved
loop-section-preserved c =
    let inv = c.loop-section.invariant in
    let file = c.args.file.now in
    let at = c.loop-section.at in
    let less = one_less inv.more (omega (arith, inv.fuel)) in
    let s = seen_section c.in-Some.section in
    let stands = c.in-Some.ensures.stands in
    let start = stands.0 in
    let inside = stands.1.inside in
    let fuel = inv.fuel in
    let more = less.1 in
    let found = one_found less.0 file at s (sym c.in-Some.ensures.section) in
    let place : at ≡ s.body_at - 16 = omega (arith, start) in
    let pushed : c.push-in-Some.new.self.items ≡ c.loop-section.heads.items ++ section_head s ∷ [] = c.in_ok-push-2.ensures.items
    ∙ ap (λ a. c.loop-section.heads.items ++ (let h : PlacedHead = record { at = a; kind = s.kind; size = length s.body } in h) ∷ []) place in
    record {
      more = less.0;
      fuel = omega arith;
      inside = inside;
      heads = rw pushed (head_more c.loop-section.heads.items (whole_heads file header_end) s _ _ found (rw less.1 at inv.heads));
      end = end_more at _ s _ _ found (rw less.1 at inv.end);
    }

pub returns-clause-heads : goal.returns-clause-heads
returns-clause-heads c =
    let inv = c.loop-section.invariant in
    let less = one_less inv.more (omega (arith, inv.fuel)) in
    heads_end c.loop-section.heads.items _ _ (none_found_there less.0 c.args.file.now c.loop-section.at (sym c.in_default.ensures.section)) (rw less.1 at inv.heads)

pub returns-clause-ends : goal.returns-clause-ends
returns-clause-ends c =
    let inv = c.loop-section.invariant in
    let less = one_less inv.more (omega (arith, inv.fuel)) in
    record {
      end = end_there c.loop-section.at _ _ (none_found_there less.0 c.args.file.now c.loop-section.at (sym c.in_default.ensures.section)) (rw less.1 at inv.end);
      inside = inv.inside;
    }
