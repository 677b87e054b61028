use Rattle.std.proofs.Common.{◌∙◌, List, length, ap, subst, arith, inl, inr}
use Rattle.std.specs.Prelude.{◌==◌, ◌&&◌, is_none, slice_get}
use Rattle.std.proofs.lemmas.Result.{err_from_is_err_and}
use Rattle.cy_cut.specs.declared.cutting.Part.{Part}
use Rattle.cy_cut.specs.Cutting.{fault_in}
use Rattle.cy_salvage.specs.private.Salvaging.{AreSound, place_before}
use Rattle.cy_cut.proofs.PartBytes.{bytes_front}
use Rattle.cy_salvage.proofs.Salvaging.{salvage_wrong, salvage_met}
use Rattle.cy_salvage.proofs.salvage.salvaged_of.Goals as goal

pub of_parts-requires-clause-all : goal.of_parts-requires-clause-all
of_parts-requires-clause-all g c = omega (arith, bytes_front c.args.cut.parts.items c.truncate.new.self.items c.in_ok-count.count c.truncate.ensures.items, c.requires.all)

pub returns-in_err-kept-clause-salvaged : goal.returns-in_err-kept-clause-salvaged
returns-in_err-kept-clause-salvaged g c =
    let p = err_from_is_err_and c.from_residual-in_err-kept.result c.from_residual-in_err-kept.ensures.1 in
    let sound : AreSound c.args.cut.parts.items c.in_ok-count.count (fault_in c.args.cut.end) =
    subst (λ (ps : List Part). AreSound ps c.in_ok-count.count (fault_in c.args.cut.end)) c.deref.ensures.value (c.in_ok-count.ensures.sound (fault_in c.args.cut.end)) in
    rw (p.1, p.2) (elim c.in_err-kept.ensures.met [
      | inl memory ↦ inl memory
      | inr wrong ↦ inr (salvage_wrong c.args.size c.args.cut c.in_ok-count.count c.truncate.new.self.items sound _ c.truncate.ensures.items wrong)
    ])

pub returns-clause-salvaged : goal.returns-clause-salvaged
returns-clause-salvaged g c =
    let sound : AreSound c.args.cut.parts.items c.in_ok-count.count (fault_in c.args.cut.end) =
    subst (λ (ps : List Part). AreSound ps c.in_ok-count.count (fault_in c.args.cut.end)) c.deref.ensures.value (c.in_ok-count.ensures.sound (fault_in c.args.cut.end)) in
    salvage_met c.args.size c.args.cut c.in_ok-count.count c.place_before.result c.dropped_from-dropped.result c.is_whole-are_all.result c.truncate.new.self.items sound _
    c.truncate.ensures.items c.in_ok-kept.ensures.met
    (c.is_whole-are_all.ensures ∙ ap (λ (ps : List Part). (c.in_ok-count.count == length ps) && is_none (fault_in c.args.cut.end)) c.deref-2.ensures.value)
    (c.place_before.ensures ∙ ap (λ (ps : List Part). place_before c.args.cut.ends_at (slice_get ps c.in_ok-count.count)) c.deref-3.ensures.value) c.dropped_from-dropped.ensures
