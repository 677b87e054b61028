use Rattle.std.proofs.Common.{◌∙◌, List, ap, subst}
use Rattle.cy_cut.specs.declared.heads.PlacedHead.{PlacedHead}
use Rattle.cy_info.specs.Info.{index_found}
use Rattle.cy_info.specs.private.Facts.{ArePlacesFor}
use Rattle.cy_info.proofs.facts.facts_of.Goals as goal

pub returns-clause-facts : goal.returns-clause-facts
returns-clause-facts c = record {
  counted = c.count_parts.ensures;
  counts = c.in_ok-counts.ensures.counts;
  index = c.in_ok-index.ensures.found ∙ ap index_found c.index.ensures.index;
  places = subst (λ (heads : List PlacedHead). ArePlacesFor c.in_ok-index.index heads c.in_ok-places.places) c.heads.ensures c.in_ok-places.ensures.places;
}
