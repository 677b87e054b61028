-- The store of a visitor's door after a fetch, by the law of Fetch.
use Rattle.std.proofs.Common.{refl}
use Rattle.cy_fuse.specs.Visitor.{visited}
use Rattle.cy_comp.specs.Calls.{cursor_after}
use Rattle.cy_table.proofs.Fetching.{fetch_becomes}
use Rattle.cy_table.proofs.laws.fetch_stores.Goals as goal

pub returns : goal.returns
returns k = record {
  fetch = λ r w s id v g a out sits e asked has one.
      fetch_becomes r w s id v sits g e asked a has one k.found.ensures k.unsent.ensures out (k.fetch.ensures.sound id g.croutine) (k.fetch.ensures.calls id g.croutine) (visited (cursor_after g.routine.calls) a.visitor) refl;
}
