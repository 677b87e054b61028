-- What writing records that are joined comes to.
use Rattle.std.proofs.Common.{◌≡◌, ℕ, List, length, ap, sym, subst, ◌∙◌, Option, None, Result}
use Rattle.std.specs.Prelude.{IfOk, IfSome}
use Rattle.cy_store.specs.Store.{StoreView}
use Rattle.cy_salvage.specs.Joined.{Gathered}
use Rattle.cy_reader.specs.Record.{Met, Message}
use Rattle.cy_reader.specs.Said.{StandOnChannels}
use Rattle.cy_writer.specs.Writes.{Makes}
use Rattle.cy_writer.specs.declared.error.WriteError.{WriteError}
use Rattle.cy_tools.specs.declared.kept.Kept.{Kept}
use Rattle.cy_tools.specs.declared.kept.Lets.{Lets}
use Rattle.cy_tools.specs.Kept.{kept_writes}
use Rattle.cy_tools.specs.Merging.{MergeAnswer}
use Rattle.cy_tools.specs.private.Giving.{WritesKept}
use Rattle.cy_tools.specs.private.Keeping.{IsReady, IsTable, all_kept}
use Rattle.cy_tools.proofs.Working.{kept_unfiltered}
use Rattle.cy_tools.proofs.Texts.{kept_text}

pub all_ready : (g : Gathered) (k : Kept) → k.loaded ≡ g.met → k.lets ≡ None → StandOnChannels g.met.channels g.met.messages → IsReady k
all_ready g k loaded none stand = record {
  table = subst (λ (o : Option Lets). IfSome o (IsTable k.loaded.channels)) (sym none) tt;
  stand = subst (λ (m : Met). StandOnChannels m.channels m.messages) (sym loaded) stand;
}

pub merge_works : (to : List ℕ) (g : Gathered) (k : Kept) (old new : StoreView) (result : Result ℕ WriteError) → k.loaded ≡ g.met → k.lets ≡ None → StandOnChannels g.met.channels g.met.messages → WritesKept to k old new result
    → MergeAnswer to g old new result
merge_works to g k old new result loaded none stand works =
    let all : g.met.messages ≡ all_kept k = ap (λ (m : Met). m.messages) (sym loaded) ∙ kept_unfiltered k none in
    record {
      text = kept_text to g.met g.met.messages stand;
      makes = subst (λ (ms : List Message). Makes (kept_writes to g.met ms) old new result) (sym all) (subst (λ (m : Met). Makes (kept_writes to m (all_kept k)) old new result) loaded works.makes);
      counts = subst (λ (ms : List Message). IfOk result (λ n. n ≡ length ms)) (sym all) works.count;
      unbroken = works.unbroken;
      causes = works.causes;
    }
