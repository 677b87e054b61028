use Rattle.std.proofs.Common.{◌≡◌, ℕ, List, [], None, ap, sym, ◌∙◌, subst}
use Rattle.cy_store.specs.Write.{Create, after_write}
use Rattle.cy_recording.specs.private.Keeping.{IsSeen}
use Rattle.cy_recording.proofs.Seen.{seen_none}
use Rattle.cy_recording.proofs.compared.ComparedStore.create.Goals as goal

pub invariant_of-self : goal.invariant_of-self
invariant_of-self g c =
    let self = c.args.self.now in
    let name = g.K.Known.name in
    let files = g.K.Known.start.files in
    let is : c.then-self.result.files ≡ after_write (Create name) self.shown.files = c.then-self.ensures ∙ ap (λ (n : List ℕ). after_write (Create n) self.shown.files) self.named in
    let none : [] ≡ c.clear.new.self.items = sym c.clear.ensures.items in
    record {
      lender = self.lender;
      named = self.named;
      kept = self.kept;
      seen = subst (λ (l : List ℕ). IsSeen name files c.then-self.result.files l 0 None) none (seen_none name files self.shown.files c.then-self.result.files is);
    }
