use Rattle.std.proofs.Common.{rules, ◌≡◌, ℕ, List, max, ap, ◌∙◌, subst}
use Rattle.cy_store.specs.Write.{Put, after_write}
use Rattle.cy_recording.specs.private.Keeping.{IsSeen}
use Rattle.cy_recording.proofs.Seen.{seen_header}
use Rattle.cy_recording.proofs.compared.Compared.put_header.Goals as goal

pub invariant_of-self : goal.invariant_of-self
invariant_of-self g c =
    let self = c.args.self.now in
    let name = g.K.Known.name in
    let files = g.K.Known.start.files in
    let bytes = c.args.bytes.now in
    let is : c.then-self.result.files ≡ after_write (Put name 0 bytes) self.shown.files = c.then-self.ensures ∙ ap (λ (n : List ℕ). after_write (Put n 0 bytes) self.shown.files) self.named in
    let header : bytes ≡ c.in_ok-header.header.items = search rules in
    let size : max self.size 2064 ≡ c.max-self.result = search rules in
    record {
      lender = self.lender;
      named = self.named;
      kept = self.kept;
      seen = subst (λ (n : ℕ). IsSeen name files c.then-self.result.files c.in_ok-header.header.items n self.place) size
          (subst (λ (l : List ℕ). IsSeen name files c.then-self.result.files l (max self.size 2064) self.place) header
          (seen_header name files self.shown.files c.then-self.result.files self.header.items bytes self.size self.place self.seen c.requires is));
    }
