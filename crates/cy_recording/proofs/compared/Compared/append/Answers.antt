use Rattle.std.proofs.Common.{rules, ◌≡◌, ◌+◌, ℕ, List, length, ap, ◌∙◌, subst}
use Rattle.cy_store.specs.Write.{Put, after_write}
use Rattle.cy_recording.specs.private.Keeping.{IsSeen}
use Rattle.cy_recording.proofs.Seen.{seen_on}
use Rattle.cy_recording.proofs.compared.Compared.append.Goals as goal

pub invariant_of-self : goal.invariant_of-self
invariant_of-self g c =
    let old = c.args.self.now in
    let self = c.look.new.self in
    let name = g.K.Known.name in
    let files = g.K.Known.start.files in
    let bytes = c.args.bytes.now in
    let end : old.size + length bytes ≡ c.in-Some.end = search rules in
    let is : c.then-self.result.files ≡ after_write (Put name old.size bytes) self.shown.files = c.then-self.ensures ∙ ap (λ (n : List ℕ). after_write (Put n old.size bytes) self.shown.files) self.named in
    record {
      lender = self.lender;
      named = self.named;
      kept = self.kept;
      seen = subst (λ (n : ℕ). IsSeen name files c.then-self.result.files self.header.items n c.in_ok-place.place) end
          (seen_on name files old.shown.files self.shown.files c.then-self.result.files old.header.items self.header.items bytes old.size self.size old.place self.place
          c.in_ok-place.place old.seen self.seen c.requires is c.in_ok-place.ensures.same c.in_ok-place.ensures.place);
    }
