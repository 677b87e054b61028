use Rattle.std.proofs.Common.{◌≡◌, List, ℕ, length, refl, sym}
use Rattle.cy_recording.proofs.Unlikes.{told_of}
use Rattle.cy_recording.proofs.Seen.{told_same}
use Rattle.cy_recording.proofs.Ends.{answered}
use Rattle.cy_recording.proofs.same.same_record.Goals as goal

pub compared_at-requires-clause-size : goal.compared_at-requires-clause-size
compared_at-requires-clause-size g c =
    let P : List ℕ → Type 0 = λ file. c.in_ok-size.size ≡ length file in
    let old = (g.S.Store.shows c.args.store.now).files in
    told_same P (g.S.Store.shows c.size.new.self).files old c.args.name.now c.args.name.now (sym c.in_ok-size.ensures.same) refl
    (told_of old c.args.name.now P c.in_ok-size.ensures.value)

pub returns : goal.returns
returns g c =
    answered c.args.name.now _ (λ file. c.in_ok-size.size ≡ length file) (g.S.Store.shows c.args.store.now) (g.S.Store.shows c.size.new.self) _ c.compared_at.result
    c.in_ok-size.ensures.same (c.in_ok-size.ensures.cause.quiet (λ e. cc)) c.in_ok-size.ensures.value c.compared_at.ensures
