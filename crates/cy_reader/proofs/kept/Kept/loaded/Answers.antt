use Rattle.std.proofs.Common.{◌≡◌, ◌<◌, ℕ, Some, length, subst}
use Rattle.std.specs.Prelude.{slice_get}
use Rattle.cy_reader.specs.Record.{Met, Message}
use Rattle.cy_reader.proofs.Shifted.{on_all}
use Rattle.cy_reader.proofs.kept.Kept.loaded.Goals as goal

pub returns-clause-stand : goal.returns-clause-stand
returns-clause-stand c =
    let inside = c.self.inside in
    subst (λ (k : Met). (n : ℕ) (m : Message) → slice_get k.messages n ≡ Some m → m.channel < length k.channels) c.self.view_is
    (on_all (length inside.loading.channels.list.items) inside.bodies.items inside.loading.messages.items c.self.invariant.numbered)
