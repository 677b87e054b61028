use Rattle.std.proofs.Common.{rules, refl, length, subst}
use Rattle.std.proofs.lemmas.Fn.{always_returns_same}
use Rattle.cy_reader.specs.declared.loading.Loading.{Loading}
use Rattle.cy_reader.specs.declared.loading.Message.{Message}
use Rattle.cy_reader.specs.Record.{Met}
use Rattle.cy_reader.specs.United.{IsInTime}
use Rattle.cy_reader.specs.private.Loading.{met_of}
use Rattle.cy_reader.proofs.InTime.{sorted_messages, sound_sorted}
use Rattle.cy_reader.proofs.kept.Kept.in_time.Goals as goal

pub invariant_of-result : goal.invariant_of-result
invariant_of-result c =
    let new : Loading = record { channels = c.self.inside.loading.channels; messages = c.sort_by_key.new.self } in
    sound_sorted (length c.self.inside.bodies.items) c.self.inside.loading new c.self.invariant refl c.in_ok-sort_by_key.ensures.permutation

pub returns-clause-ordered : goal.returns-clause-ordered
returns-clause-ordered c =
    let new : Loading = record { channels = c.self.inside.loading.channels; messages = c.sort_by_key.new.self } in
    let bodies = c.self.inside.bodies.items in
    subst (λ (k : Met). IsInTime k.messages (met_of bodies new).messages) c.self.view_is
    (sorted_messages bodies c.self.inside.loading.messages.items new.messages.items c.in_ok-sort_by_key.ensures.permutation
    (c.in_ok-sort_by_key.ensures.sorted (λ (m : Message). m.time) (always_returns_same _ _ _ (λ a r q k. search rules)))
    (c.in_ok-sort_by_key.ensures.stable (λ (m : Message). m.time) (always_returns_same _ _ _ (λ a r q k. search rules))))
