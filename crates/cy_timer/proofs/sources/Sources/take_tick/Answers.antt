use Rattle.std.proofs.Common.{◌≡◌, ◌∙◌, ◌∷◌, List, Some, slice_get, refl, sym, ap}
use Rattle.std.proofs.lemmas.Option.{slice_get-get_or}
use Rattle.cy_msg.specs.declared.token.Token.{Token}
use Rattle.cy_timer.proofs.Choosing.{taken-rising}
use Rattle.cy_timer.proofs.sources.Sources.take_tick.Goals as goal

pub returns-clause-ticks : goal.returns-clause-ticks
returns-clause-ticks c =
    let ticks = c.args.self.now.ticks.items in
    let at : slice_get ticks c.args.place ≡ Some (c.take.result ∷ c.take.new.self)
    = slice_get-get_or ticks c.args.place c.index_mut.result.now c.requires.there ∙ ap (λ (ts : List Token). Some ts) (sym c.index_mut.ensures.value ∙ c.take.ensures) in
    record { rest = c.take.new.self; at = at; left = refl }

pub invariant_of-self : goal.invariant_of-self
invariant_of-self c =
    let s = c.args.self.now in
    let at : slice_get s.ticks.items c.args.place ≡ Some (c.take.result ∷ c.take.new.self)
    = slice_get-get_or s.ticks.items c.args.place c.index_mut.result.now c.requires.there ∙ ap (λ (ts : List Token). Some ts) (sym c.index_mut.ensures.value ∙ c.take.ensures) in
    record { rising = taken-rising s.messages.now s.ticks.items c.args.place c.take.result _ (record { rest = c.take.new.self; at = at; left = refl }) s.rising }
