use Rattle.std.proofs.Common.{List, Bor, ℕ, ◌∷◌, [], map, ap, sym, ◌∙◌}
use Rattle.std.proofs.lemmas.List.{map-append}
use Rattle.cy_dag.specs.declared.config.Config.{Config}
use Rattle.cy_wiring.proofs.PairSteps.{channels_step}
use Rattle.cy_wiring.proofs.channels.push_components.Goals as goal

pub loop-place-preserved : goal.loop-place-preserved
loop-place-preserved c =
    let shown = λ (ms : List (Bor (List ℕ))). map (λ (m : Bor (List ℕ)). m.now) ms in
    channels_step c.args.components.now c.args.configs.now c.loop-place.place c.index-components-place.result c.index-configs-place.result (shown c.args.mentions.now.items)
    (shown c.loop-place.mentions.items) (shown c.push_readers.new.mentions.items) (shown c.push.new.self.items) c.as_slice.result.now c.as_str.result.now c.loop-place-test.true c.requires
    c.index-components-place.is c.index-configs-place.is c.loop-place.invariant c.in_ok-push_readers.ensures c.as_slice.ensures
    (ap shown c.in_ok-push.ensures.items ∙ map-append (λ (m : Bor (List ℕ)). m.now) c.push_readers.new.mentions.items (c.as_str.result ∷ [])) (c.as_str.ensures.value ∙ ap (λ (x : Config). x.out) (sym c.index-configs-place.is))
