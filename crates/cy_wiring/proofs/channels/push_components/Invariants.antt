use Rattle.std.proofs.Common.{◌≡◌, ◌++◌, map, take}
use Rattle.std.specs.List.{flat_map, zip}
use Rattle.cy_wiring.specs.Wiring.{channels_of}
use Rattle.cy_wiring.proofs.channels.push_components.Given as goal

abbrev pub invariant-loop-place : goal.invariant-loop-place
invariant-loop-place l =
    map (λ m. m.now) l.mentions.items ≡ map (λ m. m.now) l.fn.mentions.items ++ flat_map channels_of (zip (take l.place l.components) (take l.place l.configs))
