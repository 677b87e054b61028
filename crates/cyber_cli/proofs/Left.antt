-- What words ask for, they ask for also where the law on what stands in the store is applied to it.
use Rattle.std.proofs.Common.{ℕ, List, Option, Some, None}
use Rattle.std.specs.Prelude.{IfSome}
use Rattle.cy_args.specs.Command.{Asks, AsksStill, Command, IsAsked}

pub asked_some : (words : List (List ℕ)) (asked : Option Command) → IsAsked (Asks words) asked → IfSome asked (Asks words)
asked_some words None h = tt
asked_some words (Some c) h = h

pub asked_still : (words : List (List ℕ)) (asked : Option Command) → IsAsked (AsksStill words) asked → IfSome asked (Asks words)
asked_still words None h = tt
asked_still words (Some c) h = h.0
