-- What reading words comes to.
use Rattle.std.specs.Prelude.{ℕ, ◌≡◌, List, Option, Some, None, Result, Ok, Err}
use Rattle.cy_args.specs.Command.{Command, IsAsked}

-- Some command is asked for.
abbrev pub IsSomeAsked : (Command → Type 0) → Type 0
IsSomeAsked asks = (c : Command) × asks c

-- The words are kept where they ask for a command; where they ask for none, or there is no memory
-- for those that do, nothing is.
abbrev pub IsReadAs : {E : Type 0} → (Command → Type 0) → List (List ℕ)
    → Result (Option (List (List ℕ))) E → Type 0
IsReadAs asks words (Ok None) = IsAsked asks None
IsReadAs asks words (Ok (Some kept)) = IsSomeAsked asks × (kept ≡ words)
IsReadAs asks words (Err e) = IsSomeAsked asks
