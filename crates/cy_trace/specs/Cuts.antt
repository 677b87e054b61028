-- Bytes cut at marks.
use Rattle.std.specs.Prelude.{ℕ, ◌==◌, ◌&&◌, not, Bool, true, List, [], ◌∷◌, Option, Some, None}
use Rattle.std.specs.Prelude.{option_map, if◌then◌else◌}
use Rattle.std.specs.Option.{option_and_then}

-- The bytes lack a mark.
abbrev pub lacks : ℕ → List ℕ → Bool
lacks mark [] = true
lacks mark (b ∷ bs) = not (b == mark) && lacks mark bs

-- What stands before the first mark, and what stands behind it.
unfoldable pub cut : ℕ → List ℕ → Option (List ℕ × List ℕ)
cut mark [] = None
cut mark (b ∷ bs) = if b == mark then Some ([], bs) else option_map (λ p. (b ∷ p.0, p.1))
    (cut mark bs)

abbrev pub or_else : {A : Type 0} → Option A → Option A → Option A
or_else None other = other
or_else (Some x) other = Some x

-- What stands before the last mark, and what stands behind it.
unfoldable pub cut_last : ℕ → List ℕ → Option (List ℕ × List ℕ)
cut_last mark [] = None
cut_last mark (b ∷ bs) = or_else (option_map (λ p. (b ∷ p.0, p.1)) (cut_last mark bs))
    (if b == mark then Some ([], bs) else None)

-- What stands behind a prefix.
unfoldable pub behind : List ℕ → List ℕ → Option (List ℕ)
behind [] bytes = Some bytes
behind (c ∷ prefix) [] = None
behind (c ∷ prefix) (b ∷ bytes) = if b == c then behind prefix bytes else None

-- Both readings, where both are there.
abbrev pub both : {A B : Type 0} → Option A → Option B → Option (A × B)
both a b = option_and_then (λ x. option_map (λ y. (x, y)) b) a
