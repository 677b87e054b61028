-- Steps until there is none.
use Rattle.std.specs.Prelude.{◌≡◌, Option, Some, None, List, [], ◌∷◌}

-- From one state, steps come to an end at another.
pub data Settles {W : Type 0} (next : W → Option W) : W → W → Type 0 where
  still : {w : W} → next w ≡ None → Settles next w w
  goes : {w m v : W} → next w ≡ Some m → Settles next m v → Settles next w v

-- For each thing of a list in turn: it is put, and steps then come to an end.
abbrev pub Runs : {W T : Type 0} → (W → Option W) → (T → W → W) → List T → W → W → Type 0
Runs next put [] w v = v ≡ w
Runs {W} next put (t ∷ rest) w v = (m : W) × Settles next (put t w) m × Runs next put rest m v
