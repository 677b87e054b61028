-- What an arrival keeps of what may be missing.
use Rattle.std.specs.Prelude.{ℕ, ℤ, pos, ◌≡◌, if◌then◌else◌, Bool, true, false, Option, Some}
use Rattle.std.specs.Prelude.{None, refl}
use Rattle.std.proofs.Common.{sym}

-- A value that is there, or none.
abbrev pub given : {X : Type 0} → Bool → X → Option X
given there x = if there then Some x else None

-- The value that is there, and else the one that stands for none.
abbrev pub told : {X : Type 0} → X → Option X → X
told blank None = blank
told blank (Some x) = x

-- Whether a value is there.
abbrev pub is_told : {X : Type 0} → Option X → Bool
is_told None = false
is_told (Some x) = true

-- Where a value isn't there, zero stands for it.
pub record IsBlank (has_whole : Bool) (whole : ℤ) (has_origin : Bool) (origin : ℕ) : Type 0 where
  pub no_whole : has_whole ≡ false → whole ≡ pos 0
  pub no_origin : has_origin ≡ false → origin ≡ 0

-- So a value that may be missing gives back what is kept of it.
pub told_back : {X : Type 0} (there : Bool) (x blank : X) → (there ≡ false → x ≡ blank)
    → told blank (given there x) ≡ x
told_back true x blank missing = refl
told_back false x blank missing = sym (missing refl)

pub is_told_back : {X : Type 0} (there : Bool) (x : X) → is_told (given there x) ≡ there
is_told_back true x = refl
is_told_back false x = refl
