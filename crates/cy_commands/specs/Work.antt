-- What a command makes of the files that it read.
use Rattle.std.specs.Prelude.{ℕ, ◌≡◌, List, Option, IfSome}
use Rattle.cy_store.specs.Files.{Files}
use Rattle.cy_store.specs.Reads.{Reads, Accepts}
use Rattle.cy_store.specs.Write.{Write}
use Rattle.cy_setup.specs.declared.error.Refusal.{Refusal}

-- What it writes to the store, in order, and the text that it prints.
pub record Work : Type 0 where
  pub writes : List Write
  pub text : List ℕ

-- Each file that it reads is there and accepted, and this is what it makes of what they say.
pub record IsMadeOf {A : Type 0} (reads : Files → Reads Refusal A) (makes : A → Work → Type 0)
    (files : Option Files) (work : Work) : Type 0 where
  pub read : A
  pub accepted : IfSome files (λ m. reads m ≡ Accepts read)
  pub made : makes read work
