-- Whatever a write of a line answers, a front of it was written.
use Rattle.std.proofs.Common.{◌≡◌, ℕ, List, ◌++◌, take, length, Option, Some, None, Result, Ok, Err, OnOk, IsErrOf, refl, ap, arith}
use Rattle.std.specs.Option.{option_map}
use Rattle.std.proofs.lemmas.Grind.{common_steps}
use Rattle.cy_store.specs.Store.{SinkView}
use Rattle.cy_store.specs.declared.error.SinkError.{SinkError}
use Rattle.cy_store.specs.declared.error.SinkError.TheVariants as sink_error
use Rattle.cyber_cli.specs.Told.{Gets, GetsFront}

-- no byte of a line is a front of it
nothing : (o : Option (List ℕ)) (line : List ℕ) → o ≡ option_map (λ b. b ++ take 0 line) o
nothing None line = refl
nothing (Some b) line = ap (λ (x : List ℕ). Some x) (grind (arith, common_steps))

-- a whole line is one too
whole : (o : Option (List ℕ)) (line : List ℕ) → option_map (λ b. b ++ line) o ≡ option_map (λ b. b ++ take (length line) line) o
whole None line = refl
whole (Some b) line = ap (λ (x : List ℕ). Some x) (grind (arith, common_steps))

-- whatever a write answered, a front was written
pub front_written : {T : Type 0} (r : Result T SinkError) (old new : SinkView) (line : List ℕ) → OnOk r (Gets old new line)
    → (IsErrOf r sink_error.Failed → GetsFront old new line) → (IsErrOf r sink_error.Memory → new.bytes ≡ old.bytes) → GetsFront old new line
front_written (Ok x) old new line ok failed memory = (length line, rw ok (whole old.bytes line))
front_written (Err sink_error.Failed) old new line ok failed memory = failed refl
front_written (Err sink_error.Memory) old new line ok failed memory = (0, rw (memory refl) (nothing old.bytes line))
