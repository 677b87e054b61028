-- How a due status is told, and what is answered then.
use Rattle.std.specs.Prelude.{ℕ, ◌≡◌, ◌⊎◌, List, ◌++◌, take}
use Rattle.std.specs.Option.{option_map}
use Rattle.cy_store.specs.Store.{SinkView, Rose}
use Rattle.cy_commands.specs.declared.status.Status.{Status}
use Rattle.cy_commands.specs.declared.status.Status.TheVariants.{Done, SinkFault, Memory}
use Rattle.cy_commands.specs.Lines.{output_line}

-- The two sinks, before and after.
pub record Sinks : Type 0 where
  pub out : SinkView
  pub err : SinkView

-- A sink got a line, or a front of it.
abbrev pub Gets : SinkView → SinkView → List ℕ → Type 0
Gets old new line = new.bytes ≡ option_map (λ b. b ++ line) old.bytes

abbrev pub GetsFront : SinkView → SinkView → List ℕ → Type 0
GetsFront old new line = (n : ℕ) × (new.bytes ≡ option_map (λ b. b ++ take n line) old.bytes)

-- The due line couldn't be told, since the count of the sink that it goes to rose: `out` for Done,
-- after which `err` is told so as far as it can be, and `err` for every other status.
abbrev pub IsUntold : Status → List ℕ → Sinks → Sinks → Type 0
IsUntold Done line old new =
    Rose old.out.faults new.out.faults × GetsFront old.out new.out line
    × GetsFront old.err new.err output_line
IsUntold due line old new = Rose old.err.faults new.err.faults × GetsFront old.err new.err line
    × (new.out ≡ old.out)

-- A sink wanted memory while the due line was told, of which it has a front.
abbrev pub IsHalfTold : Status → List ℕ → Sinks → Sinks → Type 0
IsHalfTold Done line old new = GetsFront old.out new.out line × (new.err ≡ old.err)
IsHalfTold due line old new = GetsFront old.err new.err line × (new.out ≡ old.out)

-- How a due status is told, and what is answered: Done on `out`, every other one on `err`, the
-- other sink staying as it was. A fault of a sink gives SinkFault in its place, and a sink's want
-- of memory gives Memory.
abbrev pub IsTold : Status → List ℕ → Sinks → Sinks → Status → Type 0
IsTold due line old new Done = (due ≡ Done) × Gets old.out new.out line × (new.err ≡ old.err)
IsTold due line old new SinkFault = IsUntold due line old new
IsTold due line old new Memory = ((due ≡ Memory) × Gets old.err new.err line × (new.out ≡ old.out))
    ⊎ IsHalfTold due line old new
IsTold due line old new answer = (due ≡ answer) × Gets old.err new.err line × (new.out ≡ old.out)
