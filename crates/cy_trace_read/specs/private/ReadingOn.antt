-- A trace that is read on by lines that are taken off the front of its text.
use Rattle.std.specs.Prelude.{ℕ, ◌≡◌, ◌<◌, List, length}
use Rattle.cy_trace.specs.Taking.{TakesCalls, TakesMessages}
use Rattle.cy_trace.specs.declared.trace.TapeEntry.{TapeEntry}
use Rattle.cy_trace.specs.declared.trace.TraceCall.{TraceCall}
use Rattle.cy_trace_read.specs.declared.building.Building.{Building}
use Rattle.cy_trace_read.specs.declared.building.Building.TheVariants.{Called, Taped}

-- With the lines that are taken off the front there are more calls of a component or messages of
-- the tape, or nothing is taken.
abbrev pub ReadsOn : Building → List ℕ → (line : ℕ) → Building → List ℕ → (next : ℕ) → Type 0
ReadsOn (Called prefix name overflow roles old) bytes line b rest next =
    (new : List TraceCall) × (b ≡ Called prefix name overflow roles new)
    × TakesCalls bytes rest old new line next
ReadsOn (Taped prefix old) bytes line b rest next = (new : List TapeEntry)
    × (b ≡ Taped prefix new) × TakesMessages bytes rest old new line next
ReadsOn a bytes line b rest next = (b ≡ a) × (rest ≡ bytes) × (next ≡ line)

-- A message more can be counted by 32 bits.
abbrev pub HasRoom : Building → Type 0
HasRoom (Taped prefix tape) = length tape < 4294967295
HasRoom b = Unit {0}
