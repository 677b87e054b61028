-- Lines that are taken off the front of a text as they stand.
use Rattle.std.specs.Prelude.{ℕ, ◌≡◌, ◌+◌, List, ◌++◌, length, map}
use Rattle.std.specs.List.{flat_map}
use Rattle.cy_trace.specs.TraceForm.{AreLines, whole_line}
use Rattle.cy_trace.specs.declared.line.Line.TheVariants.{Call, Tape}
use Rattle.cy_trace.specs.declared.trace.TapeEntry.{TapeEntry}
use Rattle.cy_trace.specs.declared.trace.TraceCall.{TraceCall}

-- The bytes begin with the lines of these calls, with which there are more of them and of lines.
pub record TakesCalls (bytes rest : List ℕ) (old new : List TraceCall) (line next : ℕ) : Type 0
  where
    pub taken : List TraceCall
    pub text : bytes ≡ flat_map whole_line (map Call taken) ++ rest
    pub fits : AreLines (map Call taken)
    pub more : new ≡ old ++ taken
    pub count : next ≡ line + length taken

-- The same of messages of the tape.
pub record TakesMessages (bytes rest : List ℕ) (old new : List TapeEntry) (line next : ℕ) : Type 0
  where
    pub taken : List TapeEntry
    pub text : bytes ≡ flat_map whole_line (map Tape taken) ++ rest
    pub fits : AreLines (map Tape taken)
    pub more : new ≡ old ++ taken
    pub count : next ≡ line + length taken
