-- How a refusal is told, and whether it is a limit that was passed: limits aside, its text is its
-- name and its parts in their order, numbers as they are, texts in quotes.
use Rattle.std.specs.Prelude.{ℕ, List, [], ◌∷◌, Bool, true, false, codes}
use Rattle.cy_msg.specs.FaultText.{limit_text, named_text, numbers_text}
use Rattle.cy_dag.specs.declared.error.DagError.{DagError}
use Rattle.cy_dag.specs.declared.error.DagError.TheVariants as dag

abbrev pub dag_text : DagError → List ℕ
dag_text (dag.Shape path) = named_text (codes "Shape") [] path
dag_text dag.NoComponents = codes "NoComponents"
dag_text (dag.TooMany count) = limit_text (codes "TooMany") count
dag_text (dag.Missing component field) = named_text (codes "Missing") (component ∷ []) field
dag_text (dag.NameTwice first second) = numbers_text (codes "NameTwice") (first ∷ second ∷ [])
dag_text (dag.UnknownClass component) = numbers_text (codes "UnknownClass") (component ∷ [])
dag_text (dag.NoReader component) = numbers_text (codes "NoReader") (component ∷ [])
dag_text (dag.TooManyReaders component count) =
    numbers_text (codes "TooManyReaders") (component ∷ count ∷ [])
dag_text (dag.ReaderTwice component channel) =
    named_text (codes "ReaderTwice") (component ∷ []) channel
dag_text (dag.TooFewReaders component count) =
    numbers_text (codes "TooFewReaders") (component ∷ count ∷ [])
dag_text (dag.NotOverflow component) = numbers_text (codes "NotOverflow") (component ∷ [])
dag_text (dag.NotWhole component field) = named_text (codes "NotWhole") (component ∷ []) field
dag_text (dag.TooManyValues count) = limit_text (codes "TooManyValues") count
dag_text (dag.PathLength component value count) =
    numbers_text (codes "PathLength") (component ∷ value ∷ count ∷ [])
dag_text (dag.PathNumber component value) =
    numbers_text (codes "PathNumber") (component ∷ value ∷ [])
dag_text (dag.NotKind component value) = numbers_text (codes "NotKind") (component ∷ value ∷ [])
dag_text (dag.NotScale component value) = numbers_text (codes "NotScale") (component ∷ value ∷ [])
dag_text (dag.ZeroInterval component) = numbers_text (codes "ZeroInterval") (component ∷ [])
dag_text (dag.TwoWriters first second) = numbers_text (codes "TwoWriters") (first ∷ second ∷ [])
dag_text (dag.TimerWritten component timer) =
    numbers_text (codes "TimerWritten") (component ∷ timer ∷ [])
dag_text (dag.TriggerCycle components) = numbers_text (codes "TriggerCycle") components
dag_text (dag.ValueDiffers first second) =
    numbers_text (codes "ValueDiffers") (first ∷ second ∷ [])
dag_text (dag.ValueWritten component writer) =
    numbers_text (codes "ValueWritten") (component ∷ writer ∷ [])
dag_text (dag.TooManyChannels count) = limit_text (codes "TooManyChannels") count
dag_text dag.Memory = codes "out of memory"

abbrev pub is_dag_limit : DagError → Bool
is_dag_limit (dag.TooMany count) = true
is_dag_limit (dag.TooManyValues count) = true
is_dag_limit (dag.TooManyChannels count) = true
is_dag_limit other = false
