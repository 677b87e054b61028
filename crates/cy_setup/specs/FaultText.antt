-- How it is told what is wrong with a file of a replay, and whether it is a limit that was passed.
use Rattle.std.specs.Prelude.{ℕ, List, [], ◌++◌, Bool, true, false, codes}
use Rattle.std.specs.Fmt.{decimal}
use Rattle.cy_msg.specs.FaultText.{file_line, limit_text, named_text}
use Rattle.cy_text.specs.FaultText.{text_text, is_text_limit}
use Rattle.cy_dag.specs.FaultText.{dag_text, is_dag_limit}
use Rattle.cy_sched.specs.FaultText.{sched_text, is_sched_limit}
use Rattle.cy_answers.specs.FaultText.{answers_text, is_answers_limit}
use Rattle.cy_reader.specs.FaultText.{load_text, is_load_limit}
use Rattle.cy_setup.specs.declared.error.Fault.{Fault}
use Rattle.cy_setup.specs.declared.error.Fault.TheVariants as fault
use Rattle.cy_setup.specs.declared.error.Refusal.{Refusal}

abbrev pub fault_text : Fault → List ℕ
fault_text (fault.ConfigTooLarge count) = limit_text (codes "ConfigTooLarge") count
fault_text (fault.Text e) = text_text e
fault_text (fault.Dag e) = dag_text e
fault_text (fault.Sched e) = sched_text e
fault_text (fault.Answers e) = answers_text e
fault_text (fault.StopUnknown name) = named_text (codes "StopUnknown") [] name
fault_text (fault.Record e) = load_text e
fault_text (fault.TooMany count) = limit_text (codes "TooMany") count
fault_text (fault.TraceTooLarge count) = limit_text (codes "TraceTooLarge") count
fault_text (fault.BadLine line) = codes "line " ++ decimal line ++ codes ": Bad"
fault_text fault.Unlawful = codes "not a lawful run"
fault_text (fault.Also name) = codes "is also " ++ name
fault_text (fault.TypesDiffer name) = named_text (codes "TypesDiffer") [] name
fault_text (fault.DescriptionsDiffer name) =
    named_text (codes "DescriptionsDiffer") [] name
fault_text (fault.Differs place) = codes "differs at " ++ decimal place

abbrev pub is_limit : Fault → Bool
is_limit (fault.ConfigTooLarge count) = true
is_limit (fault.Text e) = is_text_limit e
is_limit (fault.Dag e) = is_dag_limit e
is_limit (fault.Sched e) = is_sched_limit e
is_limit (fault.Answers e) = is_answers_limit e
is_limit (fault.StopUnknown name) = false
is_limit (fault.Record e) = is_load_limit e
is_limit (fault.TooMany count) = true
is_limit (fault.TraceTooLarge count) = true
is_limit (fault.BadLine line) = false
is_limit fault.Unlawful = false
is_limit (fault.Also name) = false
is_limit (fault.TypesDiffer name) = false
is_limit (fault.DescriptionsDiffer name) = false
is_limit (fault.Differs place) = false

-- The line that tells it of its file.
abbrev pub refusal_line : Refusal → List ℕ
refusal_line r = file_line r.file (fault_text r.fault)
