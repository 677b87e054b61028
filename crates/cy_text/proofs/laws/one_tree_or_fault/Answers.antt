use Rattle.cy_text.proofs.FirstFaults as faults
use Rattle.cy_text.proofs.laws.one_tree_or_fault.Goals as goal

pub returns : goal.returns
returns c = record { one = faults.one_answer; answered = faults.first_answered; due = faults.one_is_due }
