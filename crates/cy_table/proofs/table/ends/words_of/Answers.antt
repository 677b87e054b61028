use Rattle.std.proofs.Common.{◌<◌, ◌≤◌, ◌∙◌, sym, ap, length, arith, true}
use Rattle.cy_comp.specs.Routine.{RoutineView}
use Rattle.wake_core.specs.Fields.{no_routine}
use Rattle.cy_table.specs.Layout.{state_number, yes_or_no}
use Rattle.cy_table.proofs.Laying.{read_item, read_or, words_more, words_done}
use Rattle.cy_table.proofs.table.ends.words_of.Goals as goal

pub loop-c-preserved : goal.loop-c-preserved
loop-c-preserved c =
    let p = c.args.parts.now in
    let k = c.loop-c.c in
    let routines = c.as_slice-routines.result.now in
    let spent = c.as_slice-spent.result.now in
    let less : k < length routines = omega (arith, c.loop-c-test.true) in
    let in_routines : k < length p.routines = omega (arith, less, ap length c.as_slice-routines.ensures) in
    let in_spent : k < length spent = omega (arith, in_routines, ap length c.as_slice-spent.ensures, c.requires.routines_fit, c.requires.spent_fit) in
    let routine = read_item no_routine c.index-routines-c.result routines p.routines k c.as_slice-routines.ensures less c.index-routines-c.is in
    let flag = read_or true _ spent p.spent k c.as_slice-spent.ensures in_spent in
    record {
      so_far = words_more c.loop-c.invariant.so_far in_routines (c.state_number.ensures ∙ ap state_number (c.state.ensures ∙ ap (λ (r : RoutineView). r.state) (sym routine)))
          (c.word_of-in-loop-c.ensures ∙ ap yes_or_no flag);
    }

pub returns : goal.returns
returns c =
    let p = c.args.parts.now in
    let all : length p.routines ≤ c.loop-c.c = omega (arith, c.loop-c-test.false, ap length c.as_slice-routines.ensures) in
    words_done c.loop-c.invariant.so_far all c.requires.routines_fit
