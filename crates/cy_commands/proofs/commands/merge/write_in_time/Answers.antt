use Rattle.cy_args.specs.Views.{merge_words_of}
use Rattle.cy_commands.proofs.MergeExits.{starved_before}
use Rattle.cy_commands.proofs.commands.merge.write_in_time.Goals as goal

pub returns-in-Ok : goal.returns-in-Ok
returns-in-Ok g c before is = c.write_sorted-due.ensures before c.args.merged is c.in-Ok.ensures.ordered

pub returns-in-Err : goal.returns-in-Err
returns-in-Err g c before is =
    starved_before (merge_words_of c.args.merge.now) before _ c.args.merged _ _ is record { status = c.out_of_memory.ensures.status; told = c.out_of_memory.ensures.line }
