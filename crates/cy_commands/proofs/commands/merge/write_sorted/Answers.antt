use Rattle.cy_args.specs.Views.{merge_words_of}
use Rattle.cy_commands.proofs.MergeExits.{merged, unwritten}
use Rattle.cy_commands.proofs.commands.merge.write_sorted.Goals as goal

pub returns-in-Ok : goal.returns-in-Ok
returns-in-Ok g c before read is ordered =
    merged (merge_words_of c.args.merge.now) before _ _ read c.args.sorted.now c.in-Ok.messages c.args.records _ _ is ordered c.in-Ok.ensures c.requires.many c.due_kept.ensures

pub returns-in-Err : goal.returns-in-Err
returns-in-Err g c before read is ordered =
    unwritten (merge_words_of c.args.merge.now) before _ _ read c.args.sorted.now c.in-Err.error _ _ is ordered c.in-Err.ensures c.due_unwritten.ensures
