use Rattle.std.proofs.Common.{length, ap, sym, ◌∙◌, Bor, List, ℕ}
use Rattle.std.proofs.lemmas.List.{length-map}
use Rattle.cy_args.specs.Views.{merge_words_of}
use Rattle.cy_commands.proofs.MergeExits.{united, unread}
use Rattle.cy_commands.proofs.commands.merge.merge_apart.Goals as goal

pub returns-in-Ok-read_merged : goal.returns-in-Ok-read_merged
returns-in-Ok-read_merged g c =
    c.write_in_time.ensures _ (united (merge_words_of c.args.merge.now) _ _ _ c.in-Ok-read_merged.merged c.requires.inputs c.requires.apart c.in-Ok-read_merged.ensures)

pub returns-in-Err : goal.returns-in-Err
returns-in-Err g c = unread (merge_words_of c.args.merge.now) _ _ _ c.in-Err.error _ _ c.requires.inputs c.requires.apart c.in-Err.ensures c.due_after_failed_setup.ensures

pub write_in_time-requires-clause-many : goal.write_in_time-requires-clause-many
write_in_time-requires-clause-many g c = sym (length-map c.args.inputs.now (λ (b : Bor (List ℕ)). b.now)) ∙ ap length c.requires.inputs
