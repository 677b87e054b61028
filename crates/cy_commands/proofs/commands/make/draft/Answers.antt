use Rattle.std.proofs.Common.{ap}
use Rattle.std.specs.FinMap.{empty}
use Rattle.cy_store.specs.Memory.{shows_of}
use Rattle.cy_args.specs.Views.{make_words_of}
use Rattle.cy_commands.proofs.MakeDrafts.{drafted, unfailing}
use Rattle.cy_commands.proofs.commands.make.draft.Goals as goal

pub returns-in-Ok : goal.returns-in-Ok
returns-in-Ok c = drafted (make_words_of c.args.make.now) _ _ (ap shows_of c.new-drafts.ensures) c.in-Ok.ensures.done (c.in-Ok.ensures.causes.quiet (λ e. e))

pub memory_for_files-requires : goal.memory_for_files-requires
memory_for_files-requires c = λ at. unfailing empty _ (shows_of c.write_inputs-written.new.store) (ap shows_of c.new-drafts.ensures) c.have_no_faults.ensures (c.in-Err.ensures.causes.failed at)
