use Rattle.std.proofs.Common.{ap, rules, Err}
use Rattle.cy_store.specs.Store.{StoreView}
use Rattle.cy_args.specs.PlayViews.{play_words_of}
use Rattle.cy_args.specs.Views.{make_words_of}
use Rattle.cy_commands.proofs.MakeExits.{made, has_reader}
use Rattle.cy_commands.proofs.MakeDrafts.{unmissed, unrefused}
use Rattle.cy_commands.proofs.commands.make.set_up_made.Goals as goal

pub read_files-replay-requires : goal.read_files-replay-requires
read_files-replay-requires g c = (search rules, has_reader (make_words_of c.args.make.now) (play_words_of c.args.play.now) c.requires.play)

pub memory_for_set_up-requires-clause-refused : goal.memory_for_set_up-requires-clause-refused
memory_for_set_up-requires-clause-refused g c = λ refusal is.
    unrefused (make_words_of c.args.make.now) (play_words_of c.args.play.now) _ refusal c.requires.play c.requires.asked c.is_text.ensures c.made_files_are_accepted.ensures c.in_ok-drafts.ensures
    (c.in-Err.ensures.comes.refused refusal (ap Err is)).1

pub memory_for_set_up-requires-clause-failed : goal.memory_for_set_up-requires-clause-failed
memory_for_set_up-requires-clause-failed g c = λ file is.
    unmissed (make_words_of c.args.make.now) (play_words_of c.args.play.now) _ _ file c.requires.play c.requires.asked c.is_text.ensures c.made_files_are_accepted.ensures c.in_ok-drafts.ensures c.have_no_faults.ensures
    (c.in-Err.ensures.comes.failed file (ap Err is)).1
