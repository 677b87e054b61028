use Rattle.cy_args.specs.PlayViews.{play_words_of}
use Rattle.cy_commands.proofs.NamesApart.{is_unread}
use Rattle.cy_commands.proofs.apart.ready.Goals as goal

pub returns-in-Err-clause-comes : goal.returns-in-Err-clause-comes
returns-in-Err-clause-comes g c = is_unread (play_words_of c.args.play.now) _ _ c.in-Err.error c.in-Err.ensures.comes
