use Rattle.cy_args.specs.PlayViews.{play_words_of}
use Rattle.cy_args.specs.Views.{make_words_of}
use Rattle.cy_commands.proofs.MakeExits.{set_up_by}
use Rattle.cy_commands.proofs.commands.make.make_and_play.Goals as goal

pub played_world-requires : goal.played_world-requires
played_world-requires g c = set_up_by (make_words_of c.args.make.now) (play_words_of c.args.play.now) c.in-Ok.replay c.requires.play c.in-Ok.ensures.made
