use Rattle.wake_core.specs.WorldOf.{plain_of}
use Rattle.cy_args.specs.PlayViews.{play_words_of}
use Rattle.cy_args.specs.Views.{make_words_of}
use Rattle.cy_commands.proofs.MakeExits.{unmade, done, unplayed, set_up_by, in_turn}
use Rattle.cy_commands.proofs.commands.make.due_made.Goals as goal

pub returns-in-Err : goal.returns-in-Err
returns-in-Err g c =
    let w = make_words_of c.args.make.now in
    let run = in_turn w (play_words_of c.args.play.now) c.args.replay (plain_of c.args.world.now) c.requires.play c.requires.run in
    unmade w c.args.replay (plain_of c.args.world.now) _ _ c.in-Err.error _ _ c.requires.asked.some c.requires.made run c.in-Err.ensures c.due_unmade.ensures

pub write_both-requires-clause-set_up : goal.write_both-requires-clause-set_up
write_both-requires-clause-set_up g c κs within = set_up_by (make_words_of c.args.make.now) (play_words_of c.args.play.now) c.args.replay c.requires.play c.requires.made

pub returns-in-Ok : goal.returns-in-Ok
returns-in-Ok g c =
    let w = make_words_of c.args.make.now in
    let run = in_turn w (play_words_of c.args.play.now) c.args.replay (plain_of c.args.world.now) c.requires.play c.requires.run in
    done w (play_words_of c.args.play.now) c.args.replay (plain_of c.args.world.now) _ _ _ c.in-Ok.line c.requires.play c.requires.asked.some c.requires.made run c.in_default.ensures.done (c.in_default.ensures.causes.quiet (λ e. e)) c.in-Ok.ensures.writes c.in-Ok.ensures.line

pub returns-in-Err-write_both : goal.returns-in-Err-write_both
returns-in-Err-write_both g c =
    let w = make_words_of c.args.make.now in
    let run = in_turn w (play_words_of c.args.play.now) c.args.replay (plain_of c.args.world.now) c.requires.play c.requires.run in
    unplayed w (play_words_of c.args.play.now) c.args.replay (plain_of c.args.world.now) _ _ _ c.in-Err-write_both.failure _ _ c.requires.play c.requires.asked.some c.requires.made run c.in_default.ensures.done (c.in_default.ensures.causes.quiet (λ e. e))
    c.in-Err-write_both.ensures.writes c.in-Err-write_both.ensures.causes c.due_unplayed.ensures
