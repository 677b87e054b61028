use Rattle.wake_core.specs.WorldOf.{plain_of}
use Rattle.cy_args.specs.PlayViews.{play_words_of}
use Rattle.cy_commands.proofs.PlayRuns.{has_run, any_run, threads_run}
use Rattle.cyber_cli.proofs.threads.world_of_threads.Goals as goal

pub returns : goal.returns
returns g c =
    let w = play_words_of c.args.play.now in
    let opens = c.in_ok-world.ensures.opens in
    record {
      run = has_run w.serial w.request c.args.replay.now (plain_of c.in_ok-world.world) (plain_of c.in-Ok.world) c.played_places_are_there.ensures c.places.ensures c.requires.set_up opens (any_run w.serial c.args.replay.now (plain_of c.in-Ok.world) c.requires.threads)
          (threads_run c.args.replay.now (plain_of c.in_ok-world.world) (plain_of c.in-Ok.world) opens c.in-Ok.ensures.lawful) c.in-Ok.ensures.counts c.in-Ok.ensures.led c.trace_is_read_back.ensures;
    }
