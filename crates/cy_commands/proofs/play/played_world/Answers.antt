use Rattle.cy_args.specs.PlayViews.{play_words_of}
use Rattle.cy_commands.proofs.PlayRuns.{has_run, serial_run, lawful_run}
use Rattle.cy_commands.proofs.play.played_world.Goals as goal

pub returns : goal.returns
returns c =
    let w = play_words_of c.args.play.now in
    let opens = c.in_ok-world.ensures.opens in
    record {
      run = has_run w.serial w.request c.args.replay.now _ _ c.played_places_are_there.ensures c.places.ensures c.requires opens
          (serial_run w.serial c.args.replay.now _ _ opens c.serial.ensures.run) (lawful_run c.args.replay.now _ _ opens c.serial.ensures.lawful) c.serial.ensures.stays.counts c.serial.ensures.led c.trace_is_read_back.ensures;
    }
