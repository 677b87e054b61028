-- What the type stands for in which the code keeps the words of `play`.
use Rattle.std.specs.Prelude.{option_map}
use Rattle.cy_msg.specs.Request.{components_of, stop_at_of}
use Rattle.cy_args.specs.declared.play_words.Play.{Play}
use Rattle.cy_args.specs.FilterViews.{filter_of}
use Rattle.cy_args.specs.PlayWords.{PlayWords}

abbrev pub play_words_of : Play → PlayWords
play_words_of p = record {
  request = record {
    components = components_of p.components;
    input = p.input.now;
    filter = filter_of p.wanted;
    stop = option_map stop_at_of p.stop;
  };
  output = p.output.now;
  trace = p.trace.now;
  serial = p.serial;
}
