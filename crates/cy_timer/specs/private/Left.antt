-- What is left to be played.
use Rattle.std.specs.Prelude.{List}
use Rattle.cy_msg.specs.declared.token.Token.{Token}
use Rattle.cy_timer.specs.private.Sources.{all_left}
use Rattle.cy_timer.specs.declared.sources.Sources.{Sources}

abbrev pub left_of : Sources → List Token
left_of s = all_left s.messages.now s.ticks.items
