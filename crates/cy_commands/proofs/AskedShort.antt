-- The files of a `make` that is asked for are short.
use Rattle.cy_args.specs.Command.{Make}
use Rattle.cy_args.proofs.InForm.{asked_fits}
use Rattle.cy_make.specs.Texts.{TextsAreShort}
use Rattle.cy_commands.specs.Commands.MakeWork.{AskedTextsAreShort}

pub short : TextsAreShort → AskedTextsAreShort
short are words w c asked = are w.prefix c (asked_fits words (Make w) asked).2
