use Rattle.cy_args.proofs.Asked.{ask_for_one}
use Rattle.cy_args.proofs.laws.words_ask_for_one.Goals as goal

pub returns : goal.returns
returns c = ask_for_one
