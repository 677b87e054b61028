use Rattle.cy_args.proofs.InForm.{play_files_apart}
use Rattle.cy_args.proofs.laws.play_files_differ.Goals as goal

pub returns : goal.returns
returns c = play_files_apart
