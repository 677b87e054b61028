use Rattle.cy_args.proofs.InForm.{split_files_apart}
use Rattle.cy_args.proofs.laws.split_files_differ.Goals as goal

pub returns : goal.returns
returns c = split_files_apart
