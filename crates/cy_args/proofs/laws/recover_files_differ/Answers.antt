use Rattle.cy_args.proofs.InForm.{recover_files_apart}
use Rattle.cy_args.proofs.laws.recover_files_differ.Goals as goal

pub returns : goal.returns
returns c = recover_files_apart
