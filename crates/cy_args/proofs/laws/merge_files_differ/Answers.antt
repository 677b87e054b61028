use Rattle.cy_args.proofs.InForm.{merge_files_apart}
use Rattle.cy_args.proofs.laws.merge_files_differ.Goals as goal

pub returns : goal.returns
returns c = merge_files_apart
