use Rattle.cy_commands.proofs.OneVerdict.{one_verdict}
use Rattle.cy_commands.proofs.laws.verdicts_are_one.Goals as goal

pub returns : goal.returns
returns c = one_verdict c.traces_tell_runs.ensures.runs c.texts_tell_traces.ensures c.runs_are_traces.ensures c.first_bad_is_one.ensures.good
