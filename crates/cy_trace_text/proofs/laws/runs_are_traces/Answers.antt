use Rattle.cy_trace_text.proofs.RunTexts.{run_text}
use Rattle.cy_trace_text.proofs.laws.runs_are_traces.Goals as goal

pub returns : goal.returns
returns c = run_text
