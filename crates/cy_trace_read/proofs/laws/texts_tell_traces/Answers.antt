use Rattle.cy_trace_read.proofs.Prefixes.{texts_tell}
use Rattle.cy_trace_read.proofs.laws.texts_tell_traces.Goals as goal

pub returns : goal.returns
returns c = texts_tell
