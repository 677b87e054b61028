use Rattle.cy_verify.proofs.Allowed.{allowed_both}
use Rattle.cy_verify.proofs.ending.is_allowed.Goals as goal

pub returns : goal.returns
returns c = allowed_both c.args.wiring.now.plans c.args.stop c.args.walk.now c.is_obedient.result (rw (← c.as_slice.ensures) rw (← c.as_slice-2.ensures.value) (c.is_timely.ensures.0 c.if-not-is_timely.false)) c.is_obedient.ensures
