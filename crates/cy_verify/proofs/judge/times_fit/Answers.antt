use Rattle.std.proofs.Common.{sym}
use Rattle.wake_core.specs.Serial.{last_clock}
use Rattle.cy_verify.proofs.TimesFit.{all_before}
use Rattle.cy_verify.proofs.judge.times_fit.Goals as goal

pub returns : goal.returns
returns c = all_before c.args.list.now.tokens c.in-Some.last.now last_clock c.args.list.now.timed (rw (← c.as_slice-tokens.ensures) (sym c.in-Some.ensures.value)) c.fits.ensures
