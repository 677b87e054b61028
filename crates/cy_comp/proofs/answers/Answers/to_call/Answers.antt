use Rattle.std.proofs.Common.{refl}
use Rattle.cy_comp.proofs.Searching.{found_read, gap_read}
use Rattle.cy_comp.proofs.answers.Answers.to_call.Goals as goal

pub returns-in-Ok : goal.returns-in-Ok
returns-in-Ok c =
    found_read _ _ _ _ c.args.call _ c.self.view_is c.as_slice.ensures.value c.as_slice-in-Ok.ensures.value c.self.invariant c.in-Ok.ensures.found _ c.index-as_slice-place.is

pub returns-in-Err : goal.returns-in-Err
returns-in-Err c = gap_read _ _ _ _ c.args.call _ c.self.view_is c.as_slice.ensures.value c.as_slice.ensures.value c.in-Err.ensures.absent
