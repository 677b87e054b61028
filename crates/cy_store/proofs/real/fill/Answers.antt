use Rattle.std.proofs.Common.{rules, sym, subst}
use Rattle.std.specs.Io.KnownBytes.{Consumes}
use Rattle.std.proofs.KnownBytes.{Consumes-trans}
use Rattle.cy_store.proofs.Filling.{take-filled}
use Rattle.cy_store.proofs.real.fill.Goals as goal

pub loop-filled-preserved : goal.loop-filled-preserved
loop-filled-preserved g c =
    let more = Consumes-trans _ _ _ _ _ c.loop-filled.invariant.came c.in_ok-count.ensures.bytes in
    record {
      within = search rules;
      came = subst (Consumes _ _) (sym (take-filled c.loop-filled.filled c.in_ok-count.count c.loop-filled.buf c.read_some.new.buf _ c.loop-filled.invariant.within (search rules))) more;
    }
