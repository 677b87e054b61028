use Rattle.std.proofs.Common.{List, subst, sym}
use Rattle.cy_msg.specs.Once.{IsOnce}
use Rattle.cy_reader.specs.declared.known.Known.{Known}
use Rattle.cy_reader.specs.Said.{names_of}
use Rattle.cy_salvage.proofs.merged.Merged.in_time.Goals as goal

pub invariant_of-result : goal.invariant_of-result
invariant_of-result c = record {
  once = subst (λ (l : List Known). IsOnce (names_of l)) (sym c.in_ok-kept.ensures.channels) c.self.invariant.once;
  short = c.self.invariant.short;
}
