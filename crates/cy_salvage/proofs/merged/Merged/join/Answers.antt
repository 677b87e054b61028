use Rattle.cy_salvage.proofs.JoinedOnce.{still_once}
use Rattle.cy_salvage.proofs.merged.Merged.join.Goals as goal

pub invariant_of-result : goal.invariant_of-result
invariant_of-result c = record {
  once = still_once c.into_kept.result c.self.inside.kept c.in_ok-kept.kept c.in_ok-kept.ensures.joined c.self.invariant.once;
  short = c.if-size-gt-LONGEST_FILE.false;
}
