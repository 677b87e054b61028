use Rattle.std.specs.FinMap.{get-empty}
use Rattle.std.specs.Ordering.{nat_cmp}
use Rattle.std.proofs.Common.{refl, subst, sym}
use Rattle.cy_store.specs.Memory.{new_memory}
use Rattle.cy_make.specs.Drafts.{IsQuiet}
use Rattle.cy_make.proofs.drafts.Drafts.new.Goals as goal

quiet_new : IsQuiet new_memory
quiet_new = record { faults = refl; calls = get-empty nat_cmp; puts = get-empty nat_cmp }

pub invariant_of-result : goal.invariant_of-result
invariant_of-result c = (subst IsQuiet (sym c.new.ensures) quiet_new, tt)
