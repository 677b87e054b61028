-- A component that is followed, after one more call.
use Rattle.std.proofs.Common.{ℕ, ◌+◌, ◌-◌, ◌≡◌, ◌≤◌, List, [], ◌∷◌, ◌++◌, length, length-append, ap, arith}
use Rattle.cy_comp.specs.declared.call.Call.{Call}
use Rattle.cy_comp.specs.Body.{BodyView}
use Rattle.cy_comp.specs.Step.{step}
use Rattle.cy_comp.proofs.Taking.{keeps}
use Rattle.wake_core.specs.declared.entries.TheConstants.{MOST_PLANNED}
use Rattle.cy_verify.specs.private.Calling.{IsCaller}

pub caller_keeps : (b next : BodyView) (cursor after count : ℕ) (calls items : List Call) (x : Call) → IsCaller b cursor count calls → next.kind ≡ b.kind → next.kept ≡ (step b.kind b.kept x.tuple).0
    → items ≡ calls ++ x ∷ [] → after ≡ x.position + 1 → 1 ≤ MOST_PLANNED - count → IsCaller next after (count + 1) items
caller_keeps b next cursor after count calls items x r kind kept more at room =
    let k = keeps b next cursor after calls items x record { kept = r.kept; behind = r.behind } kind kept more at in
    record {
      kept = k.kept;
      behind = k.behind;
      counted = omega (arith, r.counted, ap length more, length-append calls (x ∷ []));
      few = omega (arith, room);
    }

pub one_less : (m n : ℕ) → m - (n + 1) ≡ m - n - 1
one_less m n = omega arith
