use Rattle.std.proofs.Common.{◌≡◌, ◌+◌, ◌++◌, take, map}
use Rattle.cy_trace_text.proofs.lines.push_digits.Given as goal

abbrev pub invariant-loop-role : goal.invariant-loop-role
invariant-loop-role l = l.to.items ≡ l.fn.to.items ++ map (λ n. 48 + n) (take l.role-index l.roles)
