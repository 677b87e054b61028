use Rattle.std.proofs.Common.{ap, sym, ◌∙◌, Some, List, ℕ}
use Rattle.cy_trace_read.proofs.ReadingSteps.{digit_read, digit_fails, digits_end}
use Rattle.cy_trace_read.proofs.call.digits.Goals as goal

pub returns-in_default : goal.returns-in_default
returns-in_default c = digit_fails c.loop-byte.roles.items _ c.loop-byte.byte-index c.args.bytes.now c.loop-byte.invariant c.loop-byte-test.true (sym c.in_default.ensures)

pub loop-byte-preserved : goal.loop-byte-preserved
loop-byte-preserved c =
    rw c.in_ok-push.ensures.items
    (digit_read c.loop-byte.roles.items _ c.loop-byte.byte-index c.args.bytes.now c.loop-byte.invariant c.in-Some.role c.loop-byte-test.true (sym c.in-Some.ensures))

pub returns : goal.returns
returns c =
    digits_end c.loop-byte.roles.items _ c.loop-byte.byte-index c.args.bytes.now c.loop-byte.invariant c.loop-byte-test.false
    ∙ ap (λ (xs : List ℕ). Some xs) (sym c.new.ensures)
