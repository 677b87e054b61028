-- Files in memory of which no call is to fail.
use Rattle.std.specs.Prelude.{ℕ, ◌≡◌, None}
use Rattle.std.specs.FinMap.{get}
use Rattle.cy_store.specs.Memory.{Memory}

-- No call failed so far, and none is to.
pub record IsQuiet (m : Memory) : Type 0 where
  pub faults : m.faults ≡ 0
  pub calls : (call : ℕ) → get m.failing_calls call ≡ None
  pub puts : (put : ℕ) → get m.failing_puts put ≡ None
