-- What acquiring a croutine comes to.
use Rattle.std.proofs.Common.{ℕ, ◌≡◌, true, false, refl}
use Rattle.wake_core.specs.Plain.{Plain}
use Rattle.wake_core.specs.Events.{IsFree, Acquires, after_acquire}
use Rattle.wake_core.specs.WorldCalls.{MayAcquire, Acquired}

pub acquire_refused : {p c : ℕ} {w : Plain} → MayAcquire p c w → (IsFree w.hands c → ⊥) → Acquired p c false w w
acquire_refused {p} {c} {w} may held = record { taken = λ e. absurd (false_true e); held = λ e. held; same = λ e. refl }
  where
    false_true : false ≡ true → ⊥
    false_true e = cc

pub acquire_taken : {p c : ℕ} {w v : Plain} → Acquires p c w v → Acquired p c true w v
acquire_taken {p} {c} {w} {v} event = record { taken = λ e. event; held = λ e. absurd (true_false e); same = λ e. absurd (true_false e) }
  where
    true_false : true ≡ false → ⊥
    true_false e = cc

pub acquired : {p c : ℕ} {w v : Plain} → MayAcquire p c w → IsFree w.hands c → v ≡ after_acquire p c w → Acquires p c w v
acquired {p} {c} {w} {v} may free effect = record { known = may.known; idle = may.idle; free = free; effect = effect }
