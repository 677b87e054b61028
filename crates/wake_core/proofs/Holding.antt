-- The croutine that a thread has in hand.
use Rattle.std.proofs.Common.{ℕ, ◌≡◌, ◌<◌, sym, ap, length, Option, Some}
use Rattle.std.specs.Option.{option_map_or}
use Rattle.wake_core.specs.Plain.{Plain, Hand}
use Rattle.wake_core.specs.Sound.{Sound}
use Rattle.wake_core.specs.WorldCalls.{in_hand}

pub in_hand_is : (w : Plain) (p : ℕ) (h : Hand) → w.hands p ≡ Some h → h.croutine ≡ in_hand p w
in_hand_is w p h e = sym (ap (λ (o : Option Hand). option_map_or (λ (h : Hand). h.croutine) o 0) e)

pub hand_known : (w : Plain) (p : ℕ) (h : Hand) → w.hands p ≡ Some h → Sound w → h.croutine < length w.routes
hand_known w p h e s = s.consistent.held.known p h.croutine h.phase e
