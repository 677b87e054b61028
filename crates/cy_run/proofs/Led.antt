-- A play on many threads, from the world that it begins with to the one that it leaves.
use Rattle.std.proofs.Common.{◌≡◌, sym, subst}
use Rattle.wake_core.specs.Plain.{Plain}
use Rattle.wake_core.specs.Sound.{Sound}
use Rattle.wake_core.specs.Way.{anew, IsLed, WayLaws}
use Rattle.cy_table.specs.Ends.{IsReached}

-- The table's events led to a world at rest, and from the one with other threads it was finished.
pub was_led : WayLaws → (first made w v : Plain) → made ≡ first → Sound first → IsReached made w → IsLed w v → IsLed first v
was_led law first made w v same s reached finished =
    let r : IsReached first w = subst (λ (x : Plain). IsReached x w) same reached in
    law.led first v (law.onward first r.world v (law.events first r.world r.events) (anew r.replaced finished.way)) s
