-- Each way keeps what holds of a world, and each world on it is safe.
use Rattle.std.proofs.Common.{refl}
use Rattle.cy_fuse.specs.Laws.{FetchesFind}
use Rattle.wake_core.specs.Plain.{Plain}
use Rattle.wake_core.specs.Laws.{Events, none, more}
use Rattle.wake_core.specs.Sound.{Sound}
use Rattle.wake_core.specs.Rest.{at_rest}
use Rattle.wake_core.specs.Way.{Replaces, Leads, ended, happens, anew, IsSafe, IsLed}
use Rattle.wake_core.proofs.Runs.{event_sound, none_lost, replaced_sound}
use Rattle.wake_core.proofs.Outside.{outside_sound}

replaces_sound : (w v : Plain) → Replaces w v → Sound w → Sound v
replaces_sound w v r s = outside_sound (at_rest w) v r.same r.nothing
    (replaced_sound w (at_rest w) r.idle (λ p. record { hand = refl; owes = record { filled = refl; looked = refl; cleared = refl } }) refl s)

pub leads_sound : FetchesFind → (w v : Plain) → Leads w v → Sound w → Sound v
leads_sound law w v ended s = s
leads_sound law w v (happens {m} e rest) s = leads_sound law m v rest (event_sound law w m e s)
leads_sound law w v (anew {m} r rest) s = leads_sound law m v rest (replaces_sound w m r s)

pub events_lead : (w v : Plain) → Events w v → Leads w v
events_lead w v none = ended
events_lead w v (more {m} e rest) = happens e (events_lead m v rest)

pub leads_on : {w m v : Plain} → Leads w m → Leads m v → Leads w v
leads_on ended b = b
leads_on (happens e a) b = happens e (leads_on a b)
leads_on (anew r a) b = anew r (leads_on a b)

safe : (w : Plain) → Sound w → IsSafe w
safe w s = record { one_holder = s.consistent.held.one; none_lost = none_lost w s }

pub is_led : FetchesFind → (w v : Plain) → Leads w v → Sound w → IsLed w v
is_led law w v way s = record { way = way; always = λ m to from. safe m (leads_sound law w m to s) }

pub led_by : FetchesFind → (w v : Plain) → Events w v → Sound w → IsLed w v
led_by law w v e s = is_led law w v (events_lead w v e) s
