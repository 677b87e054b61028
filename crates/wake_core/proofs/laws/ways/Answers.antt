-- The laws, from the lemmas on each part.
use Rattle.wake_core.proofs.Led.{events_lead, leads_on, leads_sound, is_led}
use Rattle.wake_core.proofs.laws.ways.Goals as goal

pub returns : goal.returns
returns k = record {
  events = events_lead;
  onward = λ w m v a b. leads_on a b;
  sound = leads_sound k.fetches_find.ensures.find;
  led = is_led k.fetches_find.ensures.find;
}
