-- Events, one after another.
use Rattle.wake_core.specs.Plain.{Plain}
use Rattle.wake_core.specs.Laws.{Event, Events, none, more}

pub one : {w v : Plain} → Event w v → Events w v
one e = more e none

pub linked : {w m v : Plain} → Events w m → Events m v → Events w v
linked none b = b
linked (more e a) b = more e (linked a b)
