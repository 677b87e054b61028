use Rattle.std.proofs.Common.{◌<◌, List, length, refl, sym, ◌∙◌, ap, subst}
use Rattle.cy_msg.specs.Placement.{scan_of}
use Rattle.wake_core.specs.Run.{Route}
use Rattle.wake_core.specs.Plain.{Plain}
use Rattle.wake_core.specs.WorldOf.{plain_of}
use Rattle.wake_core.proofs.Acting.{found_hand}
use Rattle.wake_core.proofs.Parked.{resumes_parked, resumed_unstopped}
use Rattle.wake_core.proofs.Turning.{turns_by}
use Rattle.wake_core.proofs.serial_run.turn.Goals as goal

pub resume-requires-clause-held : goal.resume-requires-clause-held
resume-requires-clause-held c = found_hand (scan_of c.args.contexts.now) c.in-Some.component (plain_of c.args.world.now) (plain_of c.first_of_all.new.world) c.requires.rest
    (c.in-Some.ensures.found c.in-Some.component refl)

pub resume-requires-clause-ready : goal.resume-requires-clause-ready
resume-requires-clause-ready c = (c.in-Some.ensures.found c.in-Some.component refl).ready

pub park-requires-clause-rest : goal.park-requires-clause-rest
park-requires-clause-rest c = c.resume.ensures.rest

pub park-requires-clause-known : goal.park-requires-clause-known
park-requires-clause-known c =
    let f = c.in-Some.ensures.found c.in-Some.component refl in
    subst (λ (x : List Route). c.in-Some.component < length x) (sym (c.resume.ensures.stays.routes ∙ ap (λ (w : Plain). w.routes) f.takes.same)) f.takes.known

pub park-requires-clause-unstopped : goal.park-requires-clause-unstopped
park-requires-clause-unstopped c = resumed_unstopped c.in-Some.component (plain_of c.first_of_all.new.world) (plain_of c.resume.new.world) c.resume.ensures

pub returns-in-Some-clause-turns : goal.returns-in-Some-clause-turns
returns-in-Some-clause-turns c = λ e. turns_by (scan_of c.args.contexts.now) c.in-Some.component (plain_of c.args.world.now) (plain_of c.first_of_all.new.world) (plain_of c.park.new.self) c.requires.rest
    (c.in-Some.ensures.found c.in-Some.component refl)
    (resumes_parked c.in-Some.component (plain_of c.first_of_all.new.world) (plain_of c.resume.new.world) (plain_of c.park.new.self) c.resume.ensures c.park.ensures.parks)
