use Rattle.std.proofs.Common.{sym, ◌∙◌, ap, true, false}
use Rattle.wake_core.specs.Plain.{Plain, stops}
use Rattle.wake_core.specs.WorldOf.{plain_of}
use Rattle.wake_core.proofs.Acting.{looked_it, looked_hand, looked_resumes}
use Rattle.wake_core.proofs.serial_run.resume.Goals as goal

pub end-requires : goal.end-requires
end-requires c =
    let w : Plain = plain_of c.args.world.now in
    let v : Plain = plain_of c.check.new.self in
    let it = looked_it c.args.component w v c.requires.held c.check.ensures.event in
    record {
      held = looked_hand c.args.component w v c.requires.held c.check.ensures.event true (ap (stops w.stop w.raised) (sym it) ∙ sym c.check.ensures.answer ∙ c.if-check.true);
    }

pub go_on-requires-clause-held : goal.go_on-requires-clause-held
go_on-requires-clause-held c =
    let w : Plain = plain_of c.args.world.now in
    let v : Plain = plain_of c.check.new.self in
    let it = looked_it c.args.component w v c.requires.held c.check.ensures.event in
    looked_hand c.args.component w v c.requires.held c.check.ensures.event false (ap (stops w.stop w.raised) (sym it) ∙ sym c.check.ensures.answer ∙ c.if-check.false)

pub go_on-requires-clause-ready : goal.go_on-requires-clause-ready
go_on-requires-clause-ready c = ap (λ (x : Plain). x.states c.args.component) c.check.ensures.event.effect ∙ c.requires.ready

pub go_on-requires-clause-unstopped : goal.go_on-requires-clause-unstopped
go_on-requires-clause-unstopped c =
    let w : Plain = plain_of c.args.world.now in
    let v : Plain = plain_of c.check.new.self in
    let it = looked_it c.args.component w v c.requires.held c.check.ensures.event in
    ap (λ (x : Plain). stops x.stop x.raised c.args.component) c.check.ensures.event.effect ∙ ap (stops w.stop w.raised) (sym it) ∙ sym c.check.ensures.answer ∙ c.if-check.false

pub returns-then-check : goal.returns-then-check
returns-then-check c = looked_resumes c.args.component (plain_of c.args.world.now) (plain_of c.check.new.self) c.requires.held c.check.ensures.event (plain_of c.end.new.world) c.end.ensures

pub returns-else-check : goal.returns-else-check
returns-else-check c = looked_resumes c.args.component (plain_of c.args.world.now) (plain_of c.check.new.self) c.requires.held c.check.ensures.event (plain_of c.go_on.new.world) c.go_on.ensures
