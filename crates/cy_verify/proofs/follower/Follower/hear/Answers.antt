use Rattle.std.proofs.Common.{◌<◌, arith, length, refl}
use Rattle.wake_core.specs.Run.{route_of}
use Rattle.cy_verify.proofs.Heard.{heard_next}
use Rattle.cy_verify.proofs.Awaited.{due_comes}
use Rattle.cy_verify.proofs.follower.Follower.hear.Goals as goal

pub returns-clause-heard : goal.returns-clause-heard
returns-clause-heard c =
    let known : c.args.role < length c.args.plan.now.readers = rw (← c.as_slice-readers.ensures) (omega (arith, c.if-reader-readers.false)) in
    λ _. heard_next c.args.plan.now c.args.role c.in-Some.place c.args.tape.now c.args.self.now c.arrive.new.self _ known c.requires.may.few_readers c.requires.searched
    (rw (← c.as_slice-readers.ensures) (c.in-Some.ensures.next)) c.arrive.ensures

pub returns-clause-due : goal.returns-clause-due
returns-clause-due c = λ t d. (
  refl,
  due_comes (route_of c.args.plan.now) c.args.role c.in-Some.place t _ c.args.self.now c.args.tape.now c.arrive.new.self d c.requires.searched
      (rw (← c.as_slice-readers.ensures) (c.in-Some.ensures.next)) c.arrive.ensures,
)
