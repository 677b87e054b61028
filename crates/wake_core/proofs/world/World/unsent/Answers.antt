use Rattle.std.proofs.Common.{◌<◌, length, sym, ◌∙◌, ap, arith}
use Rattle.cy_comp.specs.Routine.{RoutineView}
use Rattle.wake_core.specs.WorldOf.{plain_of, to_step}
use Rattle.wake_core.specs.Fields.{no_routine}
use Rattle.wake_core.specs.private.Shown.{calls_at}
use Rattle.wake_core.proofs.Reading.{read_is}
use Rattle.wake_core.proofs.Showing.{calls_stepped, sent_limit, unsent_none, unsent_some}
use Rattle.wake_core.proofs.world.World.unsent.Goals as goal

pub index-requires : goal.index-requires
unfolding plain_of
index-requires c = omega (arith, c.requires.component, c.args.self.now.sized.routines_fit)

pub returns-in_err-out : goal.returns-in_err-out
unfolding plain_of to_step
returns-in_err-out c =
    let routines = c.args.self.now.routines.items in
    let within : c.args.component < length routines = omega (arith, c.requires.component, c.args.self.now.sized.routines_fit) in
    let is = read_is (λ r. r) no_routine routines c.args.component c.index.result.now within c.index.ensures in
    c.from_residual.ensures ∙ unsent_none c.args.self.now.fixed.routes.items (calls_at routines c.args.self.now.found.items) c.args.self.now.tape.items c.args.component c.requires.component
    (calls_stepped routines c.args.self.now.found.items c.args.component c.requires.stepped)
    (ap (λ (r : RoutineView). r.pending) is ∙ sym c.pending.ensures ∙ c.in_err-out.was) c.args.self.now.waiting

pub out-requires : goal.out-requires
unfolding plain_of
out-requires c = c.requires.component

pub index-requires-2 : goal.index-requires-2
unfolding plain_of
index-requires-2 c = omega (arith, c.requires.component, c.args.self.now.sized.sent_fit)

pub overflow_add-index : goal.overflow_add-index
unfolding plain_of
overflow_add-index c =
    let within : c.args.component < length c.args.self.now.sent.items = omega (arith, c.requires.component, c.args.self.now.sized.sent_fit) in
    let most = sent_limit (plain_of c.args.self.now) c.args.component c.index-2.result.now c.requires.component
    (sym (read_is (λ n. n) 0 c.args.self.now.sent.items c.args.component c.index-2.result.now within c.index-2.ensures) ∙ c.args.self.now.waiting.counted c.args.component)
    c.args.self.now.fixed.lawful.limited c.args.self.now.sound in
    record { fits = omega (arith, most) }

pub returns : goal.returns
unfolding plain_of to_step
returns c =
    let routines = c.args.self.now.routines.items in
    let within : c.args.component < length routines = omega (arith, c.requires.component, c.args.self.now.sized.routines_fit) in
    let sent_within : c.args.component < length c.args.self.now.sent.items = omega (arith, c.requires.component, c.args.self.now.sized.sent_fit) in
    let is = read_is (λ r. r) no_routine routines c.args.component c.index.result.now within c.index.ensures in
    unsent_some c.args.self.now.fixed.routes.items (calls_at routines c.args.self.now.found.items) c.args.self.now.tape.items c.args.component c.out.result c.index-2.result.now c.in_ok-out.out c.output_as.result
    c.requires.component (calls_stepped routines c.args.self.now.found.items c.args.component c.requires.stepped)
    (ap (λ (r : RoutineView). r.pending) is ∙ sym c.pending.ensures ∙ c.in_ok-out.was) c.out.ensures
    (sym (read_is (λ n. n) 0 c.args.self.now.sent.items c.args.component c.index-2.result.now sent_within c.index-2.ensures)) c.output_as.ensures c.args.self.now.waiting
