use Rattle.std.proofs.Common.{refl, ap, sym, ◌∙◌, length, length-set, is_some, Some, ◌+◌, arith}
use Rattle.cy_comp.specs.Routine.{RoutineView}
use Rattle.wake_core.specs.Plain.{Hand}
use Rattle.wake_core.specs.declared.owed.Owed.{Owed}
use Rattle.wake_core.specs.WorldCalls.{phase_sent}
use Rattle.wake_core.specs.WorldOf.{plain_of, to_step}
use Rattle.wake_core.specs.Fields.{no_routine}
use Rattle.wake_core.proofs.Reading.{read_is}
use Rattle.wake_core.proofs.Sounding.{send_sound}
use Rattle.wake_core.proofs.SentWorld.{send_known, send_thread, send_owed, send_waits, send_room_left, send_few, send_channel, send_counted, send_event, send_owing, send_flagged, send_stepping, send_waiting, send_roomy}
use Rattle.wake_core.proofs.world.World.send.Goals as goal

pub index_mut-requires : goal.index_mut-requires
index_mut-requires c = omega (arith, send_known c.args.self.now c.args.thread c.args.hand c.args.token c.requires.held c.requires.event c.requires.stepped, c.args.self.now.sized.routines_fit)

pub sent-requires : goal.sent-requires
sent-requires c =
    let within = send_known c.args.self.now c.args.thread c.args.hand c.args.token c.requires.held c.requires.event c.requires.stepped in
    ap (λ (r : RoutineView). is_some r.pending) (sym (read_is (λ r. r) no_routine c.args.self.now.routines.items c.args.hand.croutine c.index_mut.result.now (omega (arith, within, c.args.self.now.sized.routines_fit)) c.index_mut.ensures.value))
    ∙ send_waits c.args.self.now c.args.thread c.args.hand c.args.token c.requires.held c.requires.event c.requires.stepped

pub index_mut-requires-2 : goal.index_mut-requires-2
index_mut-requires-2 c = omega (arith, send_known c.args.self.now c.args.thread c.args.hand c.args.token c.requires.held c.requires.event c.requires.stepped, c.args.self.now.sized.sent_fit)

pub overflow_add-index_mut : goal.overflow_add-index_mut
overflow_add-index_mut c =
    let within = send_known c.args.self.now c.args.thread c.args.hand c.args.token c.requires.held c.requires.event c.requires.stepped in
    let few = send_few c.args.self.now c.args.thread c.args.hand c.args.token c.requires.held c.requires.event c.requires.stepped in
    omega (arith, few, read_is (λ n. n) 0 c.args.self.now.sent.items c.args.hand.croutine c.index_mut-2.result.now (omega (arith, within, c.args.self.now.sized.sent_fit)) c.index_mut-2.ensures.value)

pub index_mut-requires-3 : goal.index_mut-requires-3
index_mut-requires-3 c = omega (arith, send_thread c.args.self.now c.args.thread c.args.hand c.args.token c.requires.held c.requires.event c.requires.stepped)

pub put-requires : goal.put-requires
put-requires c = omega (arith, send_room_left c.args.self.now c.args.thread c.args.hand c.args.token c.requires.held c.requires.event c.requires.stepped)

pub readers-fills-requires : goal.readers-fills-requires
readers-fills-requires c = send_channel c.args.self.now c.args.thread c.args.hand c.args.token c.requires.held c.requires.event c.requires.stepped

pub index_mut-requires-4 : goal.index_mut-requires-4
index_mut-requires-4 c = omega (arith, send_owed c.args.self.now c.args.thread c.args.hand c.args.token c.requires.held c.requires.event c.requires.stepped)

pub returns-clause-event : goal.returns-clause-event
unfolding plain_of
returns-clause-event c = send_event c.args.self.now c.args.thread c.args.hand c.args.token c.requires.held c.requires.event c.requires.stepped
    _ c.index_mut-4.result.now c.put.new.owed c.index_mut.result.now c.sent.new.self _ c.after_send.result c.index_mut-4.ensures.value c.put.ensures.owed (ap length c.readers-fills.ensures)
    c.index_mut.ensures.value c.sent.ensures c.put.ensures.tape c.after_send.ensures.croutine c.after_send.ensures.phase

pub returns-clause-steps : goal.returns-clause-steps
unfolding to_step
returns-clause-steps c = refl

pub invariant_of-self : goal.invariant_of-self
unfolding plain_of
invariant_of-self c =
    let s = c.args.self.now in
    let p = c.args.thread in
    let h : Hand = c.args.hand in
    let all = ap length c.readers-fills.ensures in
    let owed : Owed = c.put.new.owed in
    let routine : RoutineView = c.sent.new.self in
    record {
      sized = rw (length-set s.routines.items h.croutine routine, length-set s.sent.items h.croutine (c.index_mut-2.result.now + 1), length-set s.hands.items p (Some c.after_send.result), length-set s.owed.items p owed) s.sized;
      flagged = send_flagged s p h c.args.token c.requires.held c.requires.event c.requires.stepped _ c.index_mut-4.result.now owed c.index_mut.result.now routine _ c.after_send.result c.index_mut-4.ensures.value c.put.ensures.owed all
          c.index_mut.ensures.value c.sent.ensures c.put.ensures.tape c.after_send.ensures.croutine c.after_send.ensures.phase s.flagged;
      stepping = send_stepping s p h c.args.token c.requires.held c.requires.event c.requires.stepped _ c.index_mut-4.result.now owed c.index_mut.result.now routine _ c.after_send.result c.index_mut-4.ensures.value c.put.ensures.owed all
          c.index_mut.ensures.value c.sent.ensures c.put.ensures.tape c.after_send.ensures.croutine c.after_send.ensures.phase;
      waiting = send_waiting s p h c.args.token c.requires.held c.requires.event c.requires.stepped _ c.index_mut-4.result.now owed c.index_mut.result.now routine _ c.after_send.result c.index_mut-4.ensures.value c.put.ensures.owed all
          c.index_mut.ensures.value c.sent.ensures c.put.ensures.tape c.after_send.ensures.croutine c.after_send.ensures.phase c.index_mut-2.result.now c.index_mut-2.ensures.value;
      visited = s.visited;
      roomy = send_roomy s p h c.args.token c.requires.held c.requires.event c.requires.stepped _ c.index_mut-4.result.now owed c.index_mut.result.now routine _ c.after_send.result c.index_mut-4.ensures.value c.put.ensures.owed all
          c.index_mut.ensures.value c.sent.ensures c.put.ensures.tape c.after_send.ensures.croutine c.after_send.ensures.phase c.put.ensures.room;
      owing = send_owing s p h c.args.token c.requires.held c.requires.event c.requires.stepped _ c.index_mut-4.result.now owed c.index_mut.result.now routine _ c.after_send.result c.index_mut-4.ensures.value c.put.ensures.owed all
          c.index_mut.ensures.value c.sent.ensures c.put.ensures.tape c.after_send.ensures.croutine c.after_send.ensures.phase;
      counted = send_counted s p h c.args.token c.requires.held c.requires.event c.requires.stepped _ c.put.ensures.tape;
      sound = send_sound p h.croutine (phase_sent (Some h)) c.args.token (plain_of s) _ (send_event s p h c.args.token c.requires.held c.requires.event c.requires.stepped _ c.index_mut-4.result.now owed c.index_mut.result.now routine _ c.after_send.result
          c.index_mut-4.ensures.value c.put.ensures.owed all c.index_mut.ensures.value c.sent.ensures c.put.ensures.tape c.after_send.ensures.croutine c.after_send.ensures.phase) s.sound;
    }
