use Rattle.std.proofs.Common.{List, ◌<◌, length, length-set, refl, sym, ◌∙◌, ap, Some, None, option_map, arith}
use Rattle.cy_comp.specs.declared.call.Call.{Call}
use Rattle.wake_core.specs.WorldOf.{plain_of, to_step}
use Rattle.wake_core.specs.Plain.{hand, Asked, Empty, Running}
use Rattle.wake_core.specs.Events.{next_call}
use Rattle.wake_core.specs.Run.{set_at}
use Rattle.wake_core.specs.declared.found.Found.{Found}
use Rattle.wake_core.proofs.Reading.{read-set, hands_set, with_hands}
use Rattle.wake_core.proofs.Flags.{phase_flags, phase_stepping}
use Rattle.wake_core.proofs.Sounding.{fetch_sound}
use Rattle.wake_core.specs.Laws.{call_of}
use Rattle.wake_core.proofs.Shown.{calls_set, called_world, fetches, found_waiting, found_stepping, step_set, none_there}
use Rattle.wake_core.proofs.FetchedWorld.{asking, none_pending, fetch_next, shown_found, none_to_step}
use Rattle.wake_core.proofs.world.World.fetch.Goals as goal

pub index-requires : goal.index-requires
unfolding plain_of
index-requires c = omega (arith, c.holding-croutine.ensures.known, c.args.self.now.sized.routines_fit)

pub index-requires-2 : goal.index-requires-2
unfolding plain_of
index-requires-2 c = omega (arith, c.holding-croutine.ensures.known, c.args.self.now.sized.visitors_fit)

pub index_mut-requires : goal.index_mut-requires
unfolding plain_of
index_mut-requires c = omega (arith, c.holding-croutine.ensures.known, c.args.self.now.sized.found_fit)

pub returns-in-None-clause-answer : goal.returns-in-None-clause-answer
returns-in-None-clause-answer c =
    let a = asking c.args.self.now c.args.thread c.holding-croutine.result c.index.result.now c.holding-croutine.ensures.is c.holding-croutine.ensures.known c.requires c.index.ensures in
    let next = fetch_next c.args.self.now c.args.thread c.holding-croutine.result c.index.result.now a c.fetches_find.ensures.find c.index-2.result.now c.cursor-cursor.result None c.index-2.ensures c.cursor-cursor.ensures (sym c.in-None.is ∙ c.try_fetch.ensures.found) in
    ap (option_map (λ (x : Call). x.tuple)) (sym next ∙ ap (next_call (plain_of c.args.self.now)) c.holding-croutine.ensures.is)

pub returns-in-Some-clause-answer : goal.returns-in-Some-clause-answer
returns-in-Some-clause-answer c =
    let a = asking c.args.self.now c.args.thread c.holding-croutine.result c.index.result.now c.holding-croutine.ensures.is c.holding-croutine.ensures.known c.requires c.index.ensures in
    let next = fetch_next c.args.self.now c.args.thread c.holding-croutine.result c.index.result.now a c.fetches_find.ensures.find c.index-2.result.now c.cursor-cursor.result (Some (c.in-Some.tuple, c.in-Some.position, c.in-Some.tail)) c.index-2.ensures c.cursor-cursor.ensures (sym c.in-Some.is ∙ c.try_fetch.ensures.found) in
    ap (option_map (λ (x : Call). x.tuple)) (sym next ∙ ap (next_call (plain_of c.args.self.now)) c.holding-croutine.ensures.is)

pub returns-in-None-clause-event : goal.returns-in-None-clause-event
unfolding plain_of
returns-in-None-clause-event c =
    let a = asking c.args.self.now c.args.thread c.holding-croutine.result c.index.result.now c.holding-croutine.ensures.is c.holding-croutine.ensures.known c.requires c.index.ensures in
    let next = fetch_next c.args.self.now c.args.thread c.holding-croutine.result c.index.result.now a c.fetches_find.ensures.find c.index-2.result.now c.cursor-cursor.result None c.index-2.ensures c.cursor-cursor.ensures (sym c.in-None.is ∙ c.try_fetch.ensures.found) in
    let thread : c.args.thread < length c.args.self.now.hands.items = omega (arith, c.holding-croutine.ensures.thread, c.args.self.now.sized.hands_fit) in
    fetches c.holding-croutine.ensures.is c.requires next (with_hands (plain_of c.args.self.now) (hands_set c.args.self.now.hands.items c.args.thread (hand c.holding-croutine.result Empty) thread))

pub returns-in-Some-clause-event : goal.returns-in-Some-clause-event
unfolding plain_of
returns-in-Some-clause-event c =
    let a = asking c.args.self.now c.args.thread c.holding-croutine.result c.index.result.now c.holding-croutine.ensures.is c.holding-croutine.ensures.known c.requires c.index.ensures in
    let next = fetch_next c.args.self.now c.args.thread c.holding-croutine.result c.index.result.now a c.fetches_find.ensures.find c.index-2.result.now c.cursor-cursor.result (Some (c.in-Some.tuple, c.in-Some.position, c.in-Some.tail)) c.index-2.ensures c.cursor-cursor.ensures (sym c.in-Some.is ∙ c.try_fetch.ensures.found) in
    let thread : c.args.thread < length c.args.self.now.hands.items = omega (arith, c.holding-croutine.ensures.thread, c.args.self.now.sized.hands_fit) in
    let component : c.holding-croutine.result < length c.args.self.now.found.items = omega (arith, c.holding-croutine.ensures.known, c.args.self.now.sized.found_fit) in
    let f : Found = record { tuple = c.in-Some.tuple; position = c.in-Some.position; tail = c.in-Some.tail } in
    let effect = called_world (plain_of c.args.self.now) c.args.thread c.holding-croutine.result (call_of c.index.result.now (c.in-Some.tuple, c.in-Some.position, c.in-Some.tail)) refl
    (calls_set c.args.self.now.routines.items c.args.self.now.found.items c.holding-croutine.result (Some f) component ∙ ap (λ (l : List Call). set_at c.holding-croutine.result l (plain_of c.args.self.now).calls) (shown_found c.args.self.now c.args.thread c.holding-croutine.result c.index.result.now a f))
    (hands_set c.args.self.now.hands.items c.args.thread (hand c.holding-croutine.result Running) thread) in
    fetches c.holding-croutine.ensures.is c.requires next effect

pub returns-in-None-clause-steps : goal.returns-in-None-clause-steps
unfolding plain_of to_step
returns-in-None-clause-steps c =
    let a = asking c.args.self.now c.args.thread c.holding-croutine.result c.index.result.now c.holding-croutine.ensures.is c.holding-croutine.ensures.known c.requires c.index.ensures in
    none_there c.holding-croutine.result _ (to_step c.args.self.now) c.holding-croutine.ensures.is (none_to_step c.args.self.now c.args.thread c.holding-croutine.result c.index.result.now a)

pub returns-in-Some-clause-steps : goal.returns-in-Some-clause-steps
unfolding plain_of to_step
returns-in-Some-clause-steps c =
    let component : c.holding-croutine.result < length c.args.self.now.found.items = omega (arith, c.holding-croutine.ensures.known, c.args.self.now.sized.found_fit) in
    let f : Found = record { tuple = c.in-Some.tuple; position = c.in-Some.position; tail = c.in-Some.tail } in
    step_set c.args.self.now.found.items c.holding-croutine.result _ (Some f) c.holding-croutine.ensures.is component

pub invariant_of-self-in-None : goal.invariant_of-self-in-None
unfolding plain_of
invariant_of-self-in-None c =
    let a = asking c.args.self.now c.args.thread c.holding-croutine.result c.index.result.now c.holding-croutine.ensures.is c.holding-croutine.ensures.known c.requires c.index.ensures in
    let next = fetch_next c.args.self.now c.args.thread c.holding-croutine.result c.index.result.now a c.fetches_find.ensures.find c.index-2.result.now c.cursor-cursor.result None c.index-2.ensures c.cursor-cursor.ensures (sym c.in-None.is ∙ c.try_fetch.ensures.found) in
    let thread : c.args.thread < length c.args.self.now.hands.items = omega (arith, c.holding-croutine.ensures.thread, c.args.self.now.sized.hands_fit) in
    let hands = hands_set c.args.self.now.hands.items c.args.thread (hand c.holding-croutine.result Empty) thread in
    record {
      sized = rw (length-set c.args.self.now.hands.items c.args.thread (hand c.holding-croutine.result Empty)) c.args.self.now.sized;
      flagged = rw hands (phase_flags c.args.thread c.holding-croutine.result Asked Empty a.held c.args.self.now.flagged);
      stepping = rw hands (phase_stepping c.args.thread c.holding-croutine.result Asked (hand c.holding-croutine.result Empty) a.held (λ e. cc) c.args.self.now.stepping);
      waiting = c.args.self.now.waiting;
      visited = c.args.self.now.visited;
      roomy = c.args.self.now.roomy;
      owing = c.args.self.now.owing;
      counted = c.args.self.now.counted;
      sound = fetch_sound c.fetches_find.ensures.find c.args.thread _ (plain_of c.args.self.now) _ (fetches c.holding-croutine.ensures.is c.requires next (with_hands (plain_of c.args.self.now) hands)) c.args.self.now.sound;
    }

pub invariant_of-self : goal.invariant_of-self
unfolding plain_of
invariant_of-self c =
    let a = asking c.args.self.now c.args.thread c.holding-croutine.result c.index.result.now c.holding-croutine.ensures.is c.holding-croutine.ensures.known c.requires c.index.ensures in
    let next = fetch_next c.args.self.now c.args.thread c.holding-croutine.result c.index.result.now a c.fetches_find.ensures.find c.index-2.result.now c.cursor-cursor.result (Some (c.in-Some.tuple, c.in-Some.position, c.in-Some.tail)) c.index-2.ensures c.cursor-cursor.ensures (sym c.in-Some.is ∙ c.try_fetch.ensures.found) in
    let thread : c.args.thread < length c.args.self.now.hands.items = omega (arith, c.holding-croutine.ensures.thread, c.args.self.now.sized.hands_fit) in
    let component : c.holding-croutine.result < length c.args.self.now.found.items = omega (arith, c.holding-croutine.ensures.known, c.args.self.now.sized.found_fit) in
    let f : Found = record { tuple = c.in-Some.tuple; position = c.in-Some.position; tail = c.in-Some.tail } in
    let effect = called_world (plain_of c.args.self.now) c.args.thread c.holding-croutine.result (call_of c.index.result.now (c.in-Some.tuple, c.in-Some.position, c.in-Some.tail)) refl
    (calls_set c.args.self.now.routines.items c.args.self.now.found.items c.holding-croutine.result (Some f) component ∙ ap (λ (l : List Call). set_at c.holding-croutine.result l (plain_of c.args.self.now).calls) (shown_found c.args.self.now c.args.thread c.holding-croutine.result c.index.result.now a f))
    (hands_set c.args.self.now.hands.items c.args.thread (hand c.holding-croutine.result Running) thread) in
    let hands = hands_set c.args.self.now.hands.items c.args.thread (hand c.holding-croutine.result Running) thread in
    let founds = read-set (λ f. f) None c.args.self.now.found.items c.holding-croutine.result (Some f) component in
    record {
      sized = rw (length-set c.args.self.now.hands.items c.args.thread (hand c.holding-croutine.result Running), length-set c.args.self.now.found.items c.holding-croutine.result (Some f)) c.args.self.now.sized;
      flagged = rw hands (phase_flags c.args.thread c.holding-croutine.result Asked Running a.held c.args.self.now.flagged);
      stepping = rw (hands, founds) (found_stepping c.args.thread c.holding-croutine.result (Some f) a.held c.args.self.now.stepping);
      waiting = rw founds (found_waiting c.holding-croutine.result (Some f) (none_pending c.args.self.now c.args.thread c.holding-croutine.result c.index.result.now a) c.args.self.now.waiting);
      visited = c.args.self.now.visited;
      roomy = c.args.self.now.roomy;
      owing = c.args.self.now.owing;
      counted = c.args.self.now.counted;
      sound = fetch_sound c.fetches_find.ensures.find c.args.thread _ (plain_of c.args.self.now) _ (fetches c.holding-croutine.ensures.is c.requires next effect) c.args.self.now.sound;
    }
