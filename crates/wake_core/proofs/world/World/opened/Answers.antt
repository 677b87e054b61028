use Rattle.std.proofs.Common.{ℕ, ◌≡◌, sym, ◌∙◌, ap, length, replicate, arith, List, Option, None, true, false, option_map}
use Rattle.std.proofs.lemmas.List.{length-map, length-replicate}
use Rattle.wake_core.specs.WorldOf.{plain_of, to_step}
use Rattle.wake_core.specs.declared.found.Found.{Found}
use Rattle.wake_core.specs.Run.{route_of, routes_of}
use Rattle.wake_core.specs.Fields.{read}
use Rattle.wake_core.specs.private.Opening.{first_visitor, first_routine}
use Rattle.wake_core.proofs.Rooted.{wired}
use Rattle.wake_core.proofs.HeldTimes.{held_so}
use Rattle.wake_core.proofs.Beginning.{length_found, length_hands, read_equal, flags_from, stepping_from, waiting_from, visited_from, roomy_from, owing_from, counted_from, plain_from, sound_from}
use Rattle.wake_core.proofs.world.World.opened.Goals as goal

pub invariant_of-result : goal.invariant_of-result
invariant_of-result c =
    let names = c.args.wiring.now.names in
    let plans = c.args.wiring.now.plans in
    let routes = c.in_ok-fixed.ensures.made.its_routes in
    let counts = c.in_ok-fixed.ensures.made.its_counts in
    let visitors = c.in_ok-visitors.ensures.visitors in
    let routines = c.in_ok-routines.ensures.routines in
    let n = length c.as_slice-size.result.now in
    let unheld = c.in_ok-found.ensures.unheld in
    let found = unheld.found in
    let spent : c.in_ok-spent.spent.items ≡ replicate n true = c.in_ok-spent.ensures.items_if_clones_equal (λ y e. e) in
    let sent : c.in_ok-sent.sent.items ≡ replicate n 0 = c.in_ok-sent.ensures.items_if_clones_equal (λ y e. e) in
    let held = unheld.held in
    let hands = unheld.hands in
    let owed = unheld.owed in
    let tape = c.in_ok-tape.ensures.items in
    let size : n ≡ length c.in_ok-fixed.fixed.routes.items = ap length c.as_slice-size.ensures ∙ sym (length-map plans route_of) ∙ ap length (sym routes) in
    record {
      sized = record {
        visitors_fit = ap length visitors ∙ length-map (routes_of plans) (first_visitor (routes_of plans) c.args.counts.now) ∙ ap length (sym routes);
        routines_fit = ap length routines ∙ length-map (routes_of plans) (first_routine (routes_of plans) c.args.counts.now) ∙ ap length (sym routes);
        found_fit = length_found found ∙ size;
        spent_fit = ap length spent ∙ length-replicate n true ∙ size;
        sent_fit = ap length sent ∙ length-replicate n 0 ∙ size;
        held_fit = ap length held ∙ length-replicate n false ∙ size;
        hands_fit = length_hands hands;
        owed_fit = owed.many;
      };
      flagged = flags_from (sym size) held hands;
      stepping = stepping_from n found;
      waiting = waiting_from c.args.counts.now n routes routines found sent tape;
      visited = visited_from routes counts visitors;
      roomy = roomy_from routes counts visitors routines (omega (arith, c.planned_messages.ensures.sum, c.in_ok-tape.ensures.capacity));
      owing = owing_from size owed;
      counted = counted_from c.in_ok-fixed.fixed.routes.items tape;
      sound = sound_from (plain_from n routes counts c.in_ok-fixed.ensures.made.its_stop visitors routines found spent hands owed tape)
          (wired names plans c.args.wiring.now.lawful c.args.counts.now c.requires.counts (λ k p earlier tuple until out at e. (held_so c.outcomes_are_answers.ensures p.kind earlier tuple until out e).time));
    }

pub returns-clause-opening : goal.returns-clause-opening
unfolding plain_of to_step
returns-clause-opening c =
    let n = length c.as_slice-size.result.now in
    let unheld = c.in_ok-found.ensures.unheld in
    let found = unheld.found in
    let spent : c.in_ok-spent.spent.items ≡ replicate n true = c.in_ok-spent.ensures.items_if_clones_equal (λ y e. e) in
    record {
      opens = plain_from n c.in_ok-fixed.ensures.made.its_routes c.in_ok-fixed.ensures.made.its_counts c.in_ok-fixed.ensures.made.its_stop c.in_ok-visitors.ensures.visitors c.in_ok-routines.ensures.routines found spent unheld.hands unheld.owed c.in_ok-tape.ensures.items;
      stepped = λ k. ap (λ (fs : List (Option Found)). option_map (λ (f : Found). f.tuple) (read (λ f. f) None fs k)) found ∙ ap (λ (fs : ℕ → Option Found). option_map (λ (f : Found). f.tuple) (fs k)) (read_equal None n);
    }
