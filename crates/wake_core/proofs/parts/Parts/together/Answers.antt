use Rattle.std.proofs.Common.{ℕ, ◌≡◌, ◌∙◌, sym, ap, subst, length, List, Option, None, false, option_map}
use Rattle.std.proofs.lemmas.List.{length-map, length-replicate}
use Rattle.wake_core.specs.declared.found.Found.{Found}
use Rattle.wake_core.specs.Fields.{read}
use Rattle.wake_core.specs.Parts.{shown_by}
use Rattle.wake_core.specs.private.Sent.{sent_count, AreCounted}
use Rattle.wake_core.specs.Sound.{Sound}
use Rattle.wake_core.specs.WorldOf.{plain_of, to_step}
use Rattle.wake_core.proofs.Beginning.{length_found, length_hands, read_equal, flags_from, stepping_from, owing_from}
use Rattle.wake_core.proofs.Parting.{are_counted, together_waiting, together_visited, together_roomy, together_shown}
use Rattle.wake_core.proofs.parts.Parts.together.Goals as goal

pub sent_by-requires : goal.sent_by-requires
sent_by-requires c = subst AreCounted (sym c.as_slice.ensures) (are_counted c.args.self c.requires c.args.self.fixed.lawful)

pub invariant_of-result : goal.invariant_of-result
unfolding shown_by
invariant_of-result c =
    let p = c.args.self in
    let fit = c.requires in
    let n = length c.as_slice-size.result.now in
    let size : n ≡ length p.fixed.routes.items = ap length c.as_slice-size.ensures ∙ fit.routines_fit in
    let visitors = c.into_vec.ensures in
    let routines = c.into_vec-2.ensures in
    let spent = c.into_vec-3.ensures in
    let unheld = c.in_ok-found.ensures.unheld in
    let found = unheld.found in
    let held = unheld.held in
    let hands = unheld.hands in
    let owed = unheld.owed in
    let sent = c.in_ok-sent.ensures.sent ∙ ap (Rattle.std.proofs.Common.map sent_count) c.as_slice.ensures in
    record {
      sized = record {
        visitors_fit = ap length visitors ∙ fit.visitors_fit;
        routines_fit = ap length routines ∙ fit.routines_fit;
        found_fit = length_found found ∙ size;
        spent_fit = ap length spent ∙ fit.spent_fit;
        sent_fit = ap length sent ∙ length-map p.routines sent_count ∙ fit.routines_fit;
        held_fit = ap length held ∙ length-replicate n false ∙ size;
        hands_fit = length_hands hands;
        owed_fit = owed.many;
      };
      flagged = flags_from (sym size) held hands;
      stepping = stepping_from n found;
      waiting = together_waiting p fit visitors routines spent n found sent;
      visited = together_visited p fit visitors routines spent;
      roomy = together_roomy p fit visitors routines spent;
      owing = owing_from size owed;
      counted = fit.played;
      sound = subst Sound (sym (together_shown p fit visitors routines spent n _ found hands owed)) fit.sound;
    }

pub returns-clause-world : goal.returns-clause-world
unfolding plain_of to_step
returns-clause-world c =
    let p = c.args.self in
    let n = length c.as_slice-size.result.now in
    let unheld = c.in_ok-found.ensures.unheld in
    let found = unheld.found in
    record {
      shown = together_shown p c.requires c.into_vec.ensures c.into_vec-2.ensures c.into_vec-3.ensures n _ found unheld.hands unheld.owed;
      stepped = λ k. ap (λ (fs : List (Option Found)). option_map (λ (f : Found). f.tuple) (read (λ f. f) None fs k)) found ∙ ap (λ (fs : ℕ → Option Found). option_map (λ (f : Found). f.tuple) (fs k)) (read_equal None n);
    }
