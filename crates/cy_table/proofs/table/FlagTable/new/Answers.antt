-- The rule holds of the words and slots that are laid out.
use Rattle.std.proofs.Common.{ℕ, ◌≡◌, ◌∷◌, List, [], length, sym, ap, ap₂, ◌∙◌, subst, arith}
use Rattle.atomic_table.specs.Table.{opening}
use Rattle.cy_comp.specs.Routine.{RoutineView}
use Rattle.cy_fuse.specs.Visitor.{VisitorView}
use Rattle.wake_core.specs.declared.world.World.{World}
use Rattle.wake_core.specs.declared.route.Route.{Route}
use Rattle.wake_core.specs.Plain.{Plain}
use Rattle.wake_core.specs.WorldOf.{plain_of}
use Rattle.wake_core.specs.Parts.{shown_by}
use Rattle.cy_table.specs.declared.part.Part.{Part}
use Rattle.cy_table.specs.declared.part.Part.TheVariants as part
use Rattle.cy_table.specs.Layout.{words_for, slots_for}
use Rattle.cy_table.specs.Plays.{Thread, rule_for, seat_for}
use Rattle.cy_table.specs.Sights.{thread_in, sight_for}
use Rattle.cy_table.specs.Ends.{HaveFewCalls, laid}
use Rattle.cy_table.proofs.Laying.{begins, slots_are, few_calls}
use Rattle.cy_table.proofs.table.FlagTable.new.Goals as goal

pub slots_of-requires-clause-calls : goal.slots_of-requires-clause-calls
slots_of-requires-clause-calls c =
    let p = c.apart-parts.result in
    subst HaveFewCalls (sym c.into_vec.ensures) (few_calls c.found.ensures p c.apart-parts.ensures.fit p.fixed.lawful)

pub new-requires : goal.new-requires
new-requires c =
    let world = c.args.world in
    let p = c.apart-parts.result in
    let t = c.new-tape.result in
    let words = c.in_ok-words.words.items in
    let slots = c.in_ok-slots.slots.items in
    let slots_are : slots ≡ part.Tape t ∷ laid p.routines p.visitors =
    c.in_ok-slots.ensures ∙ ap₂ (λ (rs : List RoutineView) (vs : List VisitorView). part.Tape t ∷ laid rs vs) c.into_vec.ensures c.into_vec-2.ensures in
    subst (λ (w : World). rule_for w (opening c.as_slice.result.now slots (sight_for w))) (sym c.of-key.ensures)
    (subst (λ (ws : List ℕ). rule_for world (opening ws slots (sight_for world))) (sym c.as_slice.ensures.value)
    (subst (λ (xs : List Part). rule_for world (opening words xs (sight_for world))) (sym slots_are)
    (begins c.table_ends.ensures c.threads.ensures world p words t c.apart-parts.ensures.fit p.fixed.lawful c.requires c.apart-parts.ensures.shown c.in_ok-words.ensures c.new-tape.ensures)))

pub invariant_of-result : goal.invariant_of-result
unfolding shown_by
invariant_of-result c =
    let world = c.args.world in
    let p = c.apart-parts.result in
    let t = c.new-tape.result in
    let ok = c.in-Ok.ensures.ok in
    let key : c.in-Ok.table.shared.key.value ≡ world = ap (λ k. k.value) ok.5 ∙ c.of-key.ensures in
    let routes : p.fixed.routes.items ≡ (plain_of c.in-Ok.table.shared.key.value).routes = ap (λ (w : Plain). w.routes) c.apart-parts.ensures.shown ∙ ap (λ (w : World). (plain_of w).routes) (sym key) in
    let counts : p.fixed.counts.items ≡ (plain_of c.in-Ok.table.shared.key.value).counts = ap (λ (w : Plain). w.counts) c.apart-parts.ensures.shown ∙ ap (λ (w : World). (plain_of w).counts) (sym key) in
    let deep = (slots_are p c.apart-parts.ensures.fit t c.new-tape.ensures).deep in
    record {
      words = ok.0 ∙ ap length c.as_slice.ensures.value ∙ c.in_ok-words.ensures.wide ∙ ap (λ (l : List Route). words_for (length l)) routes;
      slots = ok.1 ∙ ap length c.in_ok-slots.ensures ∙ ap₂ (λ (rs : List RoutineView) (vs : List VisitorView). length (part.Tape t ∷ laid rs vs)) c.into_vec.ensures c.into_vec-2.ensures ∙ deep ∙ ap (λ (l : List Route). slots_for (length l)) routes;
      made = routes;
      counted = counts;
      given = ap (λ (w : Plain). w.stop) c.apart-parts.ensures.shown ∙ ap (λ (w : World). (plain_of w).stop) (sym key);
    }

pub returns-in-Ok : goal.returns-in-Ok
returns-in-Ok c =
    let ok = c.in-Ok.ensures.ok in
    let key : c.in-Ok.table.shared.key.value ≡ c.args.world = ap (λ k. k.value) ok.5 ∙ c.of-key.ensures in
    let thread = ap thread_in ok.4 ∙ ap (λ (w : World). let n : Thread = (seat_for w, []) in n) c.of-key.ensures in
    let live = ap (λ (m : Thread). m.0.live) thread in
    record {
      made = ap plain_of key;
      player = record { at = record { table = ok.2; live = λ z. omega (arith, z, live) }; player = ok.3 };
      thread = thread;
    }
