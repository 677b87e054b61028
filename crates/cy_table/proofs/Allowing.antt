-- What a step of the table may do, by the law of its kind.
use Rattle.std.proofs.Common.{ℕ, ◌+◌, ◌*◌, ◌≡◌, ◌≢◌, ◌≤◌, ◌<◌, ◌⊎◌, refl, sym, ◌∙◌, ap, subst, inl, inr, ⊎_elim, List, [], ◌∷◌, ◌++◌, length, set, take, slice_index, Option, Some, None, arith}
use mathlib.Core.Option as maybe
use mathlib.Core.Option.{some}
use lib.ListN.{get_elem?}
use Rattle.atomic_table.specs.Table.{State as Table, step, keeps, takes, gives}
use Rattle.cy_comp.specs.declared.call.Call.{Call}
use Rattle.cy_comp.specs.Routine.{RoutineView}
use Rattle.wake_core.specs.declared.entries.TheConstants.{MOST_PLANNED}
use Rattle.wake_core.specs.declared.route.Route.{Route}
use Rattle.wake_core.specs.Plain.{Plain}
use Rattle.cy_table.specs.declared.part.Part.{Part}
use Rattle.cy_table.specs.declared.part.Part.TheVariants as part
use Rattle.cy_table.specs.Layout.{state_number}
use Rattle.cy_table.specs.Deeds.{Deed}
use Rattle.cy_table.specs.Seats.{Seat, Seen, Grip, Entry}
use Rattle.cy_table.specs.Seats.Entry.{Busy}
use Rattle.cy_table.specs.Deeds as deed
use Rattle.cy_table.specs.Seats.{AreSeen}
use Rattle.cy_table.specs.Rule.{Rules, IsSo, Makes}
use Rattle.cy_table.specs.Steps.{Sits, Becomes, acquiring, failing, releasing, MayRelease, asking, MayAsk, yielding, MayYield, next_state}
use Rattle.cy_table.specs.Plays.{Thread, grip_or_none, in_hand, HasSeen, AcquireTells, acquired, released, asked, yielded, taking, acquire_deed, release_deed, ask_deed, yield_deed}
use Rattle.cy_table.specs.Laws.{HoldSwaps, HoldStores, StateStores, RoomsLeft}
use Rattle.cy_table.proofs.Places.{place}
use Rattle.cy_table.proofs.Holding.{held_by}
use Rattle.cy_table.proofs.Marking.{ShowsFor, Leaves, leaves_as, Plays}

-- What a step left that is a deed, and one that is none. The seat noted nothing, ..
module _ {made : Plain} {s s' : Table Part Seat} (k : ShowsFor made s) (id : ℕ) (v v' : Seat) where
  pub moved_then : (d : Deed) → Becomes k.rooms (Makes id d) k.world s' → v'.note ≡ v.note → Leaves k.rooms id (d ∷ []) k.world v v' s'
  moved_then d b same = record { world = b.world; routes = b.routes; counts = b.counts; stop = b.stop; led = b.happens; notes = inl same; rules = b.rules }

  pub still_then : Rules k.rooms k.world s' → v'.note ≡ v.note → Leaves k.rooms id [] k.world v v' s'
  still_then rules same = record { world = k.world; routes = refl; counts = refl; stop = refl; led = refl; notes = inl same; rules = rules }

  -- .. or something that is so behind the step.
  pub noting_then : (d : Deed) → (b : Becomes k.rooms (Makes id d) k.world s') → (x : Entry) → v'.note ≡ v.note ++ x ∷ [] → IsSo b.world x → Leaves k.rooms id (d ∷ []) k.world v v' s'
  noting_then d b x same so = record { world = b.world; routes = b.routes; counts = b.counts; stop = b.stop; led = b.happens; notes = inr (x, same, so); rules = b.rules }

  pub seeing_then : Rules k.rooms k.world s' → (x : Entry) → v'.note ≡ v.note ++ x ∷ [] → IsSo k.world x → Leaves k.rooms id [] k.world v v' s'
  seeing_then rules x same so = record { world = k.world; routes = refl; counts = refl; stop = refl; led = refl; notes = inr (x, same, so); rules = rules }

-- What a seat has seen of one component.
seen_of : (calls : ℕ → List Call) (c : ℕ) (xs : List Seen) → AreSeen calls xs → HasSeen c (calls c) xs
seen_of calls c [] all = tt
seen_of calls c (x ∷ xs) all = ((λ e. subst (λ k. take (length x.calls) (calls k) ≡ x.calls) e all.0), seen_of calls c xs all.1)

-- The swap of a hold word.
pub acquires : HoldSwaps → RoomsLeft → (made : Plain) (slots id c : ℕ) (m : Thread) → m.0.live ≢ 0 → m.0.hand ≡ None → c < length made.routes
    → Plays made slots id m (4 * c + 4) (λ _. 1) (acquired (step slots (4 * c + 4) 1 0 maybe.none) m)
    (acquire_deed (step slots (4 * c + 4) 1 0 maybe.none) m)
acquires law rooms made slots id c m live idle less = record {
  each = λ s k deep at bound.
      let inside : c < length k.world.routes = subst (λ (l : List Route). c < length l) (sym k.components) less in
      let sits : Sits k.rooms k.world s id m.0 = record { rules = k.rules; at = at; live = live } in
      let tell = λ (found : ℕ) (n : Thread) (a : AcquireTells c m found n). λ (d : ℕ) (e : 4 * c + 4 ≡ 4 * d + 4). subst (λ j. AcquireTells j m found n) (let h : c ≡ d = omega arith in h) a in
      elim (place (slice_index s.words (4 * c + 4)) 0) [
        | inl free ↦ let a = law.free k.rooms k.world s id c m.0 m.1 sits idle inside free in
            let seen = subst (λ l. HasSeen c l m.0.seen) (ap (λ (y : RoutineView). y.calls) (sym a.2)) (seen_of k.world.calls c m.0.seen (k.rules.knows id m.0 at).calls) in
            let few = subst (λ (l : List Call). length l ≤ MOST_PLANNED) (ap (λ (y : RoutineView). y.calls) (sym a.2)) (rooms.calls k.rooms k.world s c k.rules inside) in (
              acquiring m.0 c a.0,
              takes (2 * c + 1) (part.Routine a.0),
              a.1,
              moved_then k id m.0 (acquiring m.0 c a.0) (deed.Acquire c) a.3 refl,
              tell (slice_index s.words (4 * c + 4)) (acquiring m.0 c a.0, (2 * c + 1, part.Routine a.0) ∷ m.1) record { free = λ z. (a.0, refl, seen, few); held = λ ne. absurd (ne free) },
            )
        | inr held ↦ (
          failing m.0 c,
          keeps,
          tt,
          leaves_as (ap taking (sym idle)) (seeing_then k id m.0 (failing m.0 c) (law.held k.rooms k.world s id c m.0 m.1 sits inside held) (Busy c) refl (held_by k.rooms k.world s id m.0 sits c inside held)),
          tell (slice_index s.words (4 * c + 4)) (failing m.0 c, m.1) record { free = λ z. absurd (held z); held = λ ne. refl },
        )
      ];
}

-- The store of a hold word, when the slot has the routine that is in hand.
pub releases : HoldStores → (made : Plain) (slots id : ℕ) (v : Seat) (g : Grip) (later : List (ℕ × Part)) → v.live ≢ 0 → v.hand ≡ Some g → MayRelease g
    → Plays made slots id (v, (2 * g.croutine + 1, part.Routine g.routine) ∷ later) (4 * g.croutine + 4) (λ _. 0) (λ _. released (step slots (4 * g.croutine + 4) 0 0 maybe.none) (v, (2 * g.croutine + 1, part.Routine g.routine) ∷ later) 0)
    (λ _. release_deed (step slots (4 * g.croutine + 4) 0 0 maybe.none) (v, (2 * g.croutine + 1, part.Routine g.routine) ∷ later) 0)
releases law made slots id v g later live has may = record {
  each = λ s k deep at bound.
      (releasing v, gives, tt, leaves_as (ap (λ (o : Option Grip). deed.Release (grip_or_none o).croutine ∷ []) (sym has)) (moved_then k id v (releasing v) (deed.Release g.croutine) (law.release k.rooms k.world s id v g later record { rules = k.rules; at = at; live = live } has may) refl), refl);
}

abbrev Releases : (made : Plain) (slots id c : ℕ) → Thread → Type 0
Releases made slots id c m = Plays made slots id m (4 * c + 4) (λ _. 0) (λ _. released (step slots (4 * c + 4) 0 0 maybe.none) m 0) (λ _. release_deed (step slots (4 * c + 4) 0 0 maybe.none) m 0)

pub releases_as : HoldStores → (made : Plain) (slots id c : ℕ) (x : RoutineView) (v : Seat) (g : Grip) (m : Thread) → v.live ≢ 0 → v.hand ≡ Some g → MayRelease g
    → g.croutine ≡ c → g.routine ≡ x → m ≡ (v, (2 * c + 1, part.Routine x) ∷ []) → Releases made slots id c m
releases_as law made slots id c x v g m live has may same is at = subst (Releases made slots id c) (sym at)
    (subst (λ (y : ℕ × RoutineView). Releases made slots id y.0 (v, (2 * y.0 + 1, part.Routine y.1) ∷ [])) (λ i. (same i, is i)) (releases law made slots id v g [] live has may))

-- The stores of a state.
pub asks : StateStores → (made : Plain) (slots id c : ℕ) (m : Thread) → m.0.live ≢ 0 → m.0.hand ≡ Some (in_hand m.0) → (in_hand m.0).croutine ≡ c → MayAsk (in_hand m.0)
    → Plays made slots id m (4 * c + 5) (λ _. 1) (λ _. asked (step slots (4 * c + 5) 1 0 maybe.none) m 1) (λ _. ask_deed (step slots (4 * c + 5) 1 0 maybe.none) m 1)
asks law made slots id c m live has same may = subst (λ d. Plays made slots id m (4 * d + 5) (λ _. 1) (λ _. asked (step slots (4 * d + 5) 1 0 maybe.none) m 1) (λ _. ask_deed (step slots (4 * d + 5) 1 0 maybe.none) m 1)) same
    record { each = λ s k deep at bound. (asking m.0 (in_hand m.0), keeps, tt, moved_then k id m.0 (asking m.0 (in_hand m.0)) (deed.Ask (in_hand m.0).croutine) (law.ask k.rooms k.world s id m.0 (in_hand m.0) m.1 record { rules = k.rules; at = at; live = live } has may) refl, refl) }

pub yields : StateStores → (made : Plain) (slots id c number : ℕ) (m : Thread) → m.0.live ≢ 0 → m.0.hand ≡ Some (in_hand m.0) → (in_hand m.0).croutine ≡ c → state_number (next_state (in_hand m.0)) ≡ number
    → MayYield m.0 (in_hand m.0)
    → Plays made slots id m (4 * c + 5) (λ _. number) (λ _. yielded (step slots (4 * c + 5) number 0 maybe.none) m number) (λ _. yield_deed (step slots (4 * c + 5) number 0 maybe.none) m number)
yields law made slots id c number m live has same is may = subst (λ (x : ℕ × ℕ). Plays made slots id m (4 * x.0 + 5) (λ _. x.1) (λ _. yielded (step slots (4 * x.0 + 5) x.1 0 maybe.none) m x.1) (λ _. yield_deed (step slots (4 * x.0 + 5) x.1 0 maybe.none) m x.1)) (λ i. (same i, is i))
    record { each = λ s k deep at bound. (yielding m.0 (in_hand m.0), keeps, tt, moved_then k id m.0 (yielding m.0 (in_hand m.0)) (deed.Yield (in_hand m.0).croutine (next_state (in_hand m.0))) (law.yield_as k.rooms k.world s id m.0 (in_hand m.0) m.1 record { rules = k.rules; at = at; live = live } has may) refl, refl) }
