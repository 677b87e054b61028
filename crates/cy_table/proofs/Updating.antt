-- What the steps of an update may do, by their laws.
use Rattle.std.proofs.Common.{ℕ, ◌+◌, ◌*◌, ◌==◌, ◌≡◌, ◌≢◌, ◌&&◌, not, cond, if◌then◌else◌, Bool, true, false, refl, sym, ◌∙◌, ap, subst, inl, inr, [], ◌∷◌, Some, slice_index, arith}
use Rattle.std.proofs.lemmas.Bool.Decides.{nat_tests}
use mathlib.Core.Option as maybe
use mathlib.Core.Option.{some}
use lib.ListN.{get_elem?}
use Rattle.atomic_table.specs.Table.{State as Table, stepped, step, keeps}
use Rattle.cy_comp.specs.declared.state.State.{State}
use Rattle.cy_comp.specs.declared.state.State.TheVariants.{Ready, DataWait, Sleep, Finished}
use Rattle.cy_comp.specs.Routine.{RoutineView}
use Rattle.wake_core.specs.declared.phase.Phase.TheVariants.{Woken, Known}
use Rattle.wake_core.specs.Plain.{Plain}
use Rattle.wake_core.specs.Events.{IsDue, is_waiting, is_ready, phase_after_spend}
use Rattle.wake_core.specs.Turns.{is_due}
use Rattle.cy_table.specs.declared.part.Part.{Part}
use Rattle.cy_table.specs.Seats.{Seat, Grip}
use Rattle.cy_table.specs.Seats.Entry.{Found}
use Rattle.cy_table.specs.Deeds as deed
use Rattle.cy_table.specs.Steps.{Sits, readying, MayReady, spent_note, spending, MaySpend}
use Rattle.cy_table.specs.Laws.{StateStores, FlagSwaps}
use Rattle.cy_table.specs.Plays.{Thread, in_hand, readied, spent, ready_deed, spend_deed}
use Rattle.cy_table.specs.Calls.{state_of, ready_if, after_spend, spend_deeds, update_deeds}
use Rattle.cy_table.proofs.Places.{there}
use Rattle.cy_table.proofs.Holding.{routine_known}
use Rattle.cy_table.proofs.Marking.{ShowsFor, NotesOne, Leaves, Plays}
use Rattle.cy_table.proofs.Allowing.{noting_then}

-- What a store of READY leaves: the croutine is so.
readied_then : StateStores → {made : Plain} {s : Table Part Seat} (k : ShowsFor made s) (id : ℕ) (m : Thread) → get_elem? s.views id ≡ some m.0 → m.0.live ≢ 0 → m.0.hand ≡ Some (in_hand m.0) → MayReady m.0 (in_hand m.0)
    → Leaves k.rooms id (deed.Ready (in_hand m.0).croutine ∷ []) k.world m.0 (readying m.0 (in_hand m.0)) (stepped s (4 * (in_hand m.0).croutine + 5) 0 id m.1 (readying m.0 (in_hand m.0)) keeps)
readied_then law k id m at live has may =
    let g = in_hand m.0 in
    let b = law.ready k.rooms k.world _ id m.0 g m.1 record { rules = k.rules; at = at; live = live } has may in
    noting_then k id m.0 (readying m.0 g) (deed.Ready g.croutine) b (Found g.croutine Ready) refl (ap (λ (w : Plain). w.states g.croutine) b.happens.effect ∙ there g.croutine Ready k.world.states g.croutine refl)

-- .. and a swap of a flag: it is in the state that was found, where it was not woken.
spent_notes : (w : Plain) (v v' : Seat) (g : Grip) (woken : Bool) → v'.note ≡ spent_note v g (cond woken Woken Known) → w.states g.croutine ≡ g.routine.state → NotesOne w v v'
spent_notes w v v' g true is so = inl is
spent_notes w v v' g false is so = inr (Found g.croutine g.routine.state, is, so)

spent_then : FlagSwaps → {made : Plain} {s : Table Part Seat} (k : ShowsFor made s) (id : ℕ) (m : Thread) → get_elem? s.views id ≡ some m.0 → m.0.live ≢ 0 → m.0.hand ≡ Some (in_hand m.0) → MaySpend m.0 (in_hand m.0)
    → let v' = spending m.0 (in_hand m.0) (slice_index s.words (4 * (in_hand m.0).croutine + 6) == 1) in Leaves k.rooms id (deed.Spend (in_hand m.0).croutine m.0.clock ∷ []) k.world m.0 v' (stepped s (4 * (in_hand m.0).croutine + 6) 1 id m.1 v' keeps)
spent_then law {made} {s} k id m at live has may =
    let g = in_hand m.0 in
    let sits : Sits k.rooms k.world s id m.0 = record { rules = k.rules; at = at; live = live } in
    let b = law.spend k.rooms k.world s id m.0 g m.1 sits has may in
    let found : k.world.states g.croutine ≡ g.routine.state = sym (ap (λ (x : RoutineView). x.state) (routine_known k.rooms k.world s id m.0 sits g has)) in
    let was_spent = slice_index s.words (4 * g.croutine + 6) == 1 in record {
      world = b.world;
      routes = b.routes;
      counts = b.counts;
      stop = b.stop;
      led = b.happens;
      notes = spent_notes b.world m.0 (spending m.0 g was_spent) g (is_waiting g.routine.state && not was_spent) refl (ap (λ (w : Plain). w.states g.croutine) b.happens.effect ∙ found);
      rules = b.rules;
    }

pub readies : StateStores → (made : Plain) (slots id c : ℕ) (m : Thread) → m.0.live ≢ 0 → m.0.hand ≡ Some (in_hand m.0) → (in_hand m.0).croutine ≡ c → MayReady m.0 (in_hand m.0)
    → Plays made slots id m (4 * c + 5) (λ _. 0) (λ _. readied (step slots (4 * c + 5) 0 0 maybe.none) m 0) (λ _. ready_deed (step slots (4 * c + 5) 0 0 maybe.none) m 0)
readies law made slots id c m live has same may = subst (λ d. Plays made slots id m (4 * d + 5) (λ _. 0) (λ _. readied (step slots (4 * d + 5) 0 0 maybe.none) m 0) (λ _. ready_deed (step slots (4 * d + 5) 0 0 maybe.none) m 0)) same
    record { each = λ s k deep at bound. (readying m.0 (in_hand m.0), keeps, tt, readied_then law k id m at live has may, refl) }

pub spends : FlagSwaps → (made : Plain) (slots id c : ℕ) (m : Thread) → m.0.live ≢ 0 → m.0.hand ≡ Some (in_hand m.0) → (in_hand m.0).croutine ≡ c → MaySpend m.0 (in_hand m.0)
    → Plays made slots id m (4 * c + 6) (λ _. 1) (spent (step slots (4 * c + 6) 1 0 maybe.none) m) (spend_deed (step slots (4 * c + 6) 1 0 maybe.none) m)
spends law made slots id c m live has same may = subst (λ d. Plays made slots id m (4 * d + 6) (λ _. 1) (spent (step slots (4 * d + 6) 1 0 maybe.none) m) (spend_deed (step slots (4 * d + 6) 1 0 maybe.none) m)) same
    record {
      each = λ s k deep at bound. (
        spending m.0 (in_hand m.0) (slice_index s.words (4 * (in_hand m.0).croutine + 6) == 1),
        keeps,
        tt,
        spent_then law k id m at live has may,
        refl,
      );
    }

-- A croutine is due where the judgement says so.
pub due_is : (st : State) (time : ℕ) → is_due st time ≡ true → IsDue st time
due_is Ready time e = cc
due_is DataWait time e = cc
due_is (Sleep until) time e = grind (arith, nat_tests, e)
due_is Finished time e = cc

pub not_due_is : (st : State) (time : ℕ) → is_due st time ≡ false → IsDue st time → ⊥
not_due_is Ready time e due = due
not_due_is DataWait time e due = due
not_due_is (Sleep until) time e due = grind (arith, nat_tests, e, due)
not_due_is Finished time e due = due

-- A swap that woke a croutine left it woken.
pub woken_is : (st : State) (was_spent : Bool) → is_waiting st && not was_spent ≡ true → phase_after_spend st was_spent ≡ Woken
woken_is st was_spent e = ap (λ b. cond b Woken Known) e

-- What an update did, by the state in which the croutine is then.
pub due_deeds : (i clock : ℕ) (before after : State) → is_due before clock ≡ true → deed.Ready i ∷ [] ≡ update_deeds i before clock after
due_deeds i clock before after e = ap (λ b. if b then deed.Ready i ∷ [] else spend_deeds i clock (is_waiting before && is_ready after)) (sym e)

abbrev left_by : State → (was_spent : Bool) → State
left_by before was_spent = if is_waiting before && not was_spent then Ready else before

woken_shows : (before : State) (was_spent : Bool) → is_waiting before && not was_spent ≡ is_waiting before && is_ready (left_by before was_spent)
woken_shows Ready was_spent = refl
woken_shows DataWait true = refl
woken_shows DataWait false = refl
woken_shows (Sleep until) was_spent = refl
woken_shows Finished was_spent = refl

pub spent_deeds : (i clock : ℕ) (before after : State) (was_spent : Bool) → is_due before clock ≡ false → after ≡ left_by before was_spent
    → spend_deeds i clock (is_waiting before && not was_spent) ≡ update_deeds i before clock after
spent_deeds i clock before after was_spent e is =
    ap (spend_deeds i clock) (woken_shows before was_spent ∙ ap (λ (s : State). is_waiting before && is_ready s) (sym is))
    ∙ ap (λ b. if b then deed.Ready i ∷ [] else spend_deeds i clock (is_waiting before && is_ready after)) (sym e)

woken_state : (v : Seat) (was_spent woken : Bool) → state_of (ready_if woken (spending v (in_hand v) was_spent)) ≡ (if woken then Ready else state_of v)
woken_state v was_spent true = refl
woken_state v was_spent false = refl

woken_clock : (v : Seat) (was_spent woken : Bool) → (ready_if woken (spending v (in_hand v) was_spent)).clock ≡ v.clock
woken_clock v was_spent true = refl
woken_clock v was_spent false = refl

pub state_then : (v : Seat) (was_spent : Bool) → state_of (after_spend v was_spent) ≡ left_by (state_of v) was_spent
state_then v was_spent = woken_state v was_spent (is_waiting (state_of v) && not was_spent)

pub clock_then : (v : Seat) (was_spent : Bool) → (after_spend v was_spent).clock ≡ v.clock
clock_then v was_spent = woken_clock v was_spent (is_waiting (state_of v) && not was_spent)
