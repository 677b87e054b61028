-- The steps of a hold word and of a state.
use Rattle.std.proofs.Common.{ℕ, ◌+◌, ◌*◌, ◌≡◌, ◌≢◌, ◌≤◌, ◌<◌, ◌⊎◌, Bool, refl, sym, ◌∙◌, ap, subst, inl, inr, ⊎_elim, List, [], ◌∷◌, ◌++◌, length, length-set, Option, Some, None, slice_get, slice_index, option_map, option_and_then, arith}
use Rattle.std.proofs.lemmas.Option.{none-some}
use Rattle.std.proofs.Math.Seq.{take-length}
use Rattle.std.specs.Option.{option_map_or}
use mathlib.Core.Option.{some, none}
use lib.ListN.{get_elem?}
use Rattle.atomic_table.specs.Table.{State as Table, stepped, keeps, takes, gives}
use Rattle.cy_comp.specs.declared.kind.Kind.TheVariants.{Pass}
use Rattle.cy_comp.specs.declared.call.Call.{Call}
use Rattle.cy_comp.specs.declared.call.Outcome.{Outcome}
use Rattle.cy_comp.specs.declared.state.State.{State}
use Rattle.cy_comp.specs.declared.state.State.TheVariants.{Ready, DataWait, Sleep, Finished}
use Rattle.cy_comp.specs.Calls.{last_outcome, held_until}
use Rattle.cy_comp.specs.Routine.{RoutineView}
use Rattle.wake_core.specs.declared.route.Route.{Route}
use Rattle.wake_core.specs.declared.phase.Phase.{Phase}
use Rattle.wake_core.specs.declared.phase.Phase.TheVariants.{Fresh, Woken, Known, Checked, Stopping, Asked, Empty, Running, Sending, LastSending, Done}
use Rattle.wake_core.specs.Run.{set_at}
use Rattle.wake_core.specs.Plain.{Plain, hand, last_of, unsent_of}
use Rattle.wake_core.specs.Events.{IsFree, IsDue, OwesNothing, state_after, Acquires, Readies, Asks, Yields, MayYield as MayYieldIn, Releases, after_acquire, after_release}
use Rattle.wake_core.specs.Laws.{KeepsSound}
use Rattle.cy_table.specs.declared.part.Part.{Part}
use Rattle.cy_table.specs.declared.part.Part.TheVariants as part
use Rattle.cy_table.specs.Layout.{state_number}
use Rattle.cy_table.specs.Seats.{Seat, Grip, Entry}
use Rattle.cy_table.specs.Seats.Entry.{Busy, Found}
use Rattle.cy_table.specs.Shown.{Rooms, Home, AtHome, OutWith, spread, routine_in, routine_of, hand_of, routine_at, out_in}
use Rattle.cy_table.specs.Rule.{Rules, Knows, Shows}
use Rattle.cy_table.specs.Steps.{Sits, Becomes, acquiring, failing, put_in, MayReady, readying, MayAsk, asking, OwesNone, next_in, next_state, MayYield, yielding, MayRelease, releasing}
use Rattle.cy_table.proofs.Places.{place, there, other, unseen, within, seated, home_is, is_word, after, spread_keeps, spread_takes, spread_gives}
use Rattle.cy_table.proofs.Keeping.{at_home, is_shut, has_it}
use Rattle.cy_table.proofs.Parts.{routine_here, routine_else, not_held, DoorsStay, OthersStay, same_words, parts_same, parts_turned, parts_taken, parts_given, state_stored, state_doors, hold_others, threads_hand, threads_still}
use Rattle.cy_table.proofs.Knowing.{nothing_grows, rules_after}

pub none_mapped : {X Y : Type 0} (f : X → Y) (o : Option X) → option_map f o ≡ None → o ≡ None
none_mapped f None e = refl
none_mapped f (Some x) e = absurd (none-some (f x) (sym e))

abbrev routine_or : RoutineView → Option RoutineView → RoutineView
routine_or d None = d
routine_or d (Some x) = x

pub routine_back : (h : Home) (x : RoutineView) → routine_in h ≡ Some x → h ≡ some (some (part.Routine x))
routine_back none x e = absurd (none-some x e)
routine_back (some none) x e = absurd (none-some x e)
routine_back (some (some part.Away)) x e = absurd (none-some x e)
routine_back (some (some (part.Routine y))) x e = ap (λ (o : Option RoutineView). some (some (part.Routine (routine_or x o)))) e
routine_back (some (some (part.Visitor y))) x e = absurd (none-some x e)
routine_back (some (some (part.Tape y))) x e = absurd (none-some x e)

due_later : (st : State) (a b : ℕ) → a ≤ b → IsDue st a → IsDue st b
due_later Ready a b le due = due
due_later DataWait a b le due = due
due_later (Sleep until) a b le due = omega (arith, le, due)
due_later Finished a b le due = due

-- The outcome of the last call of a component.
last_here : (calls : List Call) (o : Option Route) → o ≢ None
    → option_and_then (λ (x : Route). last_outcome x.kind calls) o ≡ last_outcome (option_map_or (λ (x : Route). x.kind) o Pass) calls
last_here calls None ne = absurd (ne refl)
last_here calls (Some x) ne = refl

pub get_in : {X : Type 0} (xs : List X) (n : ℕ) → n < length xs → slice_get xs n ≢ None
get_in [] n less e = absurd (omega (arith, less))
get_in (x ∷ xs) Rattle.std.proofs.Common.zero less e = none-some x (sym e)
get_in (x ∷ xs) (Rattle.std.proofs.Common.suc n) less e = get_in xs n (omega (arith, less)) e

mapped_or : (o : Option Outcome) (d : State) → o ≢ None → option_map state_after o ≡ Some (option_map_or state_after o d)
mapped_or None d ne = absurd (ne refl)
mapped_or (Some x) d ne = refl

abbrev stored : (id c : ℕ) → Phase → State → Plain → Plain
stored id c phase st w = record w { states = set_at c st w.states; hands = set_at id (hand c phase) w.hands }

-- A seat that has something of a croutine holds it.
held_in : (c : ℕ) (o : Option Grip) (x : RoutineView) → routine_of c o ≡ Some x → (phase : Phase) × (hand_of o ≡ hand c phase)
held_in c None x e = absurd (none-some x e)
held_in c (Some g) x e = elim (place g.croutine c) [
  | inl h ↦ (g.phase, ap (λ d. hand d g.phase) h)
  | inr h ↦ absurd (none-some x (sym (routine_else c g h) ∙ e))
]

-- What the seats say of what is in hand.
module _ (r : Rooms) (w : Plain) (s : Table Part Seat) (id : ℕ) (v : Seat) (sits : Sits r w s id v) where
  pub wide_is : length s.words ≡ 4 * length w.routes + 5
  wide_is = sits.rules.wide

  pub deep_is : length s.homes ≡ 2 * length w.routes + 1
  deep_is = sits.rules.deep

  pub seat_is : (spread s).seat id ≡ v
  seat_is = seated s id v sits.at

  pub seat_in : id < length s.views
  seat_in = within s.views id v sits.at

  pub hand_is : (g : Grip) → v.hand ≡ Some g → ((spread s).seat id).hand ≡ Some g
  hand_is g e = ap (λ (u : Seat). u.hand) seat_is ∙ e

  pub hand_known : (g : Grip) → v.hand ≡ Some g → w.hands id ≡ hand g.croutine g.phase
  hand_known g e = sits.rules.shows.threads.hand_is id ∙ ap hand_of (hand_is g e)

  pub croutine_known : (g : Grip) → v.hand ≡ Some g → g.croutine < length w.routes
  croutine_known g e = sits.rules.sound.consistent.held.known id g.croutine g.phase (hand_known g e)

  pub routine_known : (g : Grip) → v.hand ≡ Some g → g.routine ≡ routine_at r w g.croutine
  routine_known g e =
      (has_it (sits.rules.shows.parts.routine_kept g.croutine (croutine_known g e)) id g.routine (ap (routine_of g.croutine) (hand_is g e) ∙ routine_here g.croutine g refl)).1

  pub in_phase : (g : Grip) (phase : Phase) → v.hand ≡ Some g → g.phase ≡ phase → w.hands id ≡ hand g.croutine phase
  in_phase g phase e p = hand_known g e ∙ ap (hand g.croutine) p

  pub none_unsent : (g : Grip) → v.hand ≡ Some g → g.routine.pending ≡ None → unsent_of w g.croutine ≡ None
  none_unsent g e p = none_mapped out_in (unsent_of w g.croutine) (sym (ap (λ (x : RoutineView). x.pending) (routine_known g e)) ∙ p)

  pub owes_known : OwesNone v → OwesNothing id w
  owes_known o = record {
    filled = sits.rules.shows.threads.fills_are id ∙ (ap (λ (u : Seat). u.fills) seat_is ∙ o.filled);
    looked = sits.rules.shows.threads.news_are id ∙ (ap (λ (u : Seat). u.news) seat_is ∙ o.looked);
    cleared = sits.rules.shows.threads.clearing_is id ∙ (ap (λ (u : Seat). u.clearing) seat_is ∙ o.cleared);
  }

  pub mine : Knows w id v
  mine = sits.rules.knows id v sits.at

  -- A step that leaves all words as they are, and changes nothing that the seat shows.
  pub unmoved : (i x : ℕ) → i < length s.words → (spread s).word i ≡ x → (note : List Entry) (clock : ℕ) (closing : Bool) (out : List (ℕ × Part))
      → Knows w id (record v { note = note; clock = clock; closing = closing })
      → Rules r w (stepped s i x id out (record v { note = note; clock = clock; closing = closing }) keeps)
  unmoved i x inside is note clock closing out knows =
      let t = spread s in
      let v' : Seat = record v { note = note; clock = clock; closing = closing } in
      let same : (m : ℕ) → set_at i x t.word m ≡ t.word m = λ m. unseen (λ (y : ℕ). y) i x t.word m (sym is) in
      let doors : DoorsStay (length w.routes) i x t.word = record { tape_same = same 3; hold_same = λ c less. same (4 * c + 4); visitor_same = λ c. same (4 * c + 7) } in
      let others : OthersStay (length w.routes) i x t.word = record { state_same = λ c. same (4 * c + 5); flag_same = λ c. same (4 * c + 6); clock_same = same 1; closing_same = same 2; stop_same = same (4 * length w.routes + 4) } in
      let shows : Shows r w (after t i x id v' t.home) = record {
        parts = parts_same sits.rules.shows.parts i x id v' doors (ap (λ (u : Seat). u.tape) (sym seat_is)) (ap (λ (u : Seat). u.visit) (sym seat_is)) (λ c. ap (λ (u : Seat). routine_of c u.hand) (sym seat_is));
        words = same_words i x others sits.rules.shows.words;
        threads = threads_still sits.rules.shows.threads id v v' seat_is refl refl refl refl refl;
      } in
      rules_after r w s id v sits w refl refl refl (nothing_grows w.routes w.tape w.clock w.calls w.closing w.raised id) v' i x out keeps sits.rules.sound
      (subst (Shows r w) (sym (spread_keeps s i x id v' out inside seat_in)) shows) refl refl refl knows

  -- A state is stored.
  state_becomes : (g : Grip) → v.hand ≡ Some g → (phase : Phase) (st : State) (note : List Entry) (out : List (ℕ × Part)) (event : Plain → Plain → Type 0)
      → KeepsSound event → event w (stored id g.croutine phase st w)
      → Becomes r event w (stepped s (4 * g.croutine + 5) (state_number st) id out (record (put_in v g phase st) { note = note }) keeps)
  state_becomes g e phase st note out event keep happens =
      let t = spread s in
      let c : ℕ = g.croutine in
      let i : ℕ = 4 * c + 5 in
      let x : ℕ = state_number st in
      let v' : Seat = record (put_in v g phase st) { note = note } in
      let w' : Plain = stored id c phase st w in
      let g' : Grip = record { croutine = c; phase = phase; routine = record g.routine { state = st } } in
      let less : c < length w.routes = croutine_known g e in
      let known = routine_known g e in
      let in_state : (d : ℕ) → State → RoutineView = λ d y. record (routine_at r w d) { state = y } in
      let k = mine in
      let shows : Shows r w' (after t i x id v' t.home) = record {
        parts = parts_turned sits.rules.shows.parts i x id v' (state_doors (length w.routes) c x t.word) (ap (λ (u : Seat). u.tape) (sym seat_is)) (ap (λ (u : Seat). u.visit) (sym seat_is)) (routine_at r w') g g' (hand_is g e) refl refl
            (ap (λ (y : RoutineView). let z : RoutineView = record y { state = st } in z) known ∙ ap (in_state c) (sym (there c st w.states c refl)))
            (λ d ne. ap (in_state d) (sym (other c st w.states d ne)));
        words = state_stored c st sits.rules.shows.words;
        threads = threads_hand sits.rules.shows.threads id v v' seat_is refl refl refl refl (hand c phase) refl;
      } in record {
        world = w';
        routes = refl;
        counts = refl;
        stop = refl;
        happens = happens;
        rules = rules_after r w s id v sits w' refl refl refl (nothing_grows w.routes w.tape w.clock w.calls w.closing w.raised id) v' i x out keeps (keep w w' happens sits.rules.sound)
            (subst (Shows r w') (sym (spread_keeps s i x id v' out (omega (arith, wide_is, less)) seat_in)) shows) refl refl refl
            record { made = k.made; joined = λ z. absurd (sits.live z); calls = k.calls; past = k.past; closes = k.closes; player = k.player };
      }

  pub ready_becomes : (g : Grip) → v.hand ≡ Some g → MayReady v g → (out : List (ℕ × Part)) → KeepsSound (Readies id g.croutine)
      → Becomes r (Readies id g.croutine) w (stepped s (4 * g.croutine + 5) 0 id out (readying v g) keeps)
  ready_becomes g e may out keep = state_becomes g e Known Ready (v.note ++ Found g.croutine Ready ∷ []) out (Readies id g.croutine) keep record {
    held = ⊎_elim
        (λ (p : g.phase ≡ Woken). inl (in_phase g Woken e p))
        (λ (p : (g.phase ≡ Fresh) × IsDue g.routine.state v.clock).
        inr (in_phase g Fresh e p.0, due_later (w.states g.croutine) v.clock w.clock mine.past (subst (λ (st : State). IsDue st v.clock) (ap (λ (x : RoutineView). x.state) (routine_known g e)) p.1)))
        may;
    effect = refl;
  }

  pub ask_becomes : (g : Grip) → v.hand ≡ Some g → MayAsk g → (out : List (ℕ × Part)) → KeepsSound (Asks id g.croutine)
      → Becomes r (Asks id g.croutine) w (stepped s (4 * g.croutine + 5) 1 id out (asking v g) keeps)
  ask_becomes g e may out keep = state_becomes g e Asked DataWait v.note out (Asks id g.croutine) keep record {
    held = in_phase g Checked e may.checked;
    none_held = none_unsent g e may.none_held;
    effect = refl;
  }

  pub last_known : (g : Grip) → v.hand ≡ Some g → last_of w.routes w.calls g.croutine ≡ last_outcome g.routine.kind g.routine.calls
  last_known g e = last_here (w.calls g.croutine) (slice_get w.routes g.croutine) (get_in w.routes g.croutine (croutine_known g e))
      ∙ ap (λ (x : RoutineView). last_outcome x.kind x.calls) (sym (routine_known g e))

  may_yield : (g : Grip) → v.hand ≡ Some g → MayYield v g → MayYieldIn id g.croutine (next_state g) w
  may_yield g e may = ⊎_elim
      (λ (p : g.phase ≡ Empty). inl (in_phase g Empty e p, ap (λ f. next_in f g.routine) p))
      (λ (q : ((g.phase ≡ Running) × (held_until (last_outcome g.routine.kind g.routine.calls) ≡ None → g.routine.pending ≡ None)) ⊎ ((g.phase ≡ Sending) × (g.routine.pending ≡ None)) ⊎ (((g.phase ≡ Stopping) ⊎ (g.phase ≡ LastSending)) × (g.routine.pending ≡ None))). inr (⊎_elim
      (λ (p : (g.phase ≡ Running) × (held_until (last_outcome g.routine.kind g.routine.calls) ≡ None → g.routine.pending ≡ None)).
      let last = last_known g e in let some_call = sits.rules.sound.consistent.held.called id g.croutine (in_phase g Running e p.0) in
      inl (
        in_phase g Running e p.0,
        ap (option_map state_after) last ∙ (mapped_or (last_outcome g.routine.kind g.routine.calls) g.routine.state (λ n. some_call (last ∙ n)) ∙ ap Some (sym (ap (λ f. next_in f g.routine) p.0))),
        λ h. none_unsent g e (p.1 (ap held_until (sym last) ∙ h)),
      ))
      (λ (o : ((g.phase ≡ Sending) × (g.routine.pending ≡ None)) ⊎ (((g.phase ≡ Stopping) ⊎ (g.phase ≡ LastSending)) × (g.routine.pending ≡ None))). inr (⊎_elim
      (λ (p : (g.phase ≡ Sending) × (g.routine.pending ≡ None)). inl (in_phase g Sending e p.0, ap (λ f. next_in f g.routine) p.0, none_unsent g e p.1))
      (λ (p : ((g.phase ≡ Stopping) ⊎ (g.phase ≡ LastSending)) × (g.routine.pending ≡ None)). inr (
        ⊎_elim (λ (z : g.phase ≡ Stopping). inl (in_phase g Stopping e z)) (λ (z : g.phase ≡ LastSending). inr (in_phase g LastSending e z)) p.0,
        ⊎_elim (λ (z : g.phase ≡ Stopping). ap (λ f. next_in f g.routine) z) (λ (z : g.phase ≡ LastSending). ap (λ f. next_in f g.routine) z) p.0,
        none_unsent g e p.1,
      ))
      o))
      q))
      may.sent

  pub yield_becomes : (g : Grip) → v.hand ≡ Some g → MayYield v g → (out : List (ℕ × Part)) → KeepsSound (Yields id g.croutine (next_state g))
      → Becomes r (Yields id g.croutine (next_state g)) w (stepped s (4 * g.croutine + 5) (state_number (next_state g)) id out (yielding v g) keeps)
  yield_becomes g e may out keep = state_becomes g e Done (next_state g) v.note out (Yields id g.croutine (next_state g)) keep record {
    owes = owes_known may.owes;
    held = may_yield g e may;
    effect = refl;
  }

  -- A hold word is swapped.
  pub acquire_becomes : (c : ℕ) → v.hand ≡ None → c < length w.routes → (spread s).word (4 * c + 4) ≡ 0 → (out : List (ℕ × Part)) → KeepsSound (Acquires id c)
      → (x : RoutineView) × (get_elem? s.homes (2 * c + 1) ≡ some (some (part.Routine x))) × (x ≡ routine_at r w c)
      × Becomes r (Acquires id c) w (stepped s (4 * c + 4) 1 id out (acquiring v c x) (takes (2 * c + 1) (part.Routine x)))
  acquire_becomes c idle less free out keep =
      let t = spread s in
      let i : ℕ = 4 * c + 4 in
      let x : RoutineView = routine_at r w c in
      let g : Grip = record { croutine = c; phase = Fresh; routine = x } in
      let v' : Seat = acquiring v c x in
      let w' : Plain = after_acquire id c w in
      let home = at_home (sits.rules.shows.parts.routine_kept c less) free in
      let k = mine in
      let nobody : IsFree w.hands c = λ p phase is. not_held c (t.seat p).hand phase (home.nobody p) (sym (sits.rules.shows.threads.hand_is p) ∙ is) in
      let happens : Acquires id c w w' = record {
        known = less;
        idle = sits.rules.shows.threads.hand_is id ∙ (ap (λ (u : Seat). hand_of u.hand) seat_is ∙ ap hand_of idle);
        free = nobody;
        effect = refl;
      } in
      let shows : Shows r w' (after t i 1 id v' (set_at (2 * c + 1) (some none) t.home)) = record {
        parts = parts_taken sits.rules.shows.parts id c v' (ap (λ (u : Seat). u.tape) (sym seat_is)) (ap (λ (u : Seat). u.visit) (sym seat_is)) (ap (λ (u : Seat). u.hand) seat_is ∙ idle) g refl refl refl free;
        words = same_words i 1 (hold_others (length w.routes) c 1 t.word less) sits.rules.shows.words;
        threads = threads_hand sits.rules.shows.threads id v v' seat_is refl refl refl refl (hand c Fresh) refl;
      } in (
        x,
        home_is s (2 * c + 1) (some (some (part.Routine x))) (routine_back (t.home (2 * c + 1)) x home.shown),
        refl,
        record {
          world = w';
          routes = refl;
          counts = refl;
          stop = refl;
          happens = happens;
          rules = rules_after r w s id v sits w' refl refl refl (nothing_grows w.routes w.tape w.clock w.calls w.closing w.raised id) v' i 1 out (takes (2 * c + 1) (part.Routine x)) (keep w w' happens sits.rules.sound)
              (subst (Shows r w') (sym (spread_takes s i 1 id v' out (omega (arith, wide_is, less)) seat_in (2 * c + 1) (part.Routine x) (omega (arith, deep_is, less)))) shows)
              (length-set s.homes (2 * c + 1) none) refl refl
              record { made = k.made; joined = λ z. absurd (sits.live z); calls = (take-length (w.calls c), k.calls); past = k.past; closes = k.closes; player = k.player };
        },
      )

  pub held_still : (c : ℕ) → c < length w.routes → (spread s).word (4 * c + 4) ≢ 0 → (out : List (ℕ × Part)) → Rules r w (stepped s (4 * c + 4) 1 id out (failing v c) keeps)
  held_still c less taken out = let k = mine in
      unmoved (4 * c + 4) 1 (omega (arith, wide_is, less)) (is_shut (sits.rules.shows.parts.routine_kept c less) taken) (v.note ++ Busy c ∷ []) v.clock v.closing out
      record { made = k.made; joined = λ z. absurd (sits.live z); calls = k.calls; past = k.past; closes = k.closes; player = k.player }

  -- .. by some thread.
  pub held_by : (c : ℕ) → c < length w.routes → slice_index s.words (4 * c + 4) ≢ 0 → (p : ℕ) × (phase : Phase) × (w.hands p ≡ hand c phase)
  held_by c less taken = ⊎_elim
      (λ (a : AtHome (routine_in ((spread s).home (2 * c + 1))) ((spread s).word (4 * c + 4)) (λ j. routine_of c ((spread s).seat j).hand) (routine_at r w c)). absurd (taken (is_word s (4 * c + 4) 0 a.free)))
      (λ (b : OutWith ((spread s).word (4 * c + 4)) (λ j. routine_of c ((spread s).seat j).hand) (routine_at r w c)).
      let h = held_in c ((spread s).seat b.seat).hand (routine_at r w c) b.mine in (b.seat, h.0, sits.rules.shows.threads.hand_is b.seat ∙ h.1))
      (sits.rules.shows.parts.routine_kept c less)

  -- A croutine is given back.
  pub release_becomes : (g : Grip) → v.hand ≡ Some g → MayRelease g → (out : List (ℕ × Part)) → KeepsSound (Releases id g.croutine)
      → Becomes r (Releases id g.croutine) w (stepped s (4 * g.croutine + 4) 0 id ((2 * g.croutine + 1, part.Routine g.routine) ∷ out) (releasing v) gives)
  release_becomes g e may out keep =
      let t = spread s in
      let c : ℕ = g.croutine in
      let i : ℕ = 4 * c + 4 in
      let y : Part = part.Routine g.routine in
      let v' : Seat = releasing v in
      let w' : Plain = after_release id w in
      let less : c < length w.routes = croutine_known g e in
      let k = mine in
      let happens : Releases id c w w' = record {
        held = ⊎_elim (λ (p : g.phase ≡ Done). inl (in_phase g Done e p)) (λ (p : g.phase ≡ Known). inr (in_phase g Known e p)) may;
        effect = refl;
      } in
      let shows : Shows r w' (after t i 0 id v' (set_at (2 * c + 1) (some (some y)) t.home)) = record {
        parts = parts_given sits.rules.shows.parts id c v' (ap (λ (u : Seat). u.tape) (sym seat_is)) (ap (λ (u : Seat). u.visit) (sym seat_is)) g (hand_is g e) refl refl;
        words = same_words i 0 (hold_others (length w.routes) c 0 t.word less) sits.rules.shows.words;
        threads = threads_hand sits.rules.shows.threads id v v' seat_is refl refl refl refl None refl;
      } in record {
        world = w';
        routes = refl;
        counts = refl;
        stop = refl;
        happens = happens;
        rules = rules_after r w s id v sits w' refl refl refl (nothing_grows w.routes w.tape w.clock w.calls w.closing w.raised id) v' i 0 ((2 * c + 1, y) ∷ out) gives (keep w w' happens sits.rules.sound)
            (subst (Shows r w') (sym (spread_gives s i 0 id v' out (omega (arith, wide_is, less)) seat_in (2 * c + 1) y (omega (arith, deep_is, less)))) shows)
            (length-set s.homes (2 * c + 1) (some y)) refl refl
            record { made = k.made; joined = λ z. absurd (sits.live z); calls = k.calls; past = k.past; closes = k.closes; player = k.player };
      }
