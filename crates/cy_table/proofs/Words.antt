-- What the steps of the clock, of the closing word, of news and of the bench may do, by their laws.
use Rattle.std.proofs.Common.{ℕ, ◌+◌, ◌*◌, ◌==◌, ◌≡◌, ◌≢◌, ◌≤◌, ◌<◌, refl, sym, ◌∙◌, ap, subst, ⊎_elim, true, List, [], ◌∷◌, ◌++◌, length, set, slice_index, Some, arith}
use mathlib.Core.Option.{none, some}
use lib.ListN.{get_elem?}
use Rattle.atomic_table.specs.Table.{State as Table, Splits, Joins, step, stepped, keeps}
use Rattle.std.proofs.lemmas.List.{map-append, map-set}
use Rattle.atomic_table.proofs.Lists.{at_snoc, at_map, set_else}
use Rattle.wake_core.specs.declared.route.Route.{Route}
use Rattle.wake_core.specs.Plain.{Plain}
use Rattle.wake_core.specs.Events.{Checks, Stops}
use Rattle.cy_table.specs.declared.part.Part.{Part}
use Rattle.cy_table.specs.Seats.{Seat, Sight, IsEmpty, no_seat}
use Rattle.cy_table.specs.Seats.Entry.{Clock, Closing}
use Rattle.cy_table.specs.Deeds as deed
use Rattle.cy_table.specs.Rule.{Rules, Ruled, IsMarked, seats_of}
use Rattle.cy_table.specs.Layout.{stop_number}
use Rattle.cy_table.specs.Steps.{Sits, Becomes, seeing, ticking, heeding, closing_all, MayClose, MayCheck, checking, MayRaise, raising, looking, clearing_but, split_off}
use Rattle.cy_table.specs.Laws.{ClockSteps, ClosingSteps, StopLoads, StopStores, StateLoads, FlagStores, BenchSteps}
use Rattle.cy_table.specs.Plays.{Thread, in_hand, but_first, but_last, saw, ticked, heeded, closed, checked, stopped, looked, cleared, first_number, last_number, no_deed, tick_deed, close_deed, check_deed, stop_deed, look_deed, clear_deed}
use Rattle.cy_table.specs.Sights.{staying, leaving, uniting, no_sight}
use Rattle.cy_table.proofs.Telling.{clock_word_is}
use Rattle.cy_table.proofs.Marking.{ShowsFor, Leaves, leaves_as, Plays, all_marked, united}
use Rattle.cy_table.proofs.Allowing.{moved_then, noting_then, seeing_then}

sits_at : {made : Plain} {s : Table Part Seat} (k : ShowsFor made s) (id : ℕ) (v : Seat) → lib.ListN.get_elem? s.views id ≡ mathlib.Core.Option.some v → v.live ≢ 0 → Sits k.rooms k.world s id v
sits_at k id v at live = record { rules = k.rules; at = at; live = live }

pub sees : ClockSteps → (made : Plain) (slots id : ℕ) (m : Thread) → m.0.live ≢ 0 → Plays made slots id m 1 (λ n. n) (saw (step slots 1 0 0 none) m) (no_deed (step slots 1 0 0 none) m)
sees law made slots id m live = record {
  each = λ s k deep at bound.
      let sits = sits_at k id m.0 at live in
      (seeing m.0 (slice_index s.words 1), keeps, tt, seeing_then k id m.0 (seeing m.0 (slice_index s.words 1)) (law.load k.rooms k.world s id m.0 m.1 sits) (Clock (slice_index s.words 1)) refl (clock_word_is k.rooms k.world s id m.0 sits), record { thread = refl; past = law.rises k.rooms k.world s id m.0 sits });
}

pub ticks : ClockSteps → (made : Plain) (slots id time : ℕ) (m : Thread) → m.0.live ≢ 0 → id ≡ 0 → m.0.clock ≤ time → Plays made slots id m 1 (λ _. time) (λ _. ticked (step slots 1 time 0 none) m time) (λ _. tick_deed (step slots 1 time 0 none) m time)
ticks law made slots id time m live player later = subst (λ j. Plays made slots j m 1 (λ _. time) (λ _. ticked (step slots 1 time 0 none) m time) (λ _. tick_deed (step slots 1 time 0 none) m time)) (sym player)
    record {
      each = λ s k deep at bound. let b = law.tick k.rooms k.world s m.0 time m.1 (sits_at k 0 m.0 at live) later in
          (ticking m.0 time, keeps, tt, noting_then k 0 m.0 (ticking m.0 time) (deed.Tick time) b (Clock time) refl (ap (λ (w : Plain). w.clock) b.happens.effect), refl);
    }

pub heeds : ClosingSteps → (made : Plain) (slots id : ℕ) (m : Thread) → m.0.live ≢ 0 → Plays made slots id m 2 (λ n. n) (heeded (step slots 2 0 0 none) m) (no_deed (step slots 2 0 0 none) m)
heeds law made slots id m live = record {
  each = λ s k deep at bound.
      let sits = sits_at k id m.0 at live in (
        heeding m.0 (slice_index s.words 2 == 1),
        keeps,
        tt,
        seeing_then k id m.0 (heeding m.0 (slice_index s.words 2 == 1)) (law.load k.rooms k.world s id m.0 m.1 sits) (Closing (slice_index s.words 2 == 1)) refl (sym (law.is_true k.rooms k.world s id m.0 sits)),
        record { thread = refl; stays = λ e. law.is_true k.rooms k.world s id m.0 sits ∙ (k.rules.knows id m.0 at).closes e },
      );
}

pub closes : ClosingSteps → (made : Plain) (slots id : ℕ) (m : Thread) → m.0.live ≢ 0 → id ≡ 0 → MayClose m.0
    → Plays made slots id m 2 (λ _. 1) (λ _. closed (step slots 2 1 0 none) m 1) (λ _. close_deed (step slots 2 1 0 none) m 1)
closes law made slots id m live player may = subst (λ j. Plays made slots j m 2 (λ _. 1) (λ _. closed (step slots 2 1 0 none) m 1) (λ _. close_deed (step slots 2 1 0 none) m 1)) (sym player)
    record {
      each = λ s k deep at bound. let b = law.close k.rooms k.world s m.0 m.1 (sits_at k 0 m.0 at live) may in
          (closing_all m.0, keeps, tt, noting_then k 0 m.0 (closing_all m.0) deed.Close b (Closing true) refl (ap (λ (w : Plain). w.closing) b.happens.effect), refl);
    }

-- The load and the store of the stop word, at its place.
pub checks : StopLoads → (made : Plain) (slots id i : ℕ) (m : Thread) → m.0.live ≢ 0 → m.0.hand ≡ Some (in_hand m.0) → MayCheck (in_hand m.0) → i ≡ 4 * length made.routes + 4
    → Plays made slots id m i (λ n. n) (checked (step slots i 0 0 none) m) (check_deed (step slots i 0 0 none) m)
checks law made slots id i m live has may place = record {
  each = λ s k deep at bound.
      let g = in_hand m.0 in
      let becomes = λ (j : ℕ). Becomes k.rooms (Checks id g.croutine) k.world (stepped s j (slice_index s.words j) id m.1 (checking m.0 g (slice_index s.words j == g.croutine + 1)) keeps) in
      let there : 4 * length k.world.routes + 4 ≡ i = ap (λ (l : List Route). 4 * length l + 4) k.components ∙ sym place in
      let b = subst becomes there (law.check k.rooms k.world s id m.0 g m.1 (sits_at k id m.0 at live) has may) in
      let v' = checking m.0 g (slice_index s.words i == g.croutine + 1) in
      (v', keeps, tt, moved_then k id m.0 v' (deed.Check g.croutine) b refl, refl);
}

pub raises : StopStores → (made : Plain) (slots id i x : ℕ) (m : Thread) → m.0.live ≢ 0 → id ≡ 0 → MayRaise m.0 → i ≡ 4 * length made.routes + 4 → x ≡ stop_number made.stop true
    → Plays made slots id m i (λ _. x) (λ _. stopped (step slots i x 0 none) m x) (λ _. stop_deed (step slots i x 0 none) m x)
raises law made slots id i x m live player may place number = subst (λ j. Plays made slots j m i (λ _. x) (λ _. stopped (step slots i x 0 none) m x) (λ _. stop_deed (step slots i x 0 none) m x)) (sym player)
    record {
      each = λ s k deep at bound.
          let becomes = λ (j y : ℕ). Becomes k.rooms Stops k.world (stepped s j y 0 m.1 (raising m.0) keeps) in
          let there : 4 * length k.world.routes + 4 ≡ i = ap (λ (l : List Route). 4 * length l + 4) k.components ∙ sym place in
          let says : stop_number k.world.stop true ≡ x = ap (λ o. stop_number o true) k.stop ∙ sym number in
          let b = subst (λ y. becomes i y) says (subst (λ j. becomes j (stop_number k.world.stop true)) there (law.stop k.rooms k.world s m.0 m.1 (sits_at k 0 m.0 at live) may)) in
          (raising m.0, keeps, tt, moved_then k 0 m.0 (raising m.0) deed.Stop b refl, refl);
    }

first_of : ℕ → List ℕ → ℕ
first_of d [] = d
first_of d (c ∷ rest) = c

same_first : (c d : ℕ) (xs ys : List ℕ) → c ∷ xs ≡ d ∷ ys → c ≡ d
unfolding first_of
same_first c d xs ys e = ap (first_of c) e

pub looks : StateLoads → (made : Plain) (slots id c : ℕ) (m : Thread) → m.0.live ≢ 0 → m.0.fills ≡ [] → m.0.news ≡ c ∷ but_first m.0.news → c < length made.routes
    → Plays made slots id m (4 * c + 5) (λ n. n) (looked (step slots (4 * c + 5) 0 0 none) m) (look_deed (step slots (4 * c + 5) 0 0 none) m)
looks law made slots id c m live filled news less = record {
  each = λ s k deep at bound.
      let inside : c < length k.world.routes = subst (λ (l : List Route). c < length l) (sym k.components) less in
      let found = slice_index s.words (4 * c + 5) in (
        looking m.0 c (but_first m.0.news) (found == 1),
        keeps,
        tt,
        leaves_as (ap (λ (l : List ℕ). deed.Look (first_number l) ∷ []) (sym news)) (moved_then k id m.0 (looking m.0 c (but_first m.0.news) (found == 1)) (deed.Look c) (law.look k.rooms k.world s id m.0 c (but_first m.0.news) m.1 (sits_at k id m.0 at live) filled news inside) refl),
        λ d e. ap (λ j. let n : Thread = (looking m.0 j (but_first m.0.news) (found == 1), m.1) in n) (same_first c d (but_first m.0.news) (but_first m.0.news) (sym news ∙ e)),
      );
}

pub but_last_is : (xs : List ℕ) (c : ℕ) → but_last (xs ++ c ∷ []) ≡ xs
but_last_is [] c = refl
but_last_is (x ∷ []) c = refl
but_last_is (x ∷ y ∷ rest) c = ap (λ l. x ∷ l) (but_last_is (y ∷ rest) c)

pub last_number_is : (xs : List ℕ) (c : ℕ) → last_number (xs ++ c ∷ []) ≡ c
last_number_is [] c = refl
last_number_is (x ∷ []) c = refl
last_number_is (x ∷ y ∷ rest) c = last_number_is (y ∷ rest) c

pub clears : FlagStores → (made : Plain) (slots id c : ℕ) (m : Thread) → m.0.live ≢ 0 → m.0.clearing ≡ but_last m.0.clearing ++ c ∷ [] → c < length made.routes
    → Plays made slots id m (4 * c + 6) (λ _. 0) (λ _. cleared (step slots (4 * c + 6) 0 0 none) m 0) (λ _. clear_deed (step slots (4 * c + 6) 0 0 none) m 0)
clears law made slots id c m live last less = record {
  each = λ s k deep at bound.
      let inside : c < length k.world.routes = subst (λ (l : List Route). c < length l) (sym k.components) less in
      let kept = but_last m.0.clearing in (
        clearing_but m.0 kept,
        keeps,
        tt,
        leaves_as (ap (λ n. deed.Clear n ∷ []) (sym (ap last_number last ∙ last_number_is kept c)))
            (subst (λ l. Leaves k.rooms id (deed.Clear c ∷ []) k.world m.0 (clearing_but m.0 l) (stepped s (4 * c + 6) 0 id m.1 (clearing_but m.0 l) keeps)) (nothing_after kept)
            (moved_then k id m.0 (clearing_but m.0 (kept ++ [])) (deed.Clear c) (law.clear k.rooms k.world s id m.0 c kept [] m.1 (sits_at k id m.0 at live) last inside) refl)),
        refl,
      );
}
  where
    nothing_after : (xs : List ℕ) → xs ++ [] ≡ xs
    nothing_after [] = refl
    nothing_after (x ∷ rest) = ap (λ l. x ∷ l) (nothing_after rest)

-- Seats come and go, with what they noted.
pub splits : BenchSteps → (made : Plain) (id : ℕ) (v : Sight) → v.seat.live ≢ 0 → id ≡ 0 → Splits (Ruled made) id v (staying v) (leaving v)
splits law made id v live player = subst (λ j. Splits (Ruled made) j v (staying v) (leaving v)) (sym player)
    (λ s k at.
    let is = k.noted 0 v at in
    let seat : get_elem? (seats_of s).views 0 ≡ some v.seat = at_map (λ (u : Sight). u.seat) s.views 0 v at in record {
      world = k.world;
      rooms = k.rooms;
      components = k.components;
      planned = k.planned;
      stop = k.stop;
      way = k.way;
      noted = λ j u e. ⊎_elim
          (λ (l : get_elem? (set s.views 0 (staying v)) j ≡ some u). all_marked k.way s.views 0 (staying v) k.noted record { last = is.last; own = is.own; others = is.others } j u l)
          (λ (l : leaving v ≡ u). subst (λ (y : Sight). IsMarked k.way j y) l record { last = is.last; own = record { rising = omega arith; so = tt; ordered = omega arith; done = tt }; others = tt })
          (at_snoc (set s.views 0 (staying v)) (leaving v) u j e);
      rules = subst (λ (l : List Seat). Rules k.rooms k.world record { words = s.words; homes = s.homes; views = l })
          (sym (map-append (λ (u : Sight). u.seat) (set s.views 0 (staying v)) (leaving v ∷ []) ∙ ap (λ (l : List Seat). l ++ split_off v.seat ∷ []) (map-set (λ (u : Sight). u.seat) s.views 0 (staying v))))
          (law.split k.rooms k.world (seats_of s) v.seat record { rules = k.rules; at = seat; live = live });
    })

pub joins : BenchSteps → (made : Plain) (id : ℕ) (v : Sight) (other : ℕ) (o : Sight) → v.seat.live ≢ 0 → id ≡ 0 → o.seat.live ≡ 1 → IsEmpty o.seat
    → Joins (Ruled made) id v other o (uniting v o) no_sight
joins law made id v other o live player here empty = subst (λ j. Joins (Ruled made) j v other o (uniting v o) no_sight) (sym player)
    (λ s k at ne there.
    let seat : get_elem? (seats_of s).views 0 ≡ some v.seat = at_map (λ (u : Sight). u.seat) s.views 0 v at in
    let others : get_elem? s.views other ≡ some o = sym (set_else s.views 0 other (uniting v o) ne) ∙ there in
    let away = set s.views 0 (uniting v o) in record {
      world = k.world;
      rooms = k.rooms;
      components = k.components;
      planned = k.planned;
      stop = k.stop;
      way = k.way;
      noted = all_marked k.way away other no_sight (all_marked k.way s.views 0 (uniting v o) k.noted (united k.way 0 other v o (k.noted 0 v at) (k.noted other o others)))
          record { last = omega arith; own = record { rising = omega arith; so = tt; ordered = omega arith; done = tt }; others = tt };
      rules = subst (λ (l : List Seat). Rules k.rooms k.world record { words = s.words; homes = s.homes; views = l })
          (sym (map-set (λ (u : Sight). u.seat) away other no_sight ∙ ap (λ (l : List Seat). set l other no_seat) (map-set (λ (u : Sight). u.seat) s.views 0 (uniting v o))))
          (law.join k.rooms k.world (seats_of s) v.seat other o.seat record { rules = k.rules; at = seat; live = live } ne (at_map (λ (u : Sight). u.seat) s.views other o others) here empty);
    })
