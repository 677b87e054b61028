-- A table at its start and at its end.
use Rattle.std.proofs.Common.{ℕ, zero, suc, ◌+◌, ◌*◌, ◌≡◌, ◌≢◌, ◌≤◌, ◌<◌, refl, sym, ◌∙◌, ap, subst, inl, ⊎_elim, List, [], ◌∷◌, length, get_or, Option, None, arith}
use Rattle.std.proofs.lemmas.Option.{none-some}
use mathlib.Core.Option.{some, some-ne-none, some-injective}
use mathlib.Core.Option as maybe
use lib.ListN.{get_elem?}
use Rattle.atomic_table.specs.Table.{State as Table}
use Rattle.wake_core.specs.Plain.{Plain}
use Rattle.wake_core.specs.Sound.{Sound}
use Rattle.wake_core.specs.Fields.{IsFixed}
use Rattle.wake_core.specs.Laws.{IsIdle}
use Rattle.cy_table.specs.declared.part.Part.{Part}
use Rattle.cy_table.specs.declared.part.Part.TheVariants as part
use Rattle.cy_table.specs.Layout.{state_number, yes_or_no, stop_number}
use Rattle.cy_table.specs.Seats.{Seat, Seen, no_seat}
use Rattle.cy_table.specs.Seats.{IsEmpty, AreSeen, total_live}
use Rattle.cy_table.specs.Shown.{Rooms, AreRoomy, Kept, AtHome, OutWith, LiesOpen, spread, routine_in, visitor_in, tape_in, routine_of, visitor_of, hand_of, routine_at, visitor_at, tape_at}
use Rattle.cy_table.specs.Rule.{Rules, Knows}
use Rattle.cy_table.specs.Steps.{Sits, first_seat}
use Rattle.cy_table.proofs.Places.{place, is_word, home_is}
use Rattle.cy_table.proofs.Holding.{routine_back}
use Rattle.cy_table.proofs.Doors.{tape_back, visitor_back}
use Rattle.cy_table.proofs.Benching.{snoc_seen, live_le, same_seat}

single : (a : Seat) (j : ℕ) (u : Seat) → get_elem? (a ∷ []) j ≡ some u → (j ≡ 0) × (a ≡ u)
single a zero u e = (refl, some-injective a u e)
single a (suc j) u e = absurd (some-ne-none u (sym e))

pub starts : (r : Rooms) (w : Plain) (words : List ℕ) (homes : List (maybe.Option Part)) (seen : List Seen) → Sound w → ((p : ℕ) → IsIdle p w) → IsFixed w.routes w.counts → AreRoomy w.routes w.counts r → LiesOpen r w words homes
    → AreSeen w.calls seen → Rules r w record { words = words; homes = homes; views = first_seat w seen ∷ [] }
unfolding spread
starts r w words homes seen sound idle fixed roomy lies all =
    let a : Seat = first_seat w seen in
    let knows : Knows w 0 a = record {
      made = λ z. (refl, refl, refl);
      joined = λ z. absurd (omega (arith, z));
      calls = all;
      past = omega arith;
      closes = λ z. z;
      player = λ z. (refl, refl, refl, refl);
    } in
    record {
      wide = lies.wide;
      deep = lies.deep;
      sound = sound;
      fixed = fixed;
      roomy = roomy;
      shows = record {
        parts = record {
          tape_kept = inl record { free = lies.tape_free; shown = ap tape_in lies.tape; nobody = snoc_seen (λ (u : Seat). u.tape) [] a refl };
          routine_kept = λ c less. inl record { free = lies.free c less; shown = ap routine_in (lies.routine c less); nobody = snoc_seen (λ (u : Seat). routine_of c u.hand) [] a refl };
          visitor_kept = λ c less. inl record { free = lies.visitor_free c less; shown = ap visitor_in (lies.visitor c less); nobody = snoc_seen (λ (u : Seat). visitor_of c u.visit) [] a refl };
        };
        words = record { state = lies.state; flag = lies.flag; clock_is = lies.clock_is; closing_is = lies.closing_is; stop_is = lies.stop_is };
        threads = record {
          hand_is = λ j. (idle j).hand ∙ sym (snoc_seen (λ (u : Seat). hand_of u.hand) [] a refl j);
          fills_are = λ j. (idle j).owes.filled ∙ sym (snoc_seen (λ (u : Seat). u.fills) [] a refl j);
          news_are = λ j. (idle j).owes.looked ∙ sym (snoc_seen (λ (u : Seat). u.news) [] a refl j);
          clearing_is = λ j. (idle j).owes.cleared ∙ sym (snoc_seen (λ (u : Seat). u.clearing) [] a refl j);
          token_is = λ j owes. absurd (owes (idle j).owes.filled);
        };
      };
      knows = λ j u e. let one = single a j u e in subst (Knows w j) one.1 (subst (λ i. Knows w i a) (sym one.0) knows);
      counted = λ u e. let one = single a 0 u e in (ap (λ (z : Seat). z.live) (sym one.1), ap (λ (z : Seat). z.split + 1) one.1);
    }

-- A seat beside the first.
live_two : (l : List Seat) (j : ℕ) (u v : Seat) → get_elem? l 0 ≡ some v → get_elem? l j ≡ some u → j ≢ 0 → u.live + v.live ≤ total_live l
live_two [] j u v first at ne = absurd (some-ne-none v (sym first))
live_two (x ∷ xs) zero u v first at ne = absurd (ne refl)
live_two (x ∷ xs) (suc j) u v first at ne = omega (arith, ap (λ (z : Seat). z.live) (some-injective x v first), live_le xs j u at)

-- What holds of each seat that is there, and of no seat, holds of all.
each_seat : (P : Seat → Type 0) → P no_seat → (xs : List Seat) (j : ℕ) → ((u : Seat) → get_elem? xs j ≡ some u → P u) → P (get_or xs j no_seat)
each_seat P none [] j f = none
each_seat P none (x ∷ xs) zero f = f x refl
each_seat P none (x ∷ xs) (suc j) f = each_seat P none xs j f

module _ {X : Type 0} {home : Option X} {word : ℕ} {has : ℕ → Option X} {x : X} where
  nobody_has : Kept home word has x → ((j : ℕ) → has j ≡ None) → AtHome home word has x
  nobody_has k none = ⊎_elim (λ (a : AtHome home word has x). a) (λ (b : OutWith word has x). absurd (none-some x (sym (none b.seat) ∙ b.mine))) k

module _ (r : Rooms) (w : Plain) (s : Table Part Seat) (v : Seat) (sits : Sits r w s 0 v) (empty : IsEmpty v) (none_out : v.split ≡ 0) where
  all_empty : (j : ℕ) → IsEmpty ((spread s).seat j)
  unfolding spread
  all_empty j = each_seat IsEmpty record { hand = refl; visit = refl; tape = refl; fills = refl; news = refl; clearing = refl } s.views j
      (λ u e. ⊎_elim
      (λ (z : j ≡ 0). subst IsEmpty (same_seat s.views 0 v u sits.at (subst (λ i. get_elem? s.views i ≡ some u) z e)) empty)
      (λ (ne : j ≢ 0). let two = live_two s.views j u v sits.at e ne in let c = sits.rules.counted v sits.at in (sits.rules.knows j u e).joined (omega (arith, two, c.0, c.1, none_out)))
      (place j 0))

  pub all_idle : (p : ℕ) → IsIdle p w
  all_idle p = let th = sits.rules.shows.threads in let u = all_empty p in record {
    hand = th.hand_is p ∙ ap hand_of u.hand;
    owes = record { filled = th.fills_are p ∙ u.fills; looked = th.news_are p ∙ u.news; cleared = th.clearing_is p ∙ u.clearing };
  }

  pub lies_open : LiesOpen r w s.words s.homes
  lies_open =
      let parts = sits.rules.shows.parts in
      let words = sits.rules.shows.words in
      let tape = nobody_has parts.tape_kept (λ j. (all_empty j).tape) in
      let routine = λ (c : ℕ) (less : c < length w.routes). nobody_has (parts.routine_kept c less) (λ j. ap (routine_of c) (all_empty j).hand) in
      let visitor = λ (c : ℕ) (less : c < length w.routes). nobody_has (parts.visitor_kept c less) (λ j. ap (visitor_of c) (all_empty j).visit) in record {
        wide = sits.rules.wide;
        deep = sits.rules.deep;
        clock_is = is_word s 1 w.clock words.clock_is;
        closing_is = is_word s 2 (yes_or_no w.closing) words.closing_is;
        stop_is = is_word s (4 * length w.routes + 4) (stop_number w.stop w.raised) words.stop_is;
        state = λ c less. is_word s (4 * c + 5) (state_number (w.states c)) (words.state c less);
        flag = λ c less. is_word s (4 * c + 6) (yes_or_no (w.spent c)) (words.flag c less);
        tape_free = is_word s 3 0 tape.free;
        free = λ c less. is_word s (4 * c + 4) 0 (routine c less).free;
        visitor_free = λ c less. is_word s (4 * c + 7) 0 (visitor c less).free;
        tape = home_is s 0 (some (some (part.Tape (tape_at r w)))) (tape_back ((spread s).home 0) (tape_at r w) tape.shown);
        routine = λ c less. home_is s (2 * c + 1) (some (some (part.Routine (routine_at r w c)))) (routine_back ((spread s).home (2 * c + 1)) (routine_at r w c) (routine c less).shown);
        visitor = λ c less. home_is s (2 * c + 2) (some (some (part.Visitor (visitor_at r w c)))) (visitor_back ((spread s).home (2 * c + 2)) (visitor_at r w c) (visitor c less).shown);
      }
