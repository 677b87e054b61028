-- Seats come and go.
use Rattle.std.proofs.Common.{ℕ, zero, suc, ◌+◌, ◌-◌, ◌≡◌, ◌≢◌, ◌≤◌, refl, sym, ◌∙◌, ap, subst, ⊎_elim, List, [], ◌∷◌, ◌++◌, set, get_or, arith}
use mathlib.Core.Bool.{false≢true}
use mathlib.Core.Option.{some, some-ne-none, some-injective}
use lib.ListN.{get_elem?}
use Rattle.atomic_table.specs.Table.{State as Table}
use Rattle.atomic_table.proofs.Lists.{at_set, at_longer, at_snoc, set_here, set_else}
use Rattle.cy_msg.specs.declared.token.Token.{Token}
use Rattle.cy_fuse.specs.Visitor.{VisitorView}
use Rattle.cy_comp.specs.declared.call.Call.{Call}
use Rattle.cy_comp.specs.Routine.{RoutineView}
use Rattle.wake_core.specs.Run.{set_at}
use Rattle.wake_core.specs.Plain.{Plain}
use Rattle.cy_table.specs.declared.part.Part.{Part}
use Rattle.cy_table.specs.Seats.{Seat, Seen, TapeView, no_seat}
use Rattle.cy_table.specs.Seats.{IsEmpty, AreSeen, total_live}
use Rattle.cy_table.specs.Shown.{Rooms, Spread, spread, routine_of, visitor_of, hand_of}
use Rattle.cy_table.specs.Rule.{Rules, Knows, ShowsParts}
use Rattle.cy_table.specs.Steps.{Sits, splitting, split_off, joining}
use Rattle.cy_table.proofs.Places.{place, other, unseen, within, seated, list_changed}
use Rattle.cy_table.proofs.Keeping.{stays}
use Rattle.cy_table.proofs.Knowing.{live_set}
use Rattle.cy_table.proofs.Holding.{seat_is, seat_in, mine}

-- Seats that show the same.
parts_reseated : {n : ℕ} {tape : TapeView} {routines : ℕ → RoutineView} {visitors : ℕ → VisitorView} {t : Spread} → ShowsParts n tape routines visitors t → (seat : ℕ → Seat)
    → ((j : ℕ) → (seat j).tape ≡ (t.seat j).tape) → ((j : ℕ) → (seat j).hand ≡ (t.seat j).hand) → ((j : ℕ) → (seat j).visit ≡ (t.seat j).visit)
    → ShowsParts n tape routines visitors (record t { seat = seat })
parts_reseated sh seat tape hand visit = record {
  tape_kept = stays refl refl tape sh.tape_kept;
  routine_kept = λ c less. stays refl refl (λ j. ap (routine_of c) (hand j)) (sh.routine_kept c less);
  visitor_kept = λ c less. stays refl refl (λ j. ap (visitor_of c) (visit j)) (sh.visitor_kept c less);
}

-- A seat more behind the others shows what no seat shows.
pub snoc_seen : {X : Type 0} (g : Seat → X) (xs : List Seat) (b : Seat) → g b ≡ g no_seat → (k : ℕ) → g (get_or (xs ++ b ∷ []) k no_seat) ≡ g (get_or xs k no_seat)
snoc_seen g [] b e zero = e
snoc_seen g [] b e (suc k) = refl
snoc_seen g (x ∷ xs) b e zero = refl
snoc_seen g (x ∷ xs) b e (suc k) = snoc_seen g xs b e k

live_snoc : (l : List Seat) (b : Seat) → total_live (l ++ b ∷ []) ≡ total_live l + b.live
live_snoc [] b = omega arith
live_snoc (x ∷ xs) b = omega (arith, live_snoc xs b)

pub live_le : (l : List Seat) (j : ℕ) (v : Seat) → get_elem? l j ≡ some v → v.live ≤ total_live l
live_le [] j v e = absurd (some-ne-none v (sym e))
live_le (x ∷ xs) zero v e = omega (arith, ap (λ (z : Seat). z.live) (some-injective x v e))
live_le (x ∷ xs) (suc j) v e = omega (arith, live_le xs j v e)

seen_both : (calls : ℕ → List Call) (xs ys : List Seen) → AreSeen calls xs → AreSeen calls ys → AreSeen calls (xs ++ ys)
seen_both calls [] ys a b = b
seen_both calls (x ∷ xs) ys a b = (a.0, seen_both calls xs ys a.1 b)

pub same_seat : (xs : List Seat) (j : ℕ) (a b : Seat) → get_elem? xs j ≡ some a → get_elem? xs j ≡ some b → a ≡ b
same_seat xs j a b p q = some-injective a b (sym p ∙ q)

-- Seats that only changed their number of seats split off, and what they saw.
module _ (r : Rooms) (w : Plain) (s : Table Part Seat) (v : Seat) (sits : Sits r w s 0 v) where
  first_after : (a : Seat) → get_elem? (set s.views 0 a) 0 ≡ some a
  first_after a = set_here s.views 0 a (seat_in r w s 0 v sits)

  seat_read : get_or s.views 0 no_seat ≡ v
  unfolding spread
  seat_read = seat_is r w s 0 v sits

  field_after : {X : Type 0} (g : Seat → X) (a : Seat) → g a ≡ g v → (j : ℕ) → g (get_or (set s.views 0 a) j no_seat) ≡ g (get_or s.views j no_seat)
  field_after g a e j =
      ap (λ (f : ℕ → Seat). g (f j)) (list_changed no_seat s.views 0 a (seat_in r w s 0 v sits))
      ∙ unseen g 0 a (λ k. get_or s.views k no_seat) j (e ∙ ap g (sym seat_read))

  split_still : {X : Type 0} (g : Seat → X) → g (splitting v) ≡ g v → g (split_off v) ≡ g no_seat → (j : ℕ) → g (get_or (set s.views 0 (splitting v) ++ split_off v ∷ []) j no_seat) ≡ g (get_or s.views j no_seat)
  split_still g p q j = snoc_seen g (set s.views 0 (splitting v)) (split_off v) q j ∙ field_after g (splitting v) p j

  module _ (k : ℕ) (o : Seat) (apart : k ≢ 0) (at : get_elem? s.views k ≡ some o) where
    mid_at : get_elem? (set s.views 0 (joining v o)) k ≡ some o
    mid_at = set_else s.views 0 k (joining v o) apart ∙ at

    seats_joined : (λ j. get_or (set (set s.views 0 (joining v o)) k no_seat) j no_seat) ≡ set_at k no_seat (λ j. get_or (set s.views 0 (joining v o)) j no_seat)
    seats_joined = list_changed no_seat (set s.views 0 (joining v o)) k no_seat (within (set s.views 0 (joining v o)) k o mid_at)

    other_read : get_or s.views k no_seat ≡ o
    unfolding spread
    other_read = seated s k o at

    other_mid : get_or (set s.views 0 (joining v o)) k no_seat ≡ o
    unfolding spread
    other_mid = seated record { words = s.words; homes = s.homes; views = set s.views 0 (joining v o) } k o mid_at

    join_still : {X : Type 0} (g : Seat → X) → g (joining v o) ≡ g v → g no_seat ≡ g o → (j : ℕ) → g (get_or (set (set s.views 0 (joining v o)) k no_seat) j no_seat) ≡ g (get_or s.views j no_seat)
    join_still g p q j =
        ap (λ (f : ℕ → Seat). g (f j)) seats_joined
        ∙ (unseen g k no_seat (λ i. get_or (set s.views 0 (joining v o)) i no_seat) j (q ∙ ap g (sym other_mid)) ∙ field_after g (joining v o) p j)

    -- The message of the seat that is joined, which owes nothing, may be another one.
    join_token : (tokens : ℕ → Token) → (w.fills k ≡ []) → ((j : ℕ) → w.fills j ≢ [] → tokens j ≡ (get_or s.views j no_seat).token)
        → (j : ℕ) → w.fills j ≢ [] → tokens j ≡ (get_or (set (set s.views 0 (joining v o)) k no_seat) j no_seat).token
    join_token tokens none all j owes = ⊎_elim
        (λ (z : j ≡ k). absurd (owes (ap w.fills z ∙ none)))
        (λ (ne : j ≢ k). all j owes ∙ sym (field_after (λ (u : Seat). u.token) (joining v o) refl j)
        ∙ ap (λ (u : Seat). u.token) (sym (other k no_seat (λ i. get_or (set s.views 0 (joining v o)) i no_seat) j ne))
        ∙ ap (λ (f : ℕ → Seat). (f j).token) (sym seats_joined))
        (place j k)

  pub splits : Rules r w record { words = s.words; homes = s.homes; views = set s.views 0 (splitting v) ++ split_off v ∷ [] }
  unfolding spread
  splits =
      let a : Seat = splitting v in
      let b : Seat = split_off v in
      let views = set s.views 0 a ++ b ∷ [] in
      let k = mine r w s 0 v sits in
      let first : get_elem? views 0 ≡ some a = at_longer (set s.views 0 a) (b ∷ []) 0 a (first_after a) in
      let seat : ℕ → Seat = λ j. get_or views j no_seat in
      let made = k.made sits.live in
      let a_knows : Knows w 0 a = record { made = k.made; joined = λ z. absurd (sits.live z); calls = k.calls; past = k.past; closes = k.closes; player = k.player } in
      let b_knows : (j : ℕ) → j ≢ 0 → Knows w j b = λ j ne. record {
        made = λ z. made;
        joined = λ z. absurd (omega (arith, z));
        calls = tt;
        past = omega arith;
        closes = λ z. absurd (false≢true z);
        player = λ z. absurd (ne z);
      } in
      let behind : (j : ℕ) (u : Seat) → j ≢ 0 → get_elem? views j ≡ some u → Knows w j u = λ j u ne e. ⊎_elim
      (λ (l : get_elem? (set s.views 0 a) j ≡ some u). sits.rules.knows j u (sym (set_else s.views 0 j a ne) ∙ l))
      (λ (l : b ≡ u). subst (Knows w j) l (b_knows j ne))
      (at_snoc (set s.views 0 a) b u j e) in
      let th = sits.rules.shows.threads in
      record {
        wide = sits.rules.wide;
        deep = sits.rules.deep;
        sound = sits.rules.sound;
        fixed = sits.rules.fixed;
        roomy = sits.rules.roomy;
        shows = record {
          parts = parts_reseated sits.rules.shows.parts seat (split_still (λ (u : Seat). u.tape) refl refl) (split_still (λ (u : Seat). u.hand) refl refl) (split_still (λ (u : Seat). u.visit) refl refl);
          words = sits.rules.shows.words;
          threads = record {
            hand_is = λ j. th.hand_is j ∙ sym (split_still (λ (u : Seat). hand_of u.hand) refl refl j);
            fills_are = λ j. th.fills_are j ∙ sym (split_still (λ (u : Seat). u.fills) refl refl j);
            news_are = λ j. th.news_are j ∙ sym (split_still (λ (u : Seat). u.news) refl refl j);
            clearing_is = λ j. th.clearing_is j ∙ sym (split_still (λ (u : Seat). u.clearing) refl refl j);
            token_is = λ j owes. th.token_is j owes ∙ sym (split_still (λ (u : Seat). u.token) refl refl j);
          };
        };
        knows = λ j u e. ⊎_elim
            (λ (z : j ≡ 0). subst (λ m. Knows w m u) (sym z) (subst (Knows w 0) (same_seat views 0 a u first (subst (λ m. get_elem? views m ≡ some u) z e)) a_knows))
            (λ (ne : j ≢ 0). behind j u ne e) (place j 0);
        counted = λ u e.
            let same = same_seat views 0 a u first e in
            let c = sits.rules.counted v sits.at in
            let sum = live_set s.views 0 v a sits.at in
            let all = live_snoc (set s.views 0 a) b in
            let total : total_live views ≡ (v.split + 1) + 1 = omega (arith, sum, all, c.1) in
            (ap (λ (z : Seat). z.live) (sym same) ∙ c.0, total ∙ ap (λ (z : Seat). z.split + 1) same);
      }

  pub joins : (k : ℕ) (o : Seat) → k ≢ 0 → get_elem? s.views k ≡ some o → o.live ≡ 1 → IsEmpty o
      → Rules r w record { words = s.words; homes = s.homes; views = set (set s.views 0 (joining v o)) k no_seat }
  unfolding spread
  joins k o apart at live empty =
      let a : Seat = joining v o in
      let mid = set s.views 0 a in
      let views = set mid k no_seat in
      let m = mine r w s 0 v sits in
      let o_knows = sits.rules.knows k o at in
      let first : get_elem? views 0 ≡ some a = set_else mid k 0 no_seat (λ z. apart (sym z)) ∙ first_after a in
      let seat : ℕ → Seat = λ j. get_or views j no_seat in
      let th = sits.rules.shows.threads in
      let none : w.fills k ≡ [] = th.fills_are k ∙ (ap (λ (u : Seat). u.fills) (other_read k o apart at) ∙ empty.fills) in
      let a_knows : Knows w 0 a = record { made = m.made; joined = λ z. absurd (sits.live z); calls = seen_both w.calls o.seen v.seen o_knows.calls m.calls; past = m.past; closes = m.closes; player = m.player } in
      let gone_knows : (j : ℕ) → j ≢ 0 → Knows w j no_seat = λ j ne. record {
        made = λ z. absurd (z refl);
        joined = λ z. record { hand = refl; visit = refl; tape = refl; fills = refl; news = refl; clearing = refl };
        calls = tt;
        past = omega arith;
        closes = λ z. absurd (false≢true z);
        player = λ z. absurd (ne z);
      } in
      let behind : (j : ℕ) (u : Seat) → j ≢ 0 → get_elem? views j ≡ some u → Knows w j u = λ j u ne e. ⊎_elim
      (λ (z : (j ≡ k) × (no_seat ≡ u)). subst (Knows w j) z.1 (gone_knows j ne))
      (λ (z : (j ≢ k) × (get_elem? mid j ≡ some u)). sits.rules.knows j u (sym (set_else s.views 0 j a ne) ∙ z.1))
      (at_set mid k j no_seat u e) in
      record {
        wide = sits.rules.wide;
        deep = sits.rules.deep;
        sound = sits.rules.sound;
        fixed = sits.rules.fixed;
        roomy = sits.rules.roomy;
        shows = record {
          parts = parts_reseated sits.rules.shows.parts seat (join_still k o apart at (λ (u : Seat). u.tape) refl (sym empty.tape)) (join_still k o apart at (λ (u : Seat). u.hand) refl (sym empty.hand)) (join_still k o apart at (λ (u : Seat). u.visit) refl (sym empty.visit));
          words = sits.rules.shows.words;
          threads = record {
            hand_is = λ j. th.hand_is j ∙ sym (join_still k o apart at (λ (u : Seat). hand_of u.hand) refl (sym (ap hand_of empty.hand)) j);
            fills_are = λ j. th.fills_are j ∙ sym (join_still k o apart at (λ (u : Seat). u.fills) refl (sym empty.fills) j);
            news_are = λ j. th.news_are j ∙ sym (join_still k o apart at (λ (u : Seat). u.news) refl (sym empty.news) j);
            clearing_is = λ j. th.clearing_is j ∙ sym (join_still k o apart at (λ (u : Seat). u.clearing) refl (sym empty.clearing) j);
            token_is = join_token k o apart at w.tokens none th.token_is;
          };
        };
        knows = λ j u e. ⊎_elim
            (λ (z : j ≡ 0). subst (λ i. Knows w i u) (sym z) (subst (Knows w 0) (same_seat views 0 a u first (subst (λ i. get_elem? views i ≡ some u) z e)) a_knows))
            (λ (ne : j ≢ 0). behind j u ne e) (place j 0);
        counted = λ u e.
            let same = same_seat views 0 a u first e in
            let c = sits.rules.counted v sits.at in
            let sum = live_set s.views 0 v a sits.at in
            let gone = live_set mid k o no_seat (mid_at k o apart at) in
            let some_live : a.live ≤ total_live views = live_le views 0 a first in
            let total : total_live views ≡ (v.split - 1) + 1 = omega (arith, sum, gone, live, c.0, c.1, some_live) in
            (ap (λ (z : Seat). z.live) (sym same) ∙ c.0, total ∙ ap (λ (z : Seat). z.split + 1) same);
      }
