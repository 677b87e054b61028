-- What the seats know after a step, and the rule after it.
use Rattle.std.proofs.Common.{ℕ, zero, suc, ◌+◌, ◌≡◌, ◌≢◌, ◌≤◌, Bool, true, refl, sym, ◌∙◌, ap, ap₂, subst, ⊎_elim, List, [], ◌∷◌, length, take, set, length-set, arith}
use Rattle.std.proofs.Math.Seq.{take-length}
use mathlib.Core.Option.{some, some-ne-none, some-injective}
use lib.ListN.{get_elem?}
use Rattle.atomic_table.specs.Table.{State as Table, Act, stepped}
use Rattle.atomic_table.proofs.Lists.{at_set}
use Rattle.cy_msg.specs.declared.token.Token.{Token}
use Rattle.cy_comp.specs.declared.call.Call.{Call}
use Rattle.wake_core.specs.declared.route.Route.{Route}
use Rattle.wake_core.specs.Run.{played_of}
use Rattle.wake_core.specs.Plain.{Plain}
use Rattle.wake_core.specs.Sound.{Sound}
use Rattle.wake_core.specs.Fields.{IsFixed}
use Rattle.cy_table.specs.declared.part.Part.{Part}
use Rattle.cy_table.specs.Seats.{Seat, Seen}
use Rattle.cy_table.specs.Layout.{words_for, slots_for}
use Rattle.cy_table.specs.Seats.{AreSeen, total_live}
use Rattle.cy_table.specs.Shown.{Rooms, AreRoomy, spread}
use Rattle.cy_table.specs.Rule.{Knows, Rules, Shows}
use Rattle.cy_table.specs.Steps.{Sits}

-- What an event of a thread lets the others know.
pub record Grows (routes : List Route) (tape tape' : List Token) (clock clock' : ℕ) (calls calls' : ℕ → List Call) (closing closing' raised raised' : Bool) (id : ℕ) : Type 0 where
  pub rises : clock ≤ clock'
  pub begins : (c : ℕ) → take (length (calls c)) (calls' c) ≡ calls c
  pub closes : closing ≡ true → closing' ≡ true
  pub player : id ≢ 0 → (played_of routes tape' ≡ played_of routes tape) × (clock' ≡ clock) × (closing' ≡ closing) × (raised' ≡ raised)

pub nothing_grows : (routes : List Route) (tape : List Token) (clock : ℕ) (calls : ℕ → List Call) (closing raised : Bool) (id : ℕ) → Grows routes tape tape clock clock calls calls closing closing raised raised id
nothing_grows routes tape clock calls closing raised id = record {
  rises = omega arith;
  begins = λ c. take-length (calls c);
  closes = λ e. e;
  player = λ ne. (refl, refl, refl, refl);
}

begins_then : {X : Type 0} (xs ys zs : List X) → take (length xs) ys ≡ xs → take (length ys) zs ≡ ys → take (length xs) zs ≡ xs
begins_then [] ys zs a b = refl
begins_then (x ∷ xs) [] zs a b = cc
begins_then (x ∷ xs) (y ∷ ys) [] a b = cc
begins_then (x ∷ xs) (y ∷ ys) (z ∷ zs) a b =
    let first : y ≡ x = cc in
    let second : z ≡ y = cc in
    let rest : take (length xs) ys ≡ xs = cc in
    let later : take (length ys) zs ≡ ys = cc in
    ap₂ (λ h l. h ∷ l) (second ∙ first) (begins_then xs ys zs rest later)

pub seen_grows : (calls calls' : ℕ → List Call) (xs : List Seen) → ((c : ℕ) → take (length (calls c)) (calls' c) ≡ calls c) → AreSeen calls xs → AreSeen calls' xs
seen_grows calls calls' [] grow all = tt
seen_grows calls calls' (x ∷ xs) grow all = (begins_then x.calls (calls x.component) (calls' x.component) all.0 (grow x.component), seen_grows calls calls' xs grow all.1)

pub live_set : (l : List Seat) (j : ℕ) (v u : Seat) → get_elem? l j ≡ some v → total_live (set l j u) + v.live ≡ total_live l + u.live
live_set [] j v u e = absurd (some-ne-none v (sym e))
live_set (x ∷ xs) zero v u e = omega (arith, ap (λ (z : Seat). z.live) (some-injective x v e))
live_set (x ∷ xs) (suc j) v u e = omega (arith, live_set xs j v u e)

-- The rule after a step of a seat.
module _ (r : Rooms) (w : Plain) (s : Table Part Seat) (id : ℕ) (v : Seat) (sits : Sits r w s id v) (w' : Plain) (routes : w'.routes ≡ w.routes) (counts : w'.counts ≡ w.counts) (stop : w'.stop ≡ w.stop)
    (grows : Grows w.routes w.tape w'.tape w.clock w'.clock w.calls w'.calls w.closing w'.closing w.raised w'.raised id) (v' : Seat) where
  -- Another seat knows what it knew.
  other_knows : (j : ℕ) (u : Seat) → j ≢ id → Knows w j u → Knows w' j u
  other_knows j u apart k = record {
    made = λ on. ((k.made on).0 ∙ sym routes, (k.made on).1 ∙ sym counts, (k.made on).2 ∙ sym stop);
    joined = k.joined;
    calls = seen_grows w.calls w'.calls u.seen grows.begins k.calls;
    past = omega (arith, k.past, grows.rises);
    closes = λ e. grows.closes (k.closes e);
    player = λ first. let a = k.player first in let b = grows.player (λ h. apart (first ∙ sym h)) in
        (a.0 ∙ (sym b.0 ∙ ap (λ (l : List Route). played_of l w'.tape) (sym routes)), a.1 ∙ sym b.1, a.2 ∙ sym b.2, a.3 ∙ sym b.3);
  }

  all_know : Knows w' id v' → (j : ℕ) (u : Seat) → get_elem? (set s.views id v') j ≡ some u → Knows w' j u
  all_know mine j u e = ⊎_elim
      (λ (z : (j ≡ id) × (v' ≡ u)). subst (Knows w' j) z.1 (subst (λ m. Knows w' m v') (sym z.0) mine))
      (λ (z : (j ≢ id) × (get_elem? s.views j ≡ some u)). other_knows j u z.0 (sits.rules.knows j u z.1))
      (at_set s.views id j v' u e)

  still_counted : v'.live ≡ v.live → v'.split ≡ v.split → (u : Seat) → get_elem? (set s.views id v') 0 ≡ some u → (u.live ≡ 1) × (total_live (set s.views id v') ≡ u.split + 1)
  still_counted live split u e =
      let sum = live_set s.views id v v' sits.at in
      let total : total_live (set s.views id v') ≡ total_live s.views = omega (arith, sum, live) in
      ⊎_elim
      (λ (z : (0 ≡ id) × (v' ≡ u)). let k = sits.rules.counted v (subst (λ m. get_elem? s.views m ≡ some v) (sym z.0) sits.at) in
      (ap (λ (y : Seat). y.live) (sym z.1) ∙ (live ∙ k.0), total ∙ (k.1 ∙ ap (λ m. m + 1) (sym split ∙ ap (λ (y : Seat). y.split) z.1))))
      (λ (z : (0 ≢ id) × (get_elem? s.views 0 ≡ some u)). let k = sits.rules.counted u z.1 in (k.0, total ∙ k.1))
      (at_set s.views id 0 v' u e)

  pub rules_after : (i n : ℕ) (out : List (ℕ × Part)) (act : Act Part) → Sound w' → Shows r w' (spread (stepped s i n id out v' act)) → length (stepped s i n id out v' act).homes ≡ length s.homes
      → v'.live ≡ v.live → v'.split ≡ v.split → Knows w' id v' → Rules r w' (stepped s i n id out v' act)
  rules_after i n out act sound shows deep live split mine = record {
    wide = length-set s.words i n ∙ (sits.rules.wide ∙ ap (λ (l : List Route). words_for (length l)) (sym routes));
    deep = deep ∙ (sits.rules.deep ∙ ap (λ (l : List Route). slots_for (length l)) (sym routes));
    sound = sound;
    fixed = subst (λ (l : List Route × List ℕ). IsFixed l.0 l.1) (λ k. (sym routes k, sym counts k)) sits.rules.fixed;
    roomy = subst (λ (l : List Route × List ℕ). AreRoomy l.0 l.1 r) (λ k. (sym routes k, sym counts k)) sits.rules.roomy;
    shows = shows;
    knows = all_know mine;
    counted = still_counted live split;
  }
