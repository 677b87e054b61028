-- Which arrivals the messages of tuples show.
use Rattle.std.proofs.Common.{ℕ, zero, suc, ◌+◌, ◌-◌, ◌≡◌, ◌≢◌, ◌⊎◌, ◌≤◌, ◌<◌, Bool, true, false, refl, sym, ◌∙◌, ap, subst, inl, inr, arith, List, [], ◌∷◌, ◌++◌, length, take, Some, None, Option, slice_get, ◌==◌, if◌then◌else◌, option_map, option_and_then, option_to_list, length-append}
use Rattle.std.proofs.lemmas.Bool.Decides.{nat_tests, eqb_tells}
use Rattle.cy_msg.specs.declared.token.Token.{Token}
use Rattle.cy_msg.specs.declared.token.Tuple.{Tuple}
use Rattle.cy_msg.specs.Tuple.{messages_of}
use Rattle.cy_msg.proofs.Lists.{there}
use Rattle.cy_fuse.specs.Fusion.{Arrival, later_or, latest, latest_of, joined, added, fused_after, fused}

latest_other : (j : ℕ) (before : List Arrival) (x : Arrival) → (x.0 == j) ≡ false → latest j (before ++ x ∷ []) ≡ latest j before
latest_other j [] x e = ap (λ (b : Bool). later_or None (if b then Some x.1 else None)) e
latest_other j (y ∷ before) x e = ap (λ (o : Option Token). later_or o (if y.0 == j then Some y.1 else None)) (latest_other j before x e)

latest_own : (j : ℕ) (before : List Arrival) (x : Arrival) → (x.0 == j) ≡ true → latest j (before ++ x ∷ []) ≡ Some x.1
latest_own j [] x e = ap (λ (b : Bool). later_or None (if b then Some x.1 else None)) e
latest_own j (y ∷ before) x e = ap (λ (o : Option Token). later_or o (if y.0 == j then Some y.1 else None)) (latest_own j before x e)

latest_of_get : (from count : ℕ) (before : List Arrival) (ts : List Token) → latest_of from count before ≡ Some ts → (i : ℕ) → i < count → latest (from + i) before ≡ slice_get ts i
latest_of_get from zero before ts e i l = absurd (omega (arith, l))
latest_of_get from (suc count) before ts e i l = go (λ us more n l. latest_of_get (suc from) count before us more n l) (latest from before) (latest_of (suc from) count before) refl refl e
  where
    go : ((us : List Token) → latest_of (suc from) count before ≡ Some us → (n : ℕ) → n < count → latest (suc from + n) before ≡ slice_get us n)
        → (o : Option Token) (rest : Option (List Token)) → latest from before ≡ o → latest_of (suc from) count before ≡ rest
        → option_and_then (λ t. option_map (λ ts. t ∷ ts) rest) o ≡ Some ts → latest (from + i) before ≡ slice_get ts i
    go others None rest is more e = cc
    go others (Some t) None is more e = cc
    go others (Some t) (Some us) is more e = let same : t ∷ us ≡ ts = cc in at i l ∙ ap (λ l. slice_get l i) same
      where
        at : (n : ℕ) → n < suc count → latest (from + n) before ≡ slice_get (t ∷ us) n
        at zero l = let none : from + 0 ≡ from = omega arith in ap (λ k. latest k before) none ∙ is
        at (suc n) l = let same : from + suc n ≡ suc from + n = omega arith in ap (λ k. latest k before) same ∙ others us more n (omega (arith, l))

joined_first : (a : Token) (ts : List Token) → slice_get (messages_of (joined a ts)) 0 ≡ Some a
joined_first a [] = refl
joined_first a (b ∷ []) = refl
joined_first a (b ∷ c ∷ []) = refl
joined_first a (b ∷ c ∷ d ∷ rest) = refl

joined_get : (a : Token) (ts : List Token) (i : ℕ) (m : Token) → slice_get ts i ≡ Some m → i < 3 → slice_get (messages_of (joined a ts)) (suc i) ≡ Some m
joined_get a [] i m e l = cc
joined_get a (b ∷ []) i m e l = e
joined_get a (b ∷ c ∷ []) i m e l = e
joined_get a (b ∷ c ∷ d ∷ rest) zero m e l = e
joined_get a (b ∷ c ∷ d ∷ rest) (suc zero) m e l = e
joined_get a (b ∷ c ∷ d ∷ rest) (suc (suc zero)) m e l = e
joined_get a (b ∷ c ∷ d ∷ rest) (suc (suc (suc i))) m e l = absurd (omega (arith, l))

one_tuple : (a b : Tuple) (rest : List Tuple) → slice_get (a ∷ rest) 0 ≡ Some b → b ≡ a
one_tuple a b rest e = cc

-- The first tuple has a message that comes to the first reader.
first_shown : (Q : Type 0) (S : Token → Type 0) (k : ℕ) (before rest : List Arrival) → ((n : ℕ) (b : Arrival) → slice_get rest n ≡ Some b → b.0 ≡ 0 → S b.1 → Q)
    → (tuple : Tuple) → slice_get (fused_after k before rest) 0 ≡ Some tuple → ((i : ℕ) (m : Token) → slice_get (messages_of tuple) i ≡ Some m → S m) → Q
first_shown Q S k before [] good tuple e all = cc
first_shown Q S k before (x ∷ rest) good tuple e all =
    by (first_shown Q S k (before ++ x ∷ []) rest (λ n b at. good (suc n) b at) tuple) (eqb_tells x.0 0) (latest_of 1 (k - 1) before) refl
  where
    by : (slice_get (fused_after k (before ++ x ∷ []) rest) 0 ≡ Some tuple → ((i : ℕ) (m : Token) → slice_get (messages_of tuple) i ≡ Some m → S m) → Q)
        → ((x.0 == 0 ≡ true) × (x.0 ≡ 0)) ⊎ ((x.0 == 0 ≡ false) × (x.0 ≢ 0)) → (o : Option (List Token)) → latest_of 1 (k - 1) before ≡ o → Q
    by later (inl h) None is =
        later (sym (ap (λ (o : Option (List Token)). slice_get ((if x.0 == 0 then option_to_list (option_map (joined x.1) o) else []) ++ fused_after k (before ++ x ∷ []) rest) 0) is ∙ ap (λ (b : Bool). slice_get ((if b then [] else []) ++ fused_after k (before ++ x ∷ []) rest) 0) h.0) ∙ e) all
    by later (inl h) (Some ts) is =
        let same : tuple ≡ joined x.1 ts = one_tuple (joined x.1 ts) tuple (fused_after k (before ++ x ∷ []) rest) (sym (ap (λ (o : Option (List Token)). slice_get ((if x.0 == 0 then option_to_list (option_map (joined x.1) o) else []) ++ fused_after k (before ++ x ∷ []) rest) 0) is ∙ ap (λ (b : Bool). slice_get ((if b then joined x.1 ts ∷ [] else []) ++ fused_after k (before ++ x ∷ []) rest) 0) h.0) ∙ e) in
        good 0 x refl h.1 (all 0 x.1 (ap (λ t. slice_get (messages_of t) 0) same ∙ joined_first x.1 ts))
    by later (inr h) o is =
        later (sym (ap (λ (b : Bool). slice_get ((if b then option_to_list (option_map (joined x.1) (latest_of 1 (k - 1) before)) else []) ++ fused_after k (before ++ x ∷ []) rest) 0) h.0) ∙ e) all

-- .. and one that comes to another reader, or came last to it.
other_shown : (Q : Type 0) (S : Token → Type 0) (k j : ℕ) → suc j < k → k ≤ 4 → (before rest : List Arrival) → ((n : ℕ) (b : Arrival) → slice_get rest n ≡ Some b → b.0 ≡ suc j → S b.1 → Q)
    → (t : Token) → latest (suc j) before ≡ Some t → (S t → Q)
    → (tuple : Tuple) → slice_get (fused_after k before rest) 0 ≡ Some tuple → ((i : ℕ) (m : Token) → slice_get (messages_of tuple) i ≡ Some m → S m) → Q
other_shown Q S k j l few before [] good t last ends tuple e all = cc
other_shown Q S k j l few before (x ∷ rest) good t last ends tuple e all =
    by (λ u last' ends'. other_shown Q S k j l few (before ++ x ∷ []) rest (λ n b at. good (suc n) b at) u last' ends' tuple) (eqb_tells x.0 0) (latest_of 1 (k - 1) before) refl
  where
    by : ((u : Token) → latest (suc j) (before ++ x ∷ []) ≡ Some u → (S u → Q) → slice_get (fused_after k (before ++ x ∷ []) rest) 0 ≡ Some tuple → ((i : ℕ) (m : Token) → slice_get (messages_of tuple) i ≡ Some m → S m) → Q)
        → ((x.0 == 0 ≡ true) × (x.0 ≡ 0)) ⊎ ((x.0 == 0 ≡ false) × (x.0 ≢ 0)) → (o : Option (List Token)) → latest_of 1 (k - 1) before ≡ o → Q
    by later (inl h) None is =
        let other : (x.0 == suc j) ≡ false = let z = h.1 in grind (arith, nat_tests, z) in
        later t (latest_other (suc j) before x other ∙ last) ends
        (sym (ap (λ (o : Option (List Token)). slice_get ((if x.0 == 0 then option_to_list (option_map (joined x.1) o) else []) ++ fused_after k (before ++ x ∷ []) rest) 0) is ∙ ap (λ (b : Bool). slice_get ((if b then [] else []) ++ fused_after k (before ++ x ∷ []) rest) 0) h.0) ∙ e) all
    by later (inl h) (Some ts) is =
        let same : tuple ≡ joined x.1 ts = one_tuple (joined x.1 ts) tuple (fused_after k (before ++ x ∷ []) rest) (sym (ap (λ (o : Option (List Token)). slice_get ((if x.0 == 0 then option_to_list (option_map (joined x.1) o) else []) ++ fused_after k (before ++ x ∷ []) rest) 0) is ∙ ap (λ (b : Bool). slice_get ((if b then joined x.1 ts ∷ [] else []) ++ fused_after k (before ++ x ∷ []) rest) 0) h.0) ∙ e) in
        let place : 1 + j ≡ suc j = omega arith in
        let at : slice_get ts j ≡ Some t = sym (latest_of_get 1 (k - 1) before ts is j (omega (arith, l))) ∙ ap (λ i. latest i before) place ∙ last in
        ends (all (suc j) t (ap (λ u. slice_get (messages_of u) (suc j)) same ∙ joined_get x.1 ts j t at (omega (arith, l, few))))
    by later (inr h) o is = elim (eqb_tells x.0 (suc j)) [
      | inl g ↦ later x.1 (latest_own (suc j) before x g.0) (good 0 x refl g.1) none all
      | inr g ↦ later t (latest_other (suc j) before x g.0 ∙ last) ends none all
    ]
      where
        none : slice_get (fused_after k (before ++ x ∷ []) rest) 0 ≡ Some tuple
        none = sym (ap (λ (b : Bool). slice_get ((if b then option_to_list (option_map (joined x.1) (latest_of 1 (k - 1) before)) else []) ++ fused_after k (before ++ x ∷ []) rest) 0) h.0) ∙ e

get_behind : {X : Type 0} (xs ys : List X) (i : ℕ) → slice_get (xs ++ ys) (length xs + i) ≡ slice_get ys i
get_behind [] ys i = let same : 0 + i ≡ i = omega arith in ap (slice_get ys) same
get_behind (x ∷ xs) ys i = let same : suc (length xs) + i ≡ suc (length xs + i) = omega arith in ap (slice_get (x ∷ xs ++ ys)) same ∙ get_behind xs ys i

-- What holds of the messages of the first so many tuples, and of each that came before one of its reader of which it holds, holds of all that came before they were fused.
came_before : (S : Token → Type 0) (k : ℕ) → k ≤ 4 → (before rest : List Arrival)
    → ((n q : ℕ) (a b : Arrival) → slice_get rest n ≡ Some a → slice_get rest q ≡ Some b → n ≤ q → b.0 ≡ a.0 → S b.1 → S a.1)
    → ((n : ℕ) (a : Arrival) → slice_get rest n ≡ Some a → a.0 < k)
    → (tail : ℕ) → tail ≤ length (fused_after k before rest)
    → ((i : ℕ) (tuple : Tuple) → i < tail → slice_get (fused_after k before rest) i ≡ Some tuple → (j : ℕ) (m : Token) → slice_get (messages_of tuple) j ≡ Some m → S m)
    → (n : ℕ) (a : Arrival) → slice_get rest n ≡ Some a → length (fused_after k before (take n rest)) < tail → S a.1
came_before S k few before [] order known tail reached all n a e l = cc
came_before S k few before (b ∷ rest) order known tail reached all zero a e l =
    let same : b ≡ a = cc in
    let first = there (fused_after k before (b ∷ rest)) 0 (omega (arith, l, reached)) in
    subst (λ (c : Arrival). S c.1) same (by first.0 first.1 (all 0 first.0 (omega (arith, l)) first.1) b.0 refl)
  where
    by : (tuple : Tuple) → slice_get (fused_after k before (b ∷ rest)) 0 ≡ Some tuple → ((i : ℕ) (m : Token) → slice_get (messages_of tuple) i ≡ Some m → S m) → (j : ℕ) → b.0 ≡ j → S b.1
    by tuple at these zero is = first_shown (S b.1) S k before (b ∷ rest) (λ n c there' its s. order 0 n b c refl there' (omega arith) (its ∙ sym is) s) tuple at these
    by tuple at these (suc j) is =
        let known' = known 0 b refl in
        let none : (b.0 == 0) ≡ false = grind (arith, nat_tests, is) in
        let own : (b.0 == suc j) ≡ true = grind (arith, nat_tests, is) in
        other_shown (S b.1) S k j (omega (arith, known', is)) few (before ++ b ∷ []) rest (λ n c there' its s. order 0 (suc n) b c refl there' (omega arith) (its ∙ sym is) s) b.1 (latest_own (suc j) before b own) (λ s. s) tuple
        (sym (ap (λ (c : Bool). slice_get ((if c then option_to_list (option_map (joined b.1) (latest_of 1 (k - 1) before)) else []) ++ fused_after k (before ++ b ∷ []) rest) 0) none) ∙ at) these
came_before S k few before (b ∷ rest) order known tail reached all (suc n) a e l =
    let whole : length (fused_after k before (b ∷ rest)) ≡ length (added k before b) + length (fused_after k (before ++ b ∷ []) rest) = length-append (added k before b) (fused_after k (before ++ b ∷ []) rest) in
    let part : length (fused_after k before (b ∷ take n rest)) ≡ length (added k before b) + length (fused_after k (before ++ b ∷ []) (take n rest)) = length-append (added k before b) (fused_after k (before ++ b ∷ []) (take n rest)) in
    came_before S k few (before ++ b ∷ []) rest (λ i q c d at at' less. order (suc i) (suc q) c d at at' (omega (arith, less))) (λ i c at. known (suc i) c at) (tail - length (added k before b)) (omega (arith, reached, whole))
    (λ i tuple less at. all (length (added k before b) + i) tuple (omega (arith, less)) (get_behind (added k before b) (fused_after k (before ++ b ∷ []) rest) i ∙ at))
    n a e (omega (arith, l, part))

-- .. from the beginning.
pub came_first : (S : Token → Type 0) (k : ℕ) → k ≤ 4 → (arrivals : List Arrival)
    → ((n q : ℕ) (a b : Arrival) → slice_get arrivals n ≡ Some a → slice_get arrivals q ≡ Some b → n ≤ q → b.0 ≡ a.0 → S b.1 → S a.1)
    → ((n : ℕ) (a : Arrival) → slice_get arrivals n ≡ Some a → a.0 < k)
    → (tail : ℕ) → tail ≤ length (fused arrivals k)
    → ((i : ℕ) (tuple : Tuple) → i < tail → slice_get (fused arrivals k) i ≡ Some tuple → (j : ℕ) (m : Token) → slice_get (messages_of tuple) j ≡ Some m → S m)
    → (n : ℕ) (a : Arrival) → slice_get arrivals n ≡ Some a → length (fused (take n arrivals) k) < tail → S a.1
unfolding fused
came_first S k few arrivals order known tail reached all n a e l = came_before S k few [] arrivals order known tail reached all n a e l

-- One arrival more adds one tuple at most.
pub added_few : (k : ℕ) (before : List Arrival) (a : Arrival) → length (added k before a) ≤ 1
added_few k before a = by (a.0 == 0) (latest_of 1 (k - 1) before)
  where
    by : (b : Bool) (o : Option (List Token)) → length (if b then option_to_list (option_map (joined a.1) o) else []) ≤ 1
    by true None = omega arith
    by true (Some ts) = omega arith
    by false o = omega arith
