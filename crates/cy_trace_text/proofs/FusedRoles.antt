-- A tuple has at each place a message that arrived in that role.
use Rattle.std.proofs.Common.{ℕ, zero, suc, ◌≡◌, ◌+◌, ◌-◌, ◌==◌, inl, inr, Bool, true, false, cond, List, [], ◌∷◌, ◌++◌, map, slice_get, Option, Some, None, option_map, refl, ap, subst, ◌∙◌, arith}
use Rattle.std.specs.Prelude.{option_and_then, option_to_list, filter}
use Rattle.std.proofs.lemmas.Bool.{eqb-true, eq-eqb}
use Rattle.std.proofs.lemmas.Option.{same_Some, none-some}
use Rattle.cy_msg.specs.Tuple.{messages_of}
use Rattle.cy_msg.specs.declared.token.Token.{Token}
use Rattle.cy_msg.specs.declared.token.Tuple.{Tuple}
use Rattle.cy_fuse.specs.Fusion.{Arrival, added, fused, fused_after, joined, later_or, latest, latest_of}
use Rattle.wake_core.specs.Plain.{of_role}
use Rattle.cy_trace_text.proofs.Places.{in_parts}

-- What a role and a message have, each arrival has.
abbrev pub Each : (ℕ → Token → Type 0) → List Arrival → Type 0
Each P arrivals = (n : ℕ) (a : Arrival) → slice_get arrivals n ≡ Some a → P a.0 a.1

-- .. and each message of a tuple, at the place of its role.
abbrev pub EachOf : (ℕ → Token → Type 0) → Tuple → Type 0
EachOf P tuple = (j : ℕ) (m : Token) → slice_get (messages_of tuple) j ≡ Some m → P j m

each-append : (P : ℕ → Token → Type 0) (before : List Arrival) (a : Arrival) → Each P before → P a.0 a.1 → Each P (before ++ a ∷ [])
each-append P [] a each last zero b at = subst (λ (c : Arrival). P c.0 c.1) (same_Some a b at) last
each-append P [] a each last (suc n) b at = absurd (none-some b at)
each-append P (x ∷ before) a each last zero b at = each zero b at
each-append P (x ∷ before) a each last (suc n) b at = each-append P before a (λ n. each (suc n)) last n b at

latest_each : (P : ℕ → Token → Type 0) (role : ℕ) (arrivals : List Arrival) → Each P arrivals → (m : Token) → latest role arrivals ≡ Some m → P role m
latest_each P role [] each m is = absurd (none-some m is)
latest_each P role (a ∷ rest) each m is = by (latest role rest) (latest_each P role rest (λ n. each (suc n))) is
  where
    own : (b : Bool) → (a.0 == role) ≡ b → cond b (Some a.1) None ≡ Some m → P role m
    own true e h = let same : a.1 ≡ m = same_Some a.1 m h in subst (P role) same (subst (λ j. P j a.1) (eqb-true a.0 role e) (each 0 a refl))
    own false e h = absurd (none-some m h)

    by : (o : Option Token) → ((n : Token) → o ≡ Some n → P role n) → later_or o (cond (a.0 == role) (Some a.1) None) ≡ Some m → P role m
    by None later h = own (a.0 == role) refl h
    by (Some n) later h = later m h

latest_of_each : (P : ℕ → Token → Type 0) (from count : ℕ) (before : List Arrival) → Each P before → (ts : List Token) → latest_of from count before ≡ Some ts → (j : ℕ) (m : Token) → slice_get ts j ≡ Some m → P (from + j) m
latest_of_each P from zero before each ts is j m at = absurd (none-some m (ap (λ (l : List Token). slice_get l j) (same_Some [] ts is) ∙ at))
latest_of_each P from (suc count) before each ts is j m at = by (latest from before) (latest_each P from before each) (latest_of (suc from) count before) (latest_of_each P (suc from) count before each) is
  where
    here : (t : Token) (us : List Token) → P from t → ((k : ℕ) (n : Token) → slice_get us k ≡ Some n → P (suc from + k) n) → (j : ℕ) → slice_get (t ∷ us) j ≡ Some m → P (from + j) m
    here t us first rest zero h = let same : t ≡ m = same_Some t m h in let place : from ≡ from + 0 = omega arith in subst (λ j. P j m) place (subst (P from) same first)
    here t us first rest (suc k) h = let place : suc from + k ≡ from + suc k = omega arith in subst (λ j. P j m) place (rest k m h)

    by : (o : Option Token) → ((n : Token) → o ≡ Some n → P from n) → (r : Option (List Token)) → ((us : List Token) → r ≡ Some us → (k : ℕ) (n : Token) → slice_get us k ≡ Some n → P (suc from + k) n)
        → option_and_then (λ (t : Token). option_map (λ us. t ∷ us) r) o ≡ Some ts → P (from + j) m
    by None first r rest h = absurd (none-some ts h)
    by (Some t) first None rest h = absurd (none-some ts h)
    by (Some t) first (Some us) rest h = here t us (first t refl) (rest us refl) j (ap (λ (l : List Token). slice_get l j) (same_Some (t ∷ us) ts h) ∙ at)

joined_each : (P : ℕ → Token → Type 0) (a : Token) (ts : List Token) → P 0 a → ((k : ℕ) (m : Token) → slice_get ts k ≡ Some m → P (1 + k) m) → EachOf P (joined a ts)
joined_each P a [] first rest zero m at = subst (P 0) (same_Some a m at) first
joined_each P a [] first rest (suc j) m at = absurd (none-some m at)
joined_each P a (b ∷ []) first rest zero m at = subst (P 0) (same_Some a m at) first
joined_each P a (b ∷ []) first rest (suc j) m at = let place : 1 + j ≡ suc j = omega arith in subst (λ k. P k m) place (rest j m at)
joined_each P a (b ∷ c ∷ []) first rest zero m at = subst (P 0) (same_Some a m at) first
joined_each P a (b ∷ c ∷ []) first rest (suc j) m at = let place : 1 + j ≡ suc j = omega arith in subst (λ k. P k m) place (rest j m at)
joined_each P a (b ∷ c ∷ d ∷ more) first rest zero m at = subst (P 0) (same_Some a m at) first
joined_each P a (b ∷ c ∷ d ∷ more) first rest (suc zero) m at = let place : 1 + 0 ≡ 1 = refl in rest 0 m at
joined_each P a (b ∷ c ∷ d ∷ more) first rest (suc (suc zero)) m at = rest 1 m at
joined_each P a (b ∷ c ∷ d ∷ more) first rest (suc (suc (suc zero))) m at = rest 2 m at
joined_each P a (b ∷ c ∷ d ∷ more) first rest (suc (suc (suc (suc j)))) m at = absurd (none-some m at)

added_each : (P : ℕ → Token → Type 0) (readers : ℕ) (before : List Arrival) (a : Arrival) → Each P before → P a.0 a.1 → (n : ℕ) (tuple : Tuple) → slice_get (added readers before a) n ≡ Some tuple → EachOf P tuple
added_each P readers before a each last n tuple at = by (a.0 == 0) refl at
  where
    made : P 0 a.1 → (o : Option (List Token)) → ((ts : List Token) → o ≡ Some ts → (k : ℕ) (m : Token) → slice_get ts k ≡ Some m → P (1 + k) m)
        → (n : ℕ) → slice_get (option_to_list (option_map (joined a.1) o)) n ≡ Some tuple → EachOf P tuple
    made first None rest n h = absurd (none-some tuple h)
    made first (Some ts) rest zero h = subst (EachOf P) (same_Some (joined a.1 ts) tuple h) (joined_each P a.1 ts first (rest ts refl))
    made first (Some ts) rest (suc n) h = absurd (none-some tuple h)

    by : (b : Bool) → (a.0 == 0) ≡ b → slice_get (cond b (option_to_list (option_map (joined a.1) (latest_of 1 (readers - 1) before))) []) n ≡ Some tuple → EachOf P tuple
    by true e h = made (subst (λ j. P j a.1) (eqb-true a.0 0 e) last) (latest_of 1 (readers - 1) before) (latest_of_each P 1 (readers - 1) before each) n h
    by false e h = absurd (none-some tuple h)

fused_after_each : (P : ℕ → Token → Type 0) (readers : ℕ) (before rest : List Arrival) → Each P before → Each P rest → (n : ℕ) (tuple : Tuple) → slice_get (fused_after readers before rest) n ≡ Some tuple → EachOf P tuple
fused_after_each P readers before [] each more n tuple at = absurd (none-some tuple at)
fused_after_each P readers before (a ∷ rest) each more n tuple at =
    elim (in_parts (added readers before a) (fused_after readers (before ++ a ∷ []) rest) n tuple at) [
      | inl h ↦ added_each P readers before a each (more 0 a refl) n tuple h
      | inr h ↦ fused_after_each P readers (before ++ a ∷ []) rest (each-append P before a each (more 0 a refl)) (λ n. more (suc n)) h.0 tuple h.1
    ]

-- What each arrival has with its role, each message of a tuple has with its place.
pub fused_each : (P : ℕ → Token → Type 0) (readers : ℕ) (arrivals : List Arrival) → Each P arrivals → (n : ℕ) (tuple : Tuple) → slice_get (fused arrivals readers) n ≡ Some tuple → EachOf P tuple
unfolding fused
fused_each P readers arrivals each n tuple at = fused_after_each P readers [] arrivals (λ n a e. absurd (none-some a e)) each n tuple at

-- What arrived in a role is among what arrived in it.
pub in_role : (arrivals : List Arrival) (n : ℕ) (a : Arrival) → slice_get arrivals n ≡ Some a → (k : ℕ) × (slice_get (of_role a.0 arrivals) k ≡ Some a.1)
in_role [] n a at = absurd (none-some a at)
in_role (b ∷ rest) zero a at =
    let same : b ≡ a = same_Some b a at in
    let is : (b.0 == a.0) ≡ true = eq-eqb b.0 a.0 (ap (λ (c : Arrival). c.0) same) in
    (0, ap (λ t. slice_get (map (λ (c : Arrival). c.1) (cond t (b ∷ filter (λ (c : Arrival). c.0 == a.0) rest) (filter (λ (c : Arrival). c.0 == a.0) rest))) 0) is ∙ ap (λ (c : Arrival). Some c.1) same)
in_role (b ∷ rest) (suc n) a at = by (b.0 == a.0) (in_role rest n a at)
  where
    by : (t : Bool) → (k : ℕ) × (slice_get (of_role a.0 rest) k ≡ Some a.1) → (k : ℕ) × (slice_get (map (λ (c : Arrival). c.1) (cond t (b ∷ filter (λ (c : Arrival). c.0 == a.0) rest) (filter (λ (c : Arrival). c.0 == a.0) rest))) k ≡ Some a.1)
    by true h = (suc h.0, h.1)
    by false h = h
