-- What stands on the tape: every message that arrived, and so every message of a tuple that was fused.
use Rattle.std.proofs.Common.{ℕ, zero, suc, ◌-◌, ◌≡◌, ◌⊎◌, Bool, true, false, refl, sym, ◌∙◌, ap, subst, inl, inr, arith, List, [], ◌∷◌, ◌++◌, length, take, drop, Some, None, Option, slice_get, ◌==◌, map, filter, cond, if◌then◌else◌, option_map, option_and_then, option_to_list}
use Rattle.std.proofs.lemmas.Bool.Decides.{nat_tests, eqb_tells}
use Rattle.std.proofs.lemmas.List.{take-append-drop}
use Rattle.cy_msg.specs.declared.token.Token.{Token}
use Rattle.cy_msg.specs.declared.token.Tuple.{Tuple}
use Rattle.cy_msg.specs.Tuple.{messages_of}
use Rattle.cy_msg.specs.Tokens.{on_channel, IsNumbered}
use Rattle.cy_msg.proofs.Lists.{get_append, get_snoc}
use Rattle.cy_comp.specs.declared.call.Call.{Call}
use Rattle.cy_fuse.specs.Fusion.{Arrival, later_or, latest, latest_of, joined, added, fused_after, fused}
use Rattle.wake_core.specs.Run.{Route}
use Rattle.wake_core.specs.Plain.{Hand, reads, of_role}
use Rattle.wake_core.specs.Sound.{Delivered, StandsOn}

each_more : {X : Type 0} (P : X → Type 0) (xs : List X) (x : X) → ((n : ℕ) (y : X) → slice_get xs n ≡ Some y → P y) → P x → (n : ℕ) (y : X) → slice_get (xs ++ x ∷ []) n ≡ Some y → P y
each_more P xs x all here n y e = elim (get_snoc xs x n y e) [ inl h ↦ all n y h | inr h ↦ subst P h.1 here ]

-- The latest message of a role arrived.
latest_arrived : (P : Token → Type 0) (role : ℕ) (arrivals : List Arrival) → ((n : ℕ) (a : Arrival) → slice_get arrivals n ≡ Some a → P a.1)
    → (m : Token) → latest role arrivals ≡ Some m → P m
latest_arrived P role [] all m e = cc
latest_arrived P role (a ∷ rest) all m e = go (λ is. latest_arrived P role rest (λ n b at. all (suc n) b at) m is) (latest role rest) refl e
  where
    here : (b : Bool) → (if b then Some a.1 else None) ≡ Some m → P m
    here true e = let same : a.1 ≡ m = cc in subst P same (all 0 a refl)
    here false e = cc

    go : (latest role rest ≡ Some m → P m) → (o : Option Token) → latest role rest ≡ o → later_or o (if a.0 == role then Some a.1 else None) ≡ Some m → P m
    go earlier None is e = here (a.0 == role) e
    go earlier (Some x) is e = earlier (is ∙ e)

latest_of_arrived : (P : Token → Type 0) (from count : ℕ) (arrivals : List Arrival) → ((n : ℕ) (a : Arrival) → slice_get arrivals n ≡ Some a → P a.1)
    → (ts : List Token) → latest_of from count arrivals ≡ Some ts → (j : ℕ) (m : Token) → slice_get ts j ≡ Some m → P m
latest_of_arrived P from zero arrivals all ts e j m at = let none : ts ≡ [] = cc in absurd (nothing j m (rw none at at))
  where
    nothing : (j : ℕ) (m : Token) → slice_get [] j ≡ Some m → ⊥
    nothing j m e = cc
latest_of_arrived P from (suc count) arrivals all ts e j m at =
    go (λ us more i at. latest_of_arrived P (suc from) count arrivals all us more i m at) (latest from arrivals) (latest_of (suc from) count arrivals) refl refl e
  where
    go : ((us : List Token) → latest_of (suc from) count arrivals ≡ Some us → (i : ℕ) → slice_get us i ≡ Some m → P m) → (o : Option Token) (rest : Option (List Token)) → latest from arrivals ≡ o → latest_of (suc from) count arrivals ≡ rest
        → option_and_then (λ t. option_map (λ ts. t ∷ ts) rest) o ≡ Some ts → P m
    go others None rest is more e = cc
    go others (Some t) None is more e = cc
    go others (Some t) (Some us) is more e = let same : ts ≡ t ∷ us = cc in at_cons j (rw same at at)
      where
        at_cons : (j : ℕ) → slice_get (t ∷ us) j ≡ Some m → P m
        at_cons zero at = let here : t ≡ m = cc in subst P here (latest_arrived P from arrivals all t is)
        at_cons (suc j) at = others us more j at

joined_of : (P : Token → Type 0) (a : Token) (ts : List Token) → P a → ((j : ℕ) (m : Token) → slice_get ts j ≡ Some m → P m)
    → (j : ℕ) (m : Token) → slice_get (messages_of (joined a ts)) j ≡ Some m → P m
joined_of P a [] here all zero m e = let same : a ≡ m = cc in subst P same here
joined_of P a [] here all (suc j) m e = cc
joined_of P a (b ∷ []) here all zero m e = let same : a ≡ m = cc in subst P same here
joined_of P a (b ∷ []) here all (suc j) m e = all j m e
joined_of P a (b ∷ c ∷ []) here all zero m e = let same : a ≡ m = cc in subst P same here
joined_of P a (b ∷ c ∷ []) here all (suc j) m e = all j m e
joined_of P a (b ∷ c ∷ d ∷ rest) here all zero m e = let same : a ≡ m = cc in subst P same here
joined_of P a (b ∷ c ∷ d ∷ rest) here all (suc j) m e = all j m (get_append (b ∷ c ∷ d ∷ []) rest j m e)

added_arrived : (P : Token → Type 0) (k : ℕ) (before : List Arrival) (a : Arrival) → ((n : ℕ) (b : Arrival) → slice_get before n ≡ Some b → P b.1) → P a.1
    → (n : ℕ) (tuple : Tuple) → slice_get (added k before a) n ≡ Some tuple → (j : ℕ) (m : Token) → slice_get (messages_of tuple) j ≡ Some m → P m
added_arrived P k before a all here n tuple e j m at = go (a.0 == 0) (latest_of 1 (k - 1) before) refl e
  where
    go : (b : Bool) (o : Option (List Token)) → latest_of 1 (k - 1) before ≡ o
        → slice_get (if b then option_to_list (option_map (joined a.1) o) else []) n ≡ Some tuple → P m
    go false o is e = cc
    go true None is e = cc
    go true (Some ts) is e = only n e
      where
        only : (n : ℕ) → slice_get (joined a.1 ts ∷ []) n ≡ Some tuple → P m
        only zero e =
            let same : joined a.1 ts ≡ tuple = cc in
            joined_of P a.1 ts here (latest_of_arrived P 1 (k - 1) before all ts is) j m (ap (λ x. slice_get (messages_of x) j) same ∙ at)
        only (suc n) e = cc

pub get_parts : {X : Type 0} (xs ys : List X) (n : ℕ) (x : X) → slice_get (xs ++ ys) n ≡ Some x → (slice_get xs n ≡ Some x) ⊎ ((i : ℕ) × (slice_get ys i ≡ Some x))
get_parts [] ys n x e = inr (n, e)
get_parts (y ∷ xs) ys zero x e = inl e
get_parts (y ∷ xs) ys (suc n) x e = get_parts xs ys n x e

fused_after_arrived : (P : Token → Type 0) (k : ℕ) (before rest : List Arrival) → ((n : ℕ) (b : Arrival) → slice_get before n ≡ Some b → P b.1)
    → ((n : ℕ) (b : Arrival) → slice_get rest n ≡ Some b → P b.1)
    → (n : ℕ) (tuple : Tuple) → slice_get (fused_after k before rest) n ≡ Some tuple → (j : ℕ) (m : Token) → slice_get (messages_of tuple) j ≡ Some m → P m
fused_after_arrived P k before [] old new n tuple e j m at = cc
fused_after_arrived P k before (a ∷ rest) old new n tuple e j m at = elim (get_parts (added k before a) (fused_after k (before ++ a ∷ []) rest) n tuple e) [
  | inl h ↦ added_arrived P k before a old (new 0 a refl) n tuple h j m at
  | inr h ↦ fused_after_arrived P k (before ++ a ∷ []) rest (each_more (λ (b : Arrival). P b.1) before a old (new 0 a refl)) (λ i b is. new (suc i) b is) h.0 tuple h.1 j m at
]

-- What holds of every message that arrived holds of every message that was fused.
pub fused_arrived : (P : Token → Type 0) (k : ℕ) (arrivals : List Arrival) → ((n : ℕ) (b : Arrival) → slice_get arrivals n ≡ Some b → P b.1)
    → (n : ℕ) (tuple : Tuple) → slice_get (fused arrivals k) n ≡ Some tuple → (j : ℕ) (m : Token) → slice_get (messages_of tuple) j ≡ Some m → P m
unfolding fused
fused_arrived P k arrivals all n tuple e j m at = fused_after_arrived P k [] arrivals (λ n b is. absurd (nothing n b is)) all n tuple e j m at
  where
    nothing : (n : ℕ) (b : Arrival) → slice_get [] n ≡ Some b → ⊥
    nothing n b e = cc

-- A message passes a test of those before it, and is found behind them.
found_behind : (p : Token → Bool) (tape : List Token) (i : ℕ) (t : Token) → slice_get tape i ≡ Some t → p t ≡ true
    → slice_get (filter p tape) (length (filter p (take i tape))) ≡ Some t
found_behind p [] i t e is = cc
found_behind p (s ∷ tape) zero t e is = let same : s ≡ t = cc in first (p s) (ap p same ∙ is) same
  where
    first : (b : Bool) → b ≡ true → s ≡ t → slice_get (cond b (s ∷ filter p tape) (filter p tape)) 0 ≡ Some t
    first true b same = ap (λ x. Some x) same
    first false b same = cc
found_behind p (s ∷ tape) (suc i) t e is = later (found_behind p tape i t e is) (p s)
  where
    later : slice_get (filter p tape) (length (filter p (take i tape))) ≡ Some t → (b : Bool) → slice_get (cond b (s ∷ filter p tape) (filter p tape)) (length (cond b (s ∷ filter p (take i tape)) (filter p (take i tape)))) ≡ Some t
    later rest true = rest
    later rest false = rest

-- Where messages are numbered, each of a tape stands on it.
pub tape_stands : (tape : List Token) → IsNumbered tape → (i : ℕ) (t : Token) → slice_get tape i ≡ Some t → StandsOn tape t
tape_stands tape numbered i t e =
    let at : t.seq - 1 ≡ length (on_channel t.channel (take i tape)) = omega (arith, numbered i t e) in
    ap (slice_get (on_channel t.channel tape)) at ∙ found_behind (λ s. s.channel == t.channel) tape i t e (itself t.channel)
  where
    itself : (n : ℕ) → (n == n) ≡ true
    itself n = grind (arith, nat_tests)

-- What holds of each holds of each that passes a test.
filter_each : (P : Token → Type 0) (p : Token → Bool) (tape : List Token) → ((n : ℕ) (t : Token) → slice_get tape n ≡ Some t → P t)
    → (n : ℕ) (t : Token) → slice_get (filter p tape) n ≡ Some t → P t
filter_each P p [] all n t e = cc
filter_each P p (s ∷ tape) all n t e = go (λ m e. filter_each P p tape (λ i u is. all (suc i) u is) m t e) (p s) n e
  where
    go : ((m : ℕ) → slice_get (filter p tape) m ≡ Some t → P t) → (b : Bool) (n : ℕ) → slice_get (cond b (s ∷ filter p tape) (filter p tape)) n ≡ Some t → P t
    go rest true zero e = let same : s ≡ t = cc in subst P same (all 0 s refl)
    go rest true (suc n) e = rest n e
    go rest false n e = rest n e

take_each : {X : Type 0} (P : X → Type 0) (k : ℕ) (xs : List X) → ((n : ℕ) (x : X) → slice_get xs n ≡ Some x → P x) → (n : ℕ) (x : X) → slice_get (take k xs) n ≡ Some x → P x
take_each P k xs all n x e = all n x (ap (λ ys. slice_get ys n) (sym (take-append-drop k xs)) ∙ get_append (take k xs) (drop k xs) n x e)

role_each : (P : Token → Type 0) (role : ℕ) (arrivals : List Arrival) → ((n : ℕ) (t : Token) → slice_get (of_role role arrivals) n ≡ Some t → P t)
    → (n : ℕ) (a : Arrival) → slice_get arrivals n ≡ Some a → a.0 ≡ role → P a.1
role_each P role [] all n a e is = cc
role_each P role (b ∷ arrivals) all zero a e is = let same : b ≡ a = cc in elim (eqb_tells b.0 role) [
  | inl h ↦ subst (λ (x : Arrival). P x.1) same (all 0 b.1 (ap (λ c. slice_get (map (λ (x : Arrival). x.1) (cond c (b ∷ filter (λ x. x.0 == role) arrivals) (filter (λ x. x.0 == role) arrivals))) 0) h.0))
  | inr h ↦ absurd (h.1 (ap (λ (x : Arrival). x.0) same ∙ is))
]
role_each P role (b ∷ arrivals) all (suc n) a e is = role_each P role arrivals (rest (b.0 == role) all) n a e is
  where
    rest : (c : Bool) → ((n : ℕ) (t : Token) → slice_get (map (λ (x : Arrival). x.1) (cond c (b ∷ filter (λ x. x.0 == role) arrivals) (filter (λ x. x.0 == role) arrivals))) n ≡ Some t → P t)
        → (n : ℕ) (t : Token) → slice_get (of_role role arrivals) n ≡ Some t → P t
    rest true all n t e = all (suc n) t e
    rest false all n t e = all n t e

module _ {routes : List Route} {hands : ℕ → Option Hand} {calls : ℕ → List Call} {arrivals : ℕ → List Arrival} {fills : ℕ → List (ℕ × ℕ)} {news clearing : ℕ → List ℕ} {tokens : ℕ → Token} {tape : List Token} where
  -- Every message that arrived stands on the tape.
  pub arrival_stands : Delivered routes hands calls arrivals fills news clearing tokens tape → (v n : ℕ) (a : Arrival) → slice_get (arrivals v) n ≡ Some a → StandsOn tape a.1
  arrival_stands d v n a e = by (reads routes v a.0) refl
    where
      by : (o : Option ℕ) → reads routes v a.0 ≡ o → StandsOn tape a.1
      by None is = absurd (d.known v n a e is)
      by (Some channel) is =
          let on : (i : ℕ) (t : Token) → slice_get (on_channel channel tape) i ≡ Some t → StandsOn tape t = filter_each (StandsOn tape) (λ s. s.channel == channel) tape (tape_stands tape d.numbered) in
          role_each (StandsOn tape) a.0 (arrivals v) (λ i t is'. take_each (StandsOn tape) (length (of_role a.0 (arrivals v))) (on_channel channel tape) on i t (ap (λ xs. slice_get xs i) (sym (d.begins v a.0 channel is)) ∙ is')) n a e refl

  -- And so does every message of a tuple that was fused.
  pub item_stands : Delivered routes hands calls arrivals fills news clearing tokens tape → (c readers n : ℕ) (tuple : Tuple) → slice_get (fused (arrivals c) readers) n ≡ Some tuple
      → (j : ℕ) (m : Token) → slice_get (messages_of tuple) j ≡ Some m → StandsOn tape m
  item_stands d c readers n tuple e j m at = fused_arrived (StandsOn tape) readers (arrivals c) (arrival_stands d c) n tuple e j m at
