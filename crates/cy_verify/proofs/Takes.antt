-- A call takes at each place of its tuple a message of the reader that has this number.
use Rattle.std.proofs.Common.{ℕ, zero, suc, ◌+◌, ◌-◌, ◌≡◌, ◌≢◌, ◌⊎◌, true, false, refl, sym, ◌∙◌, ap, subst, inl, inr, arith, List, [], ◌∷◌, ◌++◌, length, take, Some, None, Option, slice_get, slice_index, ◌==◌, cond, if◌then◌else◌, option_map, option_and_then, option_to_list}
use Rattle.std.proofs.lemmas.Bool.Decides.{eqb_tells}
use Rattle.cy_msg.specs.declared.token.Token.{Token}
use Rattle.cy_msg.specs.declared.token.Tuple.{Tuple}
use Rattle.cy_msg.specs.Tuple.{messages_of}
use Rattle.cy_msg.specs.Tokens.{on_channel, IsNumbered}
use Rattle.cy_msg.proofs.Lists.{get_append, get_snoc, get_taken}
use Rattle.cy_fuse.specs.Fusion.{Arrival, later_or, latest, latest_of, joined, added, fused_after, fused}
use Rattle.cy_comp.specs.declared.call.Call.{Call}
use Rattle.cy_trace.specs.declared.trace.TraceComponent.{TraceComponent}
use Rattle.wake_core.specs.declared.route.Route.{Route}
use Rattle.wake_core.proofs.Cited.{get_parts}
use Rattle.cy_verify.specs.declared.follower.Follower.{Follower}
use Rattle.cy_verify.specs.private.Following.{IsSearched, Follows}
use Rattle.cy_verify.specs.private.Passes.{TakesFrom}
use Rattle.cy_verify.proofs.TapeGrown.{role_each, index_of, fused_stands}

some_is : {X : Type 0} {a b : X} → Some a ≡ Some b → a ≡ b
some_is e = cc

-- Of each arrival something holds of its role and its message.
abbrev EachIs : (ℕ → Token → Type 0) → List Arrival → Type 0
EachIs P arrivals = (n : ℕ) (a : Arrival) → slice_get arrivals n ≡ Some a → P a.0 a.1

latest_role : (P : ℕ → Token → Type 0) (role : ℕ) (arrivals : List Arrival) → EachIs P arrivals → (m : Token) → latest role arrivals ≡ Some m → P role m
latest_role P role [] all m e = cc
latest_role P role (a ∷ rest) all m e = go (λ is. latest_role P role rest (λ n b at. all (suc n) b at) m is) (latest role rest) refl e
  where
    here : ((a.0 == role ≡ true) × (a.0 ≡ role)) ⊎ ((a.0 == role ≡ false) × (a.0 ≢ role)) → (if a.0 == role then Some a.1 else None) ≡ Some m → P role m
    here (inl h) e =
        let same : a.1 ≡ m = some_is (ap (λ b. if b then Some a.1 else None) (sym h.0) ∙ e) in
        subst (λ r. P r m) h.1 (subst (P a.0) same (all 0 a refl))
    here (inr h) e = absurd (none_some (ap (λ b. if b then Some a.1 else None) (sym h.0) ∙ e))
      where
        none_some : None ≡ Some m → ⊥
        none_some e = cc

    go : (latest role rest ≡ Some m → P role m) → (o : Option Token) → latest role rest ≡ o → later_or o (if a.0 == role then Some a.1 else None) ≡ Some m → P role m
    go earlier None is e = here (eqb_tells a.0 role) e
    go earlier (Some x) is e = earlier (is ∙ e)

latest_of_roles : (P : ℕ → Token → Type 0) (from count : ℕ) (arrivals : List Arrival) → EachIs P arrivals
    → (ts : List Token) → latest_of from count arrivals ≡ Some ts → (j : ℕ) (m : Token) → slice_get ts j ≡ Some m → P (from + j) m
latest_of_roles P from zero arrivals all ts e j m at = let none : ts ≡ [] = cc in absurd (nothing j m (rw none at at))
  where
    nothing : (j : ℕ) (m : Token) → slice_get [] j ≡ Some m → ⊥
    nothing j m e = cc
latest_of_roles P from (suc count) arrivals all ts e j m at =
    go (λ us more i at. latest_of_roles P (suc from) count arrivals all us more i m at) (latest from arrivals) (latest_of (suc from) count arrivals) refl refl e
  where
    go : ((us : List Token) → latest_of (suc from) count arrivals ≡ Some us → (i : ℕ) → slice_get us i ≡ Some m → P (suc from + i) m) → (o : Option Token) (rest : Option (List Token)) → latest from arrivals ≡ o → latest_of (suc from) count arrivals ≡ rest
        → option_and_then (λ t. option_map (λ ts. t ∷ ts) rest) o ≡ Some ts → P (from + j) m
    go others None rest is more e = cc
    go others (Some t) None is more e = cc
    go others (Some t) (Some us) is more e = let same : ts ≡ t ∷ us = cc in at_cons j (rw same at at)
      where
        at_cons : (i : ℕ) → slice_get (t ∷ us) i ≡ Some m → P (from + i) m
        at_cons zero at =
            let first : from ≡ from + 0 = omega arith in
            let here : t ≡ m = some_is at in
            subst (λ r. P r m) first (subst (P from) here (latest_role P from arrivals all t is))
        at_cons (suc i) at = let next : suc from + i ≡ from + suc i = omega arith in subst (λ r. P r m) next (others us more i at)

joined_roles : (P : ℕ → Token → Type 0) (a : Token) (ts : List Token) → P 0 a → ((j : ℕ) (m : Token) → slice_get ts j ≡ Some m → P (suc j) m)
    → (j : ℕ) (m : Token) → slice_get (messages_of (joined a ts)) j ≡ Some m → P j m
joined_roles P a [] here all zero m e = let same : a ≡ m = some_is e in subst (P 0) same here
joined_roles P a [] here all (suc j) m e = cc
joined_roles P a (b ∷ []) here all zero m e = let same : a ≡ m = some_is e in subst (P 0) same here
joined_roles P a (b ∷ []) here all (suc j) m e = all j m e
joined_roles P a (b ∷ c ∷ []) here all zero m e = let same : a ≡ m = some_is e in subst (P 0) same here
joined_roles P a (b ∷ c ∷ []) here all (suc j) m e = all j m e
joined_roles P a (b ∷ c ∷ d ∷ rest) here all zero m e = let same : a ≡ m = some_is e in subst (P 0) same here
joined_roles P a (b ∷ c ∷ d ∷ rest) here all (suc j) m e = all j m (get_append (b ∷ c ∷ d ∷ []) rest j m e)

added_roles : (P : ℕ → Token → Type 0) (k : ℕ) (before : List Arrival) (a : Arrival) → EachIs P before → P a.0 a.1
    → (n : ℕ) (tuple : Tuple) → slice_get (added k before a) n ≡ Some tuple → (j : ℕ) (m : Token) → slice_get (messages_of tuple) j ≡ Some m → P j m
added_roles P k before a all here n tuple e j m at = by (eqb_tells a.0 0)
  where
    none_there : (i : ℕ) → slice_get [] i ≡ Some tuple → ⊥
    none_there i e = cc

    go : P 0 a.1 → (o : Option (List Token)) → latest_of 1 (k - 1) before ≡ o → slice_get (option_to_list (option_map (joined a.1) o)) n ≡ Some tuple → P j m
    go first None is e = absurd (none_there n e)
    go first (Some ts) is e = only n e
      where
        only : (i : ℕ) → slice_get (joined a.1 ts ∷ []) i ≡ Some tuple → P j m
        only zero e =
            let same : joined a.1 ts ≡ tuple = some_is e in
            joined_roles P a.1 ts first (λ i s on. let next : 1 + i ≡ suc i = omega arith in subst (λ r. P r s) next (latest_of_roles P 1 (k - 1) before all ts is i s on)) j m (ap (λ x. slice_get (messages_of x) j) same ∙ at)
        only (suc i) e = absurd (none_there i e)

    by : ((a.0 == 0 ≡ true) × (a.0 ≡ 0)) ⊎ ((a.0 == 0 ≡ false) × (a.0 ≢ 0)) → P j m
    by (inl h) = go (subst (λ r. P r a.1) h.1 here) (latest_of 1 (k - 1) before) refl
        (ap (λ b. slice_get (if b then option_to_list (option_map (joined a.1) (latest_of 1 (k - 1) before)) else []) n) (sym h.0) ∙ e)
    by (inr h) = absurd (none_there n (ap (λ b. slice_get (if b then option_to_list (option_map (joined a.1) (latest_of 1 (k - 1) before)) else []) n) (sym h.0) ∙ e))

each_more : (P : ℕ → Token → Type 0) (xs : List Arrival) (x : Arrival) → EachIs P xs → P x.0 x.1 → EachIs P (xs ++ x ∷ [])
each_more P xs x all here n y e = elim (get_snoc xs x n y e) [ inl h ↦ all n y h | inr h ↦ subst (λ (z : Arrival). P z.0 z.1) h.1 here ]

fused_after_roles : (P : ℕ → Token → Type 0) (k : ℕ) (before rest : List Arrival) → EachIs P before → EachIs P rest
    → (n : ℕ) (tuple : Tuple) → slice_get (fused_after k before rest) n ≡ Some tuple → (j : ℕ) (m : Token) → slice_get (messages_of tuple) j ≡ Some m → P j m
fused_after_roles P k before [] old new n tuple e j m at = cc
fused_after_roles P k before (a ∷ rest) old new n tuple e j m at = elim (get_parts (added k before a) (fused_after k (before ++ a ∷ []) rest) n tuple e) [
  | inl h ↦ added_roles P k before a old (new 0 a refl) n tuple h j m at
  | inr h ↦ fused_after_roles P k (before ++ a ∷ []) rest (each_more P before a old (new 0 a refl)) (λ i b is. new (suc i) b is) h.0 tuple h.1 j m at
]

-- What holds of every arrival, by its role, holds of every message that was fused, by its place.
fused_roles : (P : ℕ → Token → Type 0) (k : ℕ) (arrivals : List Arrival) → EachIs P arrivals
    → (n : ℕ) (tuple : Tuple) → slice_get (fused arrivals k) n ≡ Some tuple → (j : ℕ) (m : Token) → slice_get (messages_of tuple) j ≡ Some m → P j m
unfolding fused
fused_roles P k arrivals all n tuple e j m at = fused_after_roles P k [] arrivals (λ n b is. absurd (nothing n b is)) all n tuple e j m at
  where
    nothing : (n : ℕ) (b : Arrival) → slice_get [] n ≡ Some b → ⊥
    nothing n b e = cc

-- What stands among the messages of a channel is of it.
on_own : (channel : ℕ) (tape : List Token) (i : ℕ) (t : Token) → slice_get (on_channel channel tape) i ≡ Some t → t.channel ≡ channel
on_own channel [] i t e = cc
on_own channel (s ∷ tape) i t e = elim (eqb_tells s.channel channel) [
  | inl h ↦ own i (ap (λ b. slice_get (cond b (s ∷ on_channel channel tape) (on_channel channel tape)) i) (sym h.0) ∙ e) (on_own channel tape) h.1
  | inr h ↦ on_own channel tape i t (ap (λ b. slice_get (cond b (s ∷ on_channel channel tape) (on_channel channel tape)) i) (sym h.0) ∙ e)
]
  where
    own : (n : ℕ) → slice_get (s ∷ on_channel channel tape) n ≡ Some t → ((m : ℕ) (u : Token) → slice_get (on_channel channel tape) m ≡ Some u → u.channel ≡ channel) → s.channel ≡ channel → t.channel ≡ channel
    own zero e rest is = ap (λ (u : Token). u.channel) (sym (some_is e)) ∙ is
    own (suc n) e rest is = rest n t e

-- What came to a reader is of the channel that it reads.
came_read : (x : Route) (arrivals : List Arrival) (searched : List ℕ) (tape : List Token) → IsSearched x arrivals searched tape → EachIs (λ role m. slice_get x.readers role ≡ Some m.channel) arrivals
came_read x arrivals searched tape h n a e =
    let r = index_of x.readers a.0 (h.roles n a e) in
    let same : a.1.channel ≡ r.0 = role_each (λ (t : Token). t.channel ≡ r.0) a.0 arrivals (λ i t is. on_own r.0 (take (slice_index searched a.0) tape) i t (ap (λ l. slice_get l i) (sym (h.heard a.0 r.0 r.1)) ∙ is)) n a e refl in
    r.1 ∙ ap (λ k. Some k) (sym same)

-- The calls of a component that was followed take what stands on the tape, each message at the reader of its channel.
pub follows_takes : (x : Route) (told : TraceComponent) (f : Follower) (tape : List Token) → IsNumbered tape → Follows x told f tape → TakesFrom x.readers f.routine.calls tape
follows_takes x told f tape numbered h = record {
  reads = λ n j call m at on. fused_roles (λ role m. slice_get x.readers role ≡ Some m.channel) (length x.readers) f.visitor.arrivals (came_read x f.visitor.arrivals f.searched tape h.searched) (call.position - 1) call.tuple (taken n call at) j m on;
  stands = λ n j call m at on. fused_stands x f.visitor.arrivals f.searched tape numbered h.searched (call.position - 1) call.tuple (taken n call at) j m on;
}
  where
    taken : (n : ℕ) (call : Call) → slice_get f.routine.calls n ≡ Some call → slice_get (fused f.visitor.arrivals (length x.readers)) (call.position - 1) ≡ Some call.tuple
    taken n call at = get_taken (fused f.visitor.arrivals (length x.readers)) call.tail (call.position - 1) call.tuple (h.lawful.own n call at)
