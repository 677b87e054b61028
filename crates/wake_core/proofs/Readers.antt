-- The readers of a channel: who is among them, each once.
use Rattle.std.proofs.Common.{ℕ, zero, suc, ◌+◌, ◌-◌, ◌≡◌, ◌≤◌, Bool, true, false, refl, sym, ◌∙◌, ap, subst, inl, inr, arith, List, [], ◌∷◌, ◌++◌, Some, ◌==◌, ◌||◌, ◌&&◌, slice_get, drop, cond}
use Rattle.std.proofs.lemmas.Bool.Decides.{nat_tests, eqb_tells}
use Rattle.cy_msg.proofs.Lists.{either}
use Rattle.wake_core.specs.Run.{Route, roles_of, readers_from, readers_of}
use Rattle.wake_core.specs.Plain.{lists_reader, reads}

is_reader : (u i v j : ℕ) → (u == v) && (i == j) ≡ true → (u ≡ v) × (i ≡ j)
is_reader u i v j e = (grind (arith, nat_tests, e), grind (arith, nat_tests, e))

is_itself : (v j : ℕ) → (v == v) && (j == j) ≡ true
is_itself v j = grind (arith, nat_tests)

not_reader : (u i v j : ℕ) → ((u ≡ v) × (i ≡ j) → ⊥) → (u == v) && (i == j) ≡ false
not_reader u i v j n = grind (arith, nat_tests, n)

pub lists_reader_first : (v j : ℕ) (later : List (ℕ × ℕ)) → lists_reader v j ((v, j) ∷ later) ≡ true
lists_reader_first v j later = ap (λ b. b || lists_reader v j later) (is_itself v j)

pub lists_reader_rest : (v j : ℕ) (r : ℕ × ℕ) (later : List (ℕ × ℕ)) → lists_reader v j later ≡ true → lists_reader v j (r ∷ later) ≡ true
lists_reader_rest v j r later e = go (r.0 == v && r.1 == j) (lists_reader v j later) e
  where
    go : (a b : Bool) → b ≡ true → a || b ≡ true
    go true b e = refl
    go false b e = e

-- A reader that is another than the first is among the rest.
pub lists_reader_other : (u i v j : ℕ) (later : List (ℕ × ℕ)) → ((v ≡ u) × (j ≡ i) → ⊥) → lists_reader u i ((v, j) ∷ later) ≡ lists_reader u i later
lists_reader_other u i v j later n = ap (λ b. b || lists_reader u i later) (not_reader v j u i n)

lists_reader-append : (v j : ℕ) (xs ys : List (ℕ × ℕ)) → lists_reader v j (xs ++ ys) ≡ lists_reader v j xs || lists_reader v j ys
lists_reader-append v j [] ys = refl
lists_reader-append v j (x ∷ xs) ys = ap (λ b. (x.0 == v && x.1 == j) || b) (lists_reader-append v j xs ys) ∙ or_assoc (x.0 == v && x.1 == j) (lists_reader v j xs) (lists_reader v j ys)
  where
    or_assoc : (a b c : Bool) → a || (b || c) ≡ (a || b) || c
    or_assoc true b c = refl
    or_assoc false b c = refl

-- The roles of one component: it is among them exactly in those in which it reads the channel.
role_reads : (channel c role : ℕ) (xs : List ℕ) (v j : ℕ) → lists_reader v j (roles_of channel c role xs) ≡ true
    → (v ≡ c) × (role ≤ j) × (slice_get xs (j - role) ≡ Some channel)
role_reads channel c role [] v j e = cc
role_reads channel c role (r ∷ xs) v j e = elim (eqb_tells r channel) [
  | inl h ↦ elim (either (c == v && role == j) (lists_reader v j (roles_of channel c (role + 1) xs)) (sym (here h.0) ∙ e)) [
    | inl f ↦ let is = is_reader c role v j f in (sym is.0, first_le is.1, ap (slice_get (r ∷ xs)) (first is.1) ∙ ap (λ n. Some n) h.1)
    | inr f ↦ let more = role_reads channel c (role + 1) xs v j f in (more.0, later_le more.1, ap (slice_get (r ∷ xs)) (later more.1) ∙ more.2)
  ]
  | inr h ↦ let more = role_reads channel c (role + 1) xs v j (sym (not_here h.0) ∙ e) in (more.0, later_le more.1, ap (slice_get (r ∷ xs)) (later more.1) ∙ more.2)
]
  where
    first_le : role ≡ j → role ≤ j
    first_le e = omega arith

    first : role ≡ j → j - role ≡ 0
    first e = omega arith

    later_le : role + 1 ≤ j → role ≤ j
    later_le e = omega arith

    later : role + 1 ≤ j → j - role ≡ suc (j - (role + 1))
    later e = omega arith

    here : (r == channel) ≡ true → lists_reader v j (roles_of channel c role (r ∷ xs)) ≡ (c == v && role == j) || lists_reader v j (roles_of channel c (role + 1) xs)
    here h = ap (λ b. lists_reader v j (cond b ((c, role) ∷ roles_of channel c (role + 1) xs) (roles_of channel c (role + 1) xs))) h

    not_here : (r == channel) ≡ false → lists_reader v j (roles_of channel c role (r ∷ xs)) ≡ lists_reader v j (roles_of channel c (role + 1) xs)
    not_here h = ap (λ b. lists_reader v j (cond b ((c, role) ∷ roles_of channel c (role + 1) xs) (roles_of channel c (role + 1) xs))) h

reads_role : (channel c role : ℕ) (xs : List ℕ) (n j : ℕ) → slice_get xs n ≡ Some channel → role + n ≡ j → lists_reader c j (roles_of channel c role xs) ≡ true
reads_role channel c role [] n j e is = cc
reads_role channel c role (r ∷ xs) zero j e is =
    let at : r ≡ channel = cc in
    let same : role ≡ j = omega arith in
    elim (eqb_tells r channel) [
      | inl h ↦ ap (λ b. lists_reader c j (cond b ((c, role) ∷ roles_of channel c (role + 1) xs) (roles_of channel c (role + 1) xs))) h.0
          ∙ ap (λ k. lists_reader c j ((c, k) ∷ roles_of channel c (role + 1) xs)) same ∙ lists_reader_first c j (roles_of channel c (role + 1) xs)
      | inr h ↦ absurd (h.1 at)
    ]
reads_role channel c role (r ∷ xs) (suc n) j e is =
    let more = reads_role channel c (role + 1) xs n j e (omega arith) in
    elim (eqb_tells r channel) [
      | inl h ↦ ap (λ b. lists_reader c j (cond b ((c, role) ∷ roles_of channel c (role + 1) xs) (roles_of channel c (role + 1) xs))) h.0
          ∙ lists_reader_rest c j (c, role) (roles_of channel c (role + 1) xs) more
      | inr h ↦ ap (λ b. lists_reader c j (cond b ((c, role) ∷ roles_of channel c (role + 1) xs) (roles_of channel c (role + 1) xs))) h.0 ∙ more
    ]

-- Who is among the readers of a channel reads it, ..
from_reads : (channel c : ℕ) (routes : List Route) (v j : ℕ) → lists_reader v j (readers_from channel c routes) ≡ true
    → (c ≤ v) × (reads routes (v - c) j ≡ Some channel)
from_reads channel c [] v j e = cc
from_reads channel c (x ∷ routes) v j e = elim (either (lists_reader v j (roles_of channel c 0 x.readers)) (lists_reader v j (readers_from channel (c + 1) routes)) (sym (lists_reader-append v j (roles_of channel c 0 x.readers) (readers_from channel (c + 1) routes)) ∙ e)) [
  | inl h ↦ let is = role_reads channel c 0 x.readers v j h in (here_le is.0, ap (λ n. reads (x ∷ routes) n j) (here is.0) ∙ ap (slice_get x.readers) (whole j) ∙ is.2)
  | inr h ↦ let is = from_reads channel (c + 1) routes v j h in (there_le is.0, ap (λ n. reads (x ∷ routes) n j) (there is.0) ∙ is.1)
]
  where
    here_le : v ≡ c → c ≤ v
    here_le e = omega arith

    here : v ≡ c → v - c ≡ 0
    here e = omega arith

    whole : (j : ℕ) → j ≡ j - 0
    whole j = omega arith

    there_le : c + 1 ≤ v → c ≤ v
    there_le e = omega arith

    there : c + 1 ≤ v → v - c ≡ suc (v - (c + 1))
    there e = omega arith

pub reader_reads : (routes : List Route) (channel v j : ℕ) → lists_reader v j (readers_of routes channel) ≡ true → reads routes v j ≡ Some channel
reader_reads routes channel v j e = let is = from_reads channel 0 routes v j e in ap (λ n. reads routes n j) (omega arith) ∙ is.1

reads_from : (channel c : ℕ) (routes : List Route) (n v j : ℕ) → reads routes n j ≡ Some channel → c + n ≡ v → lists_reader v j (readers_from channel c routes) ≡ true
reads_from channel c [] n v j e is = cc
reads_from channel c (x ∷ routes) zero v j e is =
    let same : c ≡ v = omega arith in
    lists_reader-append v j (roles_of channel c 0 x.readers) (readers_from channel (c + 1) routes)
    ∙ ap (λ b. b || lists_reader v j (readers_from channel (c + 1) routes)) (ap (λ n. lists_reader n j (roles_of channel c 0 x.readers)) (sym same) ∙ reads_role channel c 0 x.readers j j e (omega arith))
reads_from channel c (x ∷ routes) (suc n) v j e is =
    lists_reader-append v j (roles_of channel c 0 x.readers) (readers_from channel (c + 1) routes)
    ∙ or_true (lists_reader v j (roles_of channel c 0 x.readers)) (lists_reader v j (readers_from channel (c + 1) routes)) (reads_from channel (c + 1) routes n v j e (omega arith))
  where
    or_true : (a b : Bool) → b ≡ true → a || b ≡ true
    or_true true b e = refl
    or_true false b e = e

-- .. and who reads it is among them.
pub reads_reader : (routes : List Route) (channel v j : ℕ) → reads routes v j ≡ Some channel → lists_reader v j (readers_of routes channel) ≡ true
reads_reader routes channel v j e = reads_from channel 0 routes v v j e (omega arith)

-- None of a list comes again behind itself.
pub NoneTwice : List (ℕ × ℕ) → Type 0
NoneTwice [] = Unit {0}
NoneTwice (r ∷ rest) = (lists_reader r.0 r.1 rest ≡ false) × NoneTwice rest

not_true : (b : Bool) → (b ≡ true → ⊥) → b ≡ false
not_true true n = absurd (n refl)
not_true false n = refl

roles_once : (channel c role : ℕ) (xs : List ℕ) (ys : List (ℕ × ℕ)) → ((j : ℕ) → lists_reader c j ys ≡ true → ⊥) → NoneTwice ys → NoneTwice (roles_of channel c role xs ++ ys)
unfolding NoneTwice
roles_once channel c role [] ys other once = once
roles_once channel c role (r ∷ xs) ys other once = elim (eqb_tells r channel) [
  | inl h ↦ subst (λ b. NoneTwice (cond b ((c, role) ∷ roles_of channel c (role + 1) xs) (roles_of channel c (role + 1) xs) ++ ys)) (sym h.0)
      (not_true (lists_reader c role (roles_of channel c (role + 1) xs ++ ys)) (λ t. again t), roles_once channel c (role + 1) xs ys other once)
  | inr h ↦ subst (λ b. NoneTwice (cond b ((c, role) ∷ roles_of channel c (role + 1) xs) (roles_of channel c (role + 1) xs) ++ ys)) (sym h.0) (roles_once channel c (role + 1) xs ys other once)
]
  where
    again : lists_reader c role (roles_of channel c (role + 1) xs ++ ys) ≡ true → ⊥
    again t = elim (either (lists_reader c role (roles_of channel c (role + 1) xs)) (lists_reader c role ys) (sym (lists_reader-append c role (roles_of channel c (role + 1) xs) ys) ∙ t)) [
      | inl h ↦ let is = role_reads channel c (role + 1) xs c role h in past role is.1
      | inr h ↦ other role h
    ]
      where
        past : (n : ℕ) → n + 1 ≤ n → ⊥
        past n l = omega arith

from_once : (channel c : ℕ) (routes : List Route) → NoneTwice (readers_from channel c routes)
unfolding NoneTwice
from_once channel c [] = tt
from_once channel c (x ∷ routes) = roles_once channel c 0 x.readers (readers_from channel (c + 1) routes) (λ j t. past c (from_reads channel (c + 1) routes c j t).0) (from_once channel (c + 1) routes)
  where
    past : (n : ℕ) → n + 1 ≤ n → ⊥
    past n l = omega arith

drop_once : (n : ℕ) (xs : List (ℕ × ℕ)) → NoneTwice xs → NoneTwice (drop n xs)
unfolding NoneTwice
drop_once zero xs once = once
drop_once (suc n) [] once = tt
drop_once (suc n) (x ∷ xs) once = drop_once n xs once.1

-- In what is left of a channel's readers the first doesn't come again.
pub left_once : (routes : List Route) (channel n v j : ℕ) (later : List (ℕ × ℕ)) → drop n (readers_of routes channel) ≡ (v, j) ∷ later → lists_reader v j later ≡ false
unfolding NoneTwice
left_once routes channel n v j later e = let once : NoneTwice ((v, j) ∷ later) = subst NoneTwice e (drop_once n (readers_of routes channel) (from_once channel 0 routes)) in once.0

-- What is left of them is among them.
pub left_reads : (n : ℕ) (xs : List (ℕ × ℕ)) (v j : ℕ) → lists_reader v j (drop n xs) ≡ true → lists_reader v j xs ≡ true
left_reads zero xs v j e = e
left_reads (suc n) [] v j e = e
left_reads (suc n) (x ∷ xs) v j e = lists_reader_rest v j x xs (left_reads n xs v j e)
