-- A function that was changed at one place, and a table spread out after a step.
use Rattle.std.proofs.Common.{ℕ, zero, suc, ◌≡◌, ◌≢◌, ◌⊎◌, ◌<◌, cond, refl, sym, ◌∙◌, ap, inl, inr, List, [], ◌∷◌, length, set, get_or, get_or-set_same, get_or-set_other, arith}
use Rattle.std.proofs.lemmas.Bool.Decides.{eqb_tells}
use mathlib.Core.Path.{fun_ext}
use mathlib.Core.Option.{some, none, some-ne-none, some-injective}
use lib.ListN.{get_elem?}
use Rattle.atomic_table.specs.Table.{State as Table, stepped, keeps, takes, gives}
use Rattle.atomic_table.proofs.Lists.{set_here, set_else}
use Rattle.cy_msg.specs.declared.token.Token.{Token}
use Rattle.wake_core.specs.Run.{set_at}
use Rattle.cy_table.specs.declared.part.Part.{Part}
use Rattle.cy_table.specs.Seats.{Seat, no_seat}
use Rattle.cy_table.specs.Shown.{Spread, Home, spread}

pub place : (k i : ℕ) → (k ≡ i) ⊎ (k ≢ i)
place k i = elim (eqb_tells k i) [ inl h ↦ inl h.1 | inr h ↦ inr h.1 ]

pub there : {X : Type 0} (i : ℕ) (x : X) (f : ℕ → X) (k : ℕ) → k ≡ i → set_at i x f k ≡ x
unfolding set_at
there i x f k e = elim (eqb_tells k i) [ inl h ↦ ap (λ b. cond b x (f k)) h.0 | inr h ↦ absurd (h.1 e) ]

pub other : {X : Type 0} (i : ℕ) (x : X) (f : ℕ → X) (k : ℕ) → k ≢ i → set_at i x f k ≡ f k
unfolding set_at
other i x f k e = elim (eqb_tells k i) [ inl h ↦ absurd (e h.1) | inr h ↦ ap (λ b. cond b x (f k)) h.0 ]

-- A reading that doesn't tell the new value from the old.
pub unseen : {X Y : Type 0} (g : X → Y) (i : ℕ) (x : X) (f : ℕ → X) (k : ℕ) → g x ≡ g (f i) → g (set_at i x f k) ≡ g (f k)
unseen g i x f k e = elim (place k i) [
  | inl h ↦ ap g (there i x f k h) ∙ e ∙ ap (λ j. g (f j)) (sym h)
  | inr h ↦ ap g (other i x f k h)
]

-- What every seat shows, where one seat shows the same as before, or something new.
module _ {X : Type 0} (g : Seat → X) (seat : ℕ → Seat) (old : ℕ → X) (all : (j : ℕ) → old j ≡ g (seat j)) (id : ℕ) (v : Seat) where
  pub shown_still : g v ≡ g (seat id) → (j : ℕ) → old j ≡ g (set_at id v seat j)
  shown_still e j = all j ∙ sym (unseen g id v seat j e)

  pub shown_anew : (y : X) → y ≡ g v → (j : ℕ) → set_at id y old j ≡ g (set_at id v seat j)
  shown_anew y e j = elim (place j id) [
    | inl h ↦ there id y old j h ∙ (e ∙ ap g (sym (there id v seat j h)))
    | inr h ↦ other id y old j h ∙ (all j ∙ ap g (sym (other id v seat j h)))
  ]

-- The message of what is owed, where one seat has the same one as before, owes one fill less, or has
-- a new one.
module _ (seat : ℕ → Seat) (tokens : ℕ → Token) (fills : ℕ → List (ℕ × ℕ)) (all : (j : ℕ) → fills j ≢ [] → tokens j ≡ (seat j).token) (id : ℕ) (v : Seat) where
  pub token_still : v.token ≡ (seat id).token → (j : ℕ) → fills j ≢ [] → tokens j ≡ (set_at id v seat j).token
  token_still e j owes = all j owes ∙ sym (unseen (λ (u : Seat). u.token) id v seat j e)

  pub token_later : (later : List (ℕ × ℕ)) → fills id ≢ [] → v.token ≡ (seat id).token → (j : ℕ) → set_at id later fills j ≢ [] → tokens j ≡ (set_at id v seat j).token
  token_later later had e j owes = elim (place j id) [
    | inl h ↦ token_still e j (λ z. had (ap fills (sym h) ∙ z))
    | inr h ↦ token_still e j (λ z. owes (other id later fills j h ∙ z))
  ]

  pub token_anew : (t : Token) (now : List (ℕ × ℕ)) → t ≡ v.token → (j : ℕ) → set_at id now fills j ≢ [] → set_at id t tokens j ≡ (set_at id v seat j).token
  token_anew t now e j owes = elim (place j id) [
    | inl h ↦ there id t tokens j h ∙ (e ∙ ap (λ (u : Seat). u.token) (sym (there id v seat j h)))
    | inr h ↦ other id t tokens j h ∙ (all j (λ z. owes (other id now fills j h ∙ z)) ∙ ap (λ (u : Seat). u.token) (sym (other id v seat j h)))
  ]

pub list_changed : {X : Type 0} (d : X) (xs : List X) (i : ℕ) (x : X) → i < length xs → (λ k. get_or (set xs i x) k d) ≡ set_at i x (λ k. get_or xs k d)
list_changed d xs i x less = fun_ext (λ k. elim (place k i) [
  | inl h ↦ rw h (get_or-set_same xs i x d less ∙ sym (there i x (λ k. get_or xs k d) i refl))
  | inr h ↦ get_or-set_other xs i k x d h ∙ sym (other i x (λ k. get_or xs k d) k h)
])

homes_changed : {X : Type 0} (xs : List X) (i : ℕ) (x : X) → i < length xs → (λ k. get_elem? (set xs i x) k) ≡ set_at i (some x) (λ k. get_elem? xs k)
homes_changed xs i x less = fun_ext (λ k. elim (place k i) [
  | inl h ↦ rw h (set_here xs i x less ∙ sym (there i (some x) (λ k. get_elem? xs k) i refl))
  | inr h ↦ set_else xs i k x h ∙ sym (other i (some x) (λ k. get_elem? xs k) k h)
])

pub within : {X : Type 0} (xs : List X) (i : ℕ) (x : X) → get_elem? xs i ≡ some x → i < length xs
within [] i x e = absurd (some-ne-none x (sym e))
within (y ∷ ys) zero x e = omega arith
within (y ∷ ys) (suc i) x e = let h = within ys i x e in omega arith

seat_there : (xs : List Seat) (i : ℕ) (x : Seat) → get_elem? xs i ≡ some x → get_or xs i no_seat ≡ x
seat_there [] i x e = absurd (some-ne-none x (sym e))
seat_there (y ∷ ys) zero x e = some-injective y x e
seat_there (y ∷ ys) (suc i) x e = seat_there ys i x e

pub seated : (s : Table Part Seat) (id : ℕ) (v : Seat) → get_elem? s.views id ≡ some v → (spread s).seat id ≡ v
unfolding spread
seated s id v e = seat_there s.views id v e

pub word_is : (s : Table Part Seat) (i x : ℕ) → get_or s.words i 0 ≡ x → (spread s).word i ≡ x
unfolding spread
word_is s i x e = e

pub is_word : (s : Table Part Seat) (i x : ℕ) → (spread s).word i ≡ x → get_or s.words i 0 ≡ x
unfolding spread
is_word s i x e = e

pub home_is : (s : Table Part Seat) (k : ℕ) (h : Home) → (spread s).home k ≡ h → get_elem? s.homes k ≡ h
unfolding spread
home_is s k h e = e

abbrev pub after : Spread → (i n id : ℕ) → Seat → (ℕ → Home) → Spread
after t i n id v home = record { word = set_at i n t.word; home = home; seat = set_at id v t.seat }

-- A step that leaves the slots alone, one that takes what is in a slot, and one that gives it back.
module _ (s : Table Part Seat) (i n id : ℕ) (v : Seat) (out : List (ℕ × Part)) (inside : i < length s.words) (sits : id < length s.views) where
  pub spread_keeps : spread (stepped s i n id out v keeps) ≡ after (spread s) i n id v (spread s).home
  unfolding spread
  spread_keeps =
      let w = list_changed 0 s.words i n inside in
      let u = list_changed no_seat s.views id v sits in
      λ k. record { word = w k; home = λ m. get_elem? s.homes m; seat = u k }

  pub spread_takes : (k : ℕ) (y : Part) → k < length s.homes → spread (stepped s i n id out v (takes k y)) ≡ after (spread s) i n id v (set_at k (some none) (spread s).home)
  unfolding spread
  spread_takes k y less =
      let w = list_changed 0 s.words i n inside in
      let u = list_changed no_seat s.views id v sits in
      let h = homes_changed s.homes k none less in
      λ j. record { word = w j; home = h j; seat = u j }

  pub spread_gives : (k : ℕ) (y : Part) → k < length s.homes → spread (stepped s i n id ((k, y) ∷ out) v gives) ≡ after (spread s) i n id v (set_at k (some (some y)) (spread s).home)
  unfolding spread
  spread_gives k y less =
      let w = list_changed 0 s.words i n inside in
      let u = list_changed no_seat s.views id v sits in
      let h = homes_changed s.homes k (some y) less in
      λ j. record { word = w j; home = h j; seat = u j }
