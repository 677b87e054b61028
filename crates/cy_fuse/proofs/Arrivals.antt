-- A visitor after one more arrival.
use Rattle.std.proofs.Common.{ℕ, zero, suc, ◌+◌, ◌-◌, ◌^◌, ◌≡◌, ◌≢◌, ◌≤◌, ◌<◌, inl, inr, ◌==◌, if◌then◌else◌, List, [], ◌∷◌, ◌++◌, length, map, slice_set, slice_index_or, Option, Some, None, refl, sym, ap, ◌∙◌, arith, append-nil, length-append, length-set, get_or-set_same, get_or-set_other}
use Rattle.std.specs.Prelude.{option_map, option_and_then, option_to_list}
use Rattle.std.proofs.lemmas.List.{map_push}
use Rattle.std.proofs.lemmas.Bool.Decides.{eqb_tells}
use Rattle.std.proofs.lemmas.Grind.{common_steps}
use Rattle.cy_msg.specs.declared.token.Token.{Token}
use Rattle.cy_msg.specs.declared.token.Tuple.{Tuple}
use Rattle.cy_fuse.specs.Fusion.{Arrival, latest, latest_of, joined, added, fused}
use Rattle.cy_fuse.specs.Cache.{Cache, cache_of, filled}
use Rattle.cy_fuse.specs.private.Joining.{TuplesView, fills, last_of, tuple_with, joined_to}
use Rattle.cy_fuse.specs.private.Visiting.{IsVisitor}
use Rattle.cy_fuse.proofs.Fusing.{fused-push, latest-push}

cache-fill : {X : Type 0} (size : ℕ) (items : List X) (x : X) → 1 ≤ size → filled (cache_of size items) x ≡ cache_of size (items ++ x ∷ [])
cache-fill size items x some = grind (arith, common_steps)

-- a buffer with an item filled where there is one
cache-fills : {X : Type 0} (size : ℕ) (items : List X) (o : Option X) → 1 ≤ size → fills (cache_of size items) o ≡ cache_of size (items ++ option_to_list o)
cache-fills size items None some = ap (cache_of size) (sym (append-nil items))
cache-fills size items (Some x) some = cache-fill size items x some

size-fills : {X : Type 0} (b : Cache X) (o : Option X) → (fills b o).size ≡ b.size
size-fills b None = refl
size-fills b (Some x) = refl

-- the kept messages of the other readers are the last that came to each
last_of-latest : (from count : ℕ) (arrivals : List Arrival) (last : List (Option Token)) → ((r : ℕ) → from ≤ r → r < from + count → slice_index_or last r None ≡ latest r arrivals)
    → last_of from count last ≡ latest_of from count arrivals
last_of-latest from zero arrivals last joins = refl
last_of-latest from (suc count) arrivals last joins =
    ap (option_and_then (λ t. option_map (λ ts. t ∷ ts) (last_of (suc from) count last))) (joins from (omega arith) (omega arith))
    ∙ ap (λ o. option_and_then (λ t. option_map (λ ts. t ∷ ts) o) (latest from arrivals)) (last_of-latest (suc from) count arrivals last (λ r a b. joins r (omega arith) (omega arith)))

-- What holds of a visitor when a message comes to a reader of it.
pub record Coming (roles spare room role : ℕ) (readers : List ℕ) (arrivals : List Arrival) (last : List (Option Token)) (tuples : Cache Tuple) : Type 0 where
  pub visitor : IsVisitor roles spare room readers arrivals last tuples
  pub known : role < roles
  pub some : 1 ≤ spare

module _ {roles spare room role : ℕ} {readers : List ℕ} {arrivals : List Arrival} {last : List (Option Token)} {tuples : Cache Tuple} (token : Token) (c : Coming roles spare room role readers arrivals last tuples) where
  abbrev pub more : List Arrival
  more = arrivals ++ (role, token) ∷ []

  longer : length more ≡ length arrivals + 1
  longer = length-append arrivals ((role, token) ∷ [])

  told : readers ++ role ∷ [] ≡ map (λ (a : Arrival). a.0) more
  told = ap (λ l. l ++ role ∷ []) c.visitor.told ∙ sym (map_push (λ (a : Arrival). a.0) arrivals (role, token))

  -- a message of another reader is its last one
  pub arrived_elsewhere : role ≢ 0 → IsVisitor roles (spare - 1) room (readers ++ role ∷ []) more (slice_set last role (Some token)) tuples
  arrived_elsewhere other = record {
    some = c.visitor.some;
    some_roles = c.visitor.some_roles;
    few_roles = c.visitor.few_roles;
    told = told;
    kept = c.visitor.kept ∙ ap (cache_of tuples.size) (sym (fused-push arrivals (role, token) roles ∙ ap (λ l. fused arrivals roles ++ l) nothing ∙ append-nil (fused arrivals roles)));
    four = length-set last role (Some token) ∙ c.visitor.four;
    joins = joins;
    few = omega (arith, longer, c.visitor.few, c.some);
    fits = omega (arith, longer, c.visitor.fits, c.some);
  }
    where
      nothing : added roles arrivals (role, token) ≡ []
      nothing = elim (eqb_tells role 0) [
        | inl h ↦ absurd (other h.1)
        | inr h ↦ ap (λ b. if b then option_to_list (option_map (joined token) (latest_of 1 (roles - 1) arrivals)) else []) h.0
      ]

      joins : (r : ℕ) → 1 ≤ r → r < 4 → slice_index_or (slice_set last role (Some token)) r None ≡ latest r more
      joins r from below = elim (eqb_tells role r) [
        | inl h ↦ rw (← h.1) (get_or-set_same last role (Some token) None (omega (arith, c.visitor.four, c.visitor.few_roles, c.known)))
            ∙ sym (latest-push r arrivals (role, token) ∙ ap (λ b. if b then Some token else latest r arrivals) h.0)
        | inr h ↦ get_or-set_other last role r (Some token) None (λ e. h.1 (sym e)) ∙ c.visitor.joins r from below
            ∙ sym (latest-push r arrivals (role, token) ∙ ap (λ b. if b then Some token else latest r arrivals) h.0)
      ]

-- a message of the first reader is joined with the last one of each other
pub arrived_first : {roles spare room : ℕ} {readers : List ℕ} {arrivals : List Arrival} {last : List (Option Token)} {tuples : Cache Tuple} (token : Token)
    → Coming roles spare room 0 readers arrivals last tuples
    → IsVisitor roles (spare - 1) room (readers ++ 0 ∷ []) (arrivals ++ (0, token) ∷ []) last (fills tuples (tuple_with roles token last))
arrived_first {roles = roles} {arrivals = arrivals} {last = last} {tuples = tuples} token c = record {
  some = omega (arith, c.visitor.some, sized);
  some_roles = c.visitor.some_roles;
  few_roles = c.visitor.few_roles;
  told = told token c;
  kept = ap (λ b. fills b made) c.visitor.kept ∙ cache-fills tuples.size (fused arrivals roles) made c.visitor.some
      ∙ ap (cache_of tuples.size) (sym grown) ∙ ap (λ n. cache_of n (fused (arrivals ++ (0, token) ∷ []) roles)) (sym sized);
  four = c.visitor.four;
  joins = λ r from below. c.visitor.joins r from below ∙ sym (latest-push r arrivals (0, token) ∙ other r from);
  few = omega (arith, longer token c, c.visitor.few, c.some);
  fits = omega (arith, longer token c, c.visitor.fits, c.some);
}
  where
    made : Option Tuple
    made = tuple_with roles token last

    sized : (fills tuples made).size ≡ tuples.size
    sized = size-fills tuples made

    grown : fused (arrivals ++ (0, token) ∷ []) roles ≡ fused arrivals roles ++ option_to_list made
    grown = fused-push arrivals (0, token) roles
        ∙ ap (λ o. fused arrivals roles ++ option_to_list (option_map (joined token) o))
        (sym (last_of-latest 1 (roles - 1) arrivals last (λ r a b. c.visitor.joins r a (omega (arith, b, c.visitor.few_roles, c.visitor.some_roles)))))

    other : (r : ℕ) → 1 ≤ r → (if (0 == r) then Some token else latest r arrivals) ≡ latest r arrivals
    other r from = elim (eqb_tells 0 r) [
      | inl h ↦ absurd (omega (arith, from, h.1))
      | inr h ↦ ap (λ b. if b then Some token else latest r arrivals) h.0
    ]

-- the same, as the code tells of an arrival
pub record Comes (spare room role : ℕ) (readers : List ℕ) (arrivals : List Arrival) (last : List (Option Token)) (tuples : TuplesView) (token : Token)
    (items : List ℕ) (after : ℕ) (list : List Arrival) : Type 0 where
  pub coming : Coming tuples.roles spare room role readers arrivals last tuples.cache
  pub items_are : items ≡ readers ++ role ∷ []
  pub room_is : after ≡ room
  pub list_is : list ≡ arrivals ++ (role, token) ∷ []

module _ {spare room : ℕ} {readers : List ℕ} {arrivals : List Arrival} {last : List (Option Token)} {tuples : TuplesView} {token : Token} {items : List ℕ} {after : ℕ} {list : List Arrival} where
  pub comes_elsewhere : (role : ℕ) → role ≢ 0 → Comes spare room role readers arrivals last tuples token items after list
      → IsVisitor tuples.roles (spare - 1) after items list (slice_set last role (Some token)) tuples.cache
  comes_elsewhere role other c = rw c.items_are (rw c.room_is (rw c.list_is (arrived_elsewhere token c.coming other)))

  pub comes_first : (role : ℕ) → role ≡ 0 → Comes spare room role readers arrivals last tuples token items after list → (joined : TuplesView) → joined ≡ joined_to token last tuples
      → IsVisitor joined.roles (spare - 1) after items list last joined.cache
  comes_first zero e c joined is = rw is (rw c.items_are (rw c.room_is (rw c.list_is (arrived_first token c.coming))))
  comes_first (suc role) e c joined is = absurd (omega (arith, e))

-- a visitor at which nothing arrived
pub prepared_is : (queue roles spare room : ℕ) (readers : List ℕ) (arrivals : List Arrival) (tuples : Cache Tuple) → 1 ≤ queue → 1 ≤ roles → roles ≤ 4 → spare < 2 ^ 32
    → readers ≡ [] → arrivals ≡ [] → spare ≤ room → tuples ≡ cache_of queue [] → IsVisitor roles spare room readers arrivals (None ∷ None ∷ None ∷ None ∷ []) tuples
unfolding fused
prepared_is queue roles spare room readers arrivals tuples some one four small none empty fits made =
    let sized : tuples.size ≡ queue = ap (λ (b : Cache Tuple). b.size) made in
    record {
      some = omega (arith, sized);
      some_roles = one;
      few_roles = four;
      told = none ∙ ap (map (λ (a : Arrival). a.0)) (sym empty);
      kept = made ∙ ap (λ n. cache_of n []) (sym sized) ∙ ap (λ l. cache_of tuples.size (fused l roles)) (sym empty);
      four = refl;
      joins = λ r from below. nothing r below ∙ ap (latest r) (sym empty);
      few = omega (arith, ap length empty);
      fits = omega (arith, ap length empty);
    }
  where
    no_message : Option Token
    no_message = None

    nothing : (r : ℕ) → r < 4 → slice_index_or (no_message ∷ no_message ∷ no_message ∷ no_message ∷ []) r no_message ≡ no_message
    nothing zero below = refl
    nothing (suc zero) below = refl
    nothing (suc (suc zero)) below = refl
    nothing (suc (suc (suc zero))) below = refl
    nothing (suc (suc (suc (suc r)))) below = absurd (omega arith)
