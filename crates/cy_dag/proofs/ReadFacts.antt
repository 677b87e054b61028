-- What the tests of a DAG file have found of each of its components.
use Rattle.std.proofs.Common.{ℕ, zero, suc, ◌≡◌, ◌<◌, ◌≤◌, ◌==◌, nat_lt, Bool, true, false, if◌then◌else◌, List, [], ◌∷◌, ◌++◌, length, map, take, slice_get, Option, Some, None, option_map, refl, sym, ap, ◌∙◌, arith, append_assoc, append-nil}
use Rattle.std.proofs.lemmas.Bool.{false≢true, ltb-false}
use Rattle.std.proofs.lemmas.Option.{same_Some, none-some}
use Rattle.std.specs.List.{list_any, position}
use Rattle.std.specs.Str.{bytes_eq}
use Rattle.cy_config.specs.Refusals.{first_repeated, repeated_behind}
use Rattle.cy_dag.specs.DagFile.{component_refusal, components_refusal, needed_by, refusal_behind, refuse_if}
use Rattle.cy_dag.specs.declared.dag.DagComponent.{DagComponent}
use Rattle.cy_dag.specs.declared.error.DagError.{DagError}
use Rattle.cy_dag.proofs.Found.{or_none}

pub record Accepted (earlier : List DagComponent) (c : DagComponent) : Type 0 where
  pub own_name : position (λ e. bytes_eq e.name c.name) earlier ≡ None
  pub some_reader : 1 ≤ length c.readers
  pub few_readers : length c.readers ≤ 4
  pub own_readers : first_repeated (map (λ r. r.channel) c.readers) ≡ None
  pub needed : needed_by c.class_name ≤ length c.readers

pub refuse_none : (b : Bool) (e : DagError) → refuse_if b e ≡ None → b ≡ false
refuse_none true e h = absurd (none-some e (sym h))
refuse_none false e h = refl

pub unmapped : {A B : Type 0} (f : A → B) (o : Option A) → option_map f o ≡ None → o ≡ None
unmapped f None h = refl
unmapped f (Some a) h = absurd (none-some (f a) (sym h))

pub some_where : (n : ℕ) → (n == 0) ≡ false → 1 ≤ n
some_where zero h = absurd (false≢true (sym h))
some_where (suc n) h = omega arith

pub accepted : (earlier : List DagComponent) (c : DagComponent) → component_refusal earlier c ≡ None → Accepted earlier c
accepted earlier c h =
    let all = or_none _ _ h in
    let named = or_none _ _ all.0 in
    let owned = or_none _ _ named.1 in
    let rest = or_none _ _ all.1 in
    let some = or_none _ _ rest.0 in
    let few = or_none _ _ some.1 in
    let filled = or_none _ _ few.1 in
    let apart = or_none _ _ filled.1 in
    let needs = or_none _ _ rest.1 in
    record {
      own_name = unmapped _ (position (λ e. bytes_eq e.name c.name) earlier) owned.0;
      some_reader = some_where (length c.readers) (refuse_none (length c.readers == 0) _ some.0);
      few_readers = ltb-false 4 (length c.readers) (refuse_none (nat_lt 4 (length c.readers)) _ few.0);
      own_readers = unmapped _ (first_repeated (map (λ r. r.channel) c.readers)) apart.0;
      needed = ltb-false (length c.readers) (needed_by c.class_name) (refuse_none (nat_lt (length c.readers) (needed_by c.class_name)) _ needs.0);
    }

behind_each : (earlier cs : List DagComponent) (i : ℕ) (c : DagComponent) → refusal_behind earlier cs ≡ None → slice_get cs i ≡ Some c → component_refusal (earlier ++ take i cs) c ≡ None
behind_each earlier [] i c h at = absurd (none-some c at)
behind_each earlier (d ∷ ds) zero c h at =
    let both = or_none _ _ h in
    ap (component_refusal (earlier ++ [])) (sym (same_Some d c at)) ∙ ap (λ (e : List DagComponent). component_refusal e d) (append-nil earlier) ∙ both.0
behind_each earlier (d ∷ ds) (suc i) c h at =
    let both = or_none _ _ h in
    ap (λ (e : List DagComponent). component_refusal e c) (sym (append_assoc earlier (d ∷ []) (take i ds))) ∙ behind_each (earlier ++ d ∷ []) ds i c both.1 at

pub each_accepted : (cs : List DagComponent) (i : ℕ) (c : DagComponent) → components_refusal cs ≡ None → slice_get cs i ≡ Some c → Accepted (take i cs) c
each_accepted cs i c h at = accepted (take i cs) c (behind_each [] cs i c h at)

-- No name stands before itself where none is repeated.
if_none : {A : Type 0} (b : Bool) (x : A) (r : Option A) → (if b then Some x else r) ≡ None → (b ≡ false) × (r ≡ None)
if_none true x r h = absurd (none-some x (sym h))
if_none false x r h = (refl, h)

once_behind : (before names : List (List ℕ)) (j : ℕ) (x : List ℕ) → repeated_behind before names ≡ None → slice_get names j ≡ Some x → list_any (λ n. bytes_eq n x) (before ++ take j names) ≡ false
once_behind before [] j x h at = absurd (none-some x at)
once_behind before (y ∷ ys) zero x h at =
    ap (λ (z : List ℕ). list_any (λ n. bytes_eq n z) (before ++ [])) (sym (same_Some y x at)) ∙ ap (list_any (λ n. bytes_eq n y)) (append-nil before) ∙ (if_none _ _ _ h).0
once_behind before (y ∷ ys) (suc j) x h at =
    ap (list_any (λ n. bytes_eq n x)) (sym (append_assoc before (y ∷ []) (take j ys))) ∙ once_behind (before ++ y ∷ []) ys j x (if_none _ _ _ h).1 at

pub once_each : (names : List (List ℕ)) (j : ℕ) (x : List ℕ) → first_repeated names ≡ None → slice_get names j ≡ Some x → list_any (λ n. bytes_eq n x) (take j names) ≡ false
once_each names j x h at = once_behind [] names j x h at

-- What stands before a place.
pub take_at : {A : Type 0} (xs : List A) (i j : ℕ) → i < j → slice_get (take j xs) i ≡ slice_get xs i
take_at [] i zero p = absurd (omega arith)
take_at [] i (suc j) p = refl
take_at (x ∷ xs) i zero p = absurd (omega arith)
take_at (x ∷ xs) zero (suc j) p = refl
take_at (x ∷ xs) (suc i) (suc j) p = take_at xs i j (omega arith)
