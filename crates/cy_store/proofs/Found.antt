-- What the entries of a map say, as the files that they stand for.
use Rattle.std.proofs.Common.{◌≡◌, ℕ, List, [], ◌∷◌, Option, Some, Bool, true, false, cond, map, refl, sym, ap, ◌∙◌, String, Vec, string_bytes}
use Rattle.std.specs.Option.{option_map}
use Rattle.std.specs.declared.cmp.Ordering.{Ordering}
use Rattle.std.specs.declared.cmp.Ordering.TheVariants.{Less, Equal, Greater}
use Rattle.std.specs.Ordering.{nat_cmp, is_eq, eq_by_cmp}
use Rattle.std.specs.Cmp.Lexicographic.{slice_cmp, nat_list_cmp_total}
use Rattle.std.specs.FinMap.{find, get, insert, from_entries, get-from_entries, get-insert, get_tied, same_map, nat_cmp-IsAntisymmetric, slice_cmp-IsAntisymmetric}
use Rattle.std.specs.BTreeMap.{BTreeMap, is_at, get_by_text, Updates}
use Rattle.std.specs.Cmp.{eq_by_cmp_equiv, nat_cmp_total}
use Rattle.std.specs.Str.{bytes_eq}
use Rattle.std.proofs.lemmas.Map.Text.{is_eq-slice_cmp}
use Rattle.std.specs.Map.{lookup, update}
use Rattle.cy_store.specs.Files.{Files}
use Rattle.cy_store.specs.Write.{written_at}
use Rattle.cy_store.specs.Memory.{files_of, put_over}

option_map-cond : {X Y : Type 0} (f : X → Y) (b : Bool) (x y : Option X) → option_map f (cond b x y) ≡ cond b (option_map f x) (option_map f y)
option_map-cond f true x y = refl
option_map-cond f false x y = refl

find_text : {Y Z : Type 0} (es : List (String Y × Vec ℕ Z)) (q : List ℕ) → find (slice_cmp nat_cmp) q (map (λ e. (string_bytes e.0, e.1.items)) es) ≡ option_map (λ v. v.items) (lookup (is_at (λ k. slice_cmp nat_cmp q (string_bytes k))) es)
find_text [] q = refl
find_text (e ∷ es) q =
    let here = is_at (λ k. slice_cmp nat_cmp q (string_bytes k)) e.0 in
    let below = lookup (is_at (λ k. slice_cmp nat_cmp q (string_bytes k))) es in
    ap (cond here (Some e.1.items)) (find_text es q) ∙ sym (option_map-cond (λ v. v.items) here (Some e.1) below)

-- what the files have under a name
pub get_files : {Y Z : Type 0} (es : List (String Y × Vec ℕ Z)) (q : List ℕ) → get (files_of es) q ≡ option_map (λ v. v.items) (lookup (is_at (λ k. slice_cmp nat_cmp q (string_bytes k))) es)
get_files es q = get-from_entries nat_list_cmp_total (map (λ e. (string_bytes e.0, e.1.items)) es) q ∙ find_text es q

-- a file that a look-up in the map found
pub files_found : {Y Z : Type 0} (m : BTreeMap (String Y) (Vec ℕ Z)) (q : List ℕ) (v : Vec ℕ Z) → Some v ≡ get_by_text m q → get (files_of m.entries) q ≡ Some v.items
files_found m q v e = get_files m.entries q ∙ ap (option_map (λ v. v.items)) (sym e)

-- a map with one file set
pub files_of-insert : {Y Z : Type 0} (m n : BTreeMap (String Y) (Vec ℕ Z)) (name : List ℕ) (v : Vec ℕ Z) → ((q : List ℕ) → get_by_text n q ≡ update bytes_eq (get_by_text m) name (Some v) q)
    → files_of n.entries ≡ insert (files_of m.entries) name v.items
files_of-insert m n name v h = same_map nat_list_cmp_total (slice_cmp-IsAntisymmetric nat_cmp-IsAntisymmetric) (files_of n.entries) (insert (files_of m.entries) name v.items) (λ q.
    let R = slice_cmp nat_cmp in
    let same : bytes_eq name q ≡ eq_by_cmp R q name = sym (is_eq-slice_cmp name q) ∙ (eq_by_cmp_equiv nat_list_cmp_total).symm name q in
    get_files n.entries q
    ∙ ap (option_map (λ v. v.items)) (h q)
    ∙ option_map-cond (λ v. v.items) (bytes_eq name q) (Some v) (get_by_text m q)
    ∙ ap (λ (b : Bool). cond b (Some v.items) (option_map (λ v. v.items) (get_by_text m q))) same
    ∙ ap (cond (eq_by_cmp R q name) (Some v.items)) (sym (get_files m.entries q))
    ∙ sym (get-insert nat_list_cmp_total (files_of m.entries) name v.items q))

equal_of : (r : Ordering) → is_eq r ≡ true → r ≡ Equal
equal_of Less e = cc
equal_of Equal e = refl
equal_of Greater e = cc

cond_tied : {X : Type 0} (b : Bool) (x y : X) → (b ≡ true → y ≡ x) → cond b x y ≡ y
cond_tied true x y h = sym (h refl)
cond_tied false x y h = refl

-- to set what a name has already changes nothing
pub insert_same : (m : Files) (name bytes : List ℕ) → get m name ≡ Some bytes → insert m name bytes ≡ m
insert_same m name bytes e =
    let R = slice_cmp nat_cmp in
    let o = nat_list_cmp_total in
    same_map o (slice_cmp-IsAntisymmetric nat_cmp-IsAntisymmetric) (insert m name bytes) m (λ q.
    get-insert o m name bytes q
    ∙ cond_tied (eq_by_cmp R q name) (Some bytes) (get m q) (λ t. sym (get_tied o m q name (equal_of (R q name) t)) ∙ e))

-- a put over a file that is there
pub put_over-found : (m n : Files) (name before after : List ℕ) (at : ℕ) (bytes : List ℕ) → get m name ≡ Some before → n ≡ insert m name after
    → after ≡ written_at before at bytes → n ≡ put_over name at bytes m
put_over-found m n name before after at bytes there is made = rw there (is ∙ ap (insert m name) made)

-- a file that was left as it was
pub insert-unchanged : (m n : Files) (name before after : List ℕ) → get m name ≡ Some before → n ≡ insert m name after → after ≡ before → n ≡ m
insert-unchanged m n name before after there is same = is ∙ ap (insert m name) same ∙ insert_same m name before there

find_plan : (es : List (ℕ × ℕ)) (q : ℕ) → find nat_cmp q es ≡ lookup (is_at (nat_cmp q)) es
find_plan [] q = refl
find_plan (e ∷ es) q = ap (cond (is_at (nat_cmp q) e.0) (Some e.1)) (find_plan es q)

-- the plan for a number
pub get_plans : (es : List (ℕ × ℕ)) (q : ℕ) → get (from_entries {R = nat_cmp} es) q ≡ lookup (is_at (nat_cmp q)) es
get_plans es q = get-from_entries nat_cmp_total es q ∙ find_plan es q

-- plans with one more
pub plans-insert : (m n : BTreeMap ℕ ℕ) (k v : ℕ) → Updates nat_cmp m n k (Some v) → from_entries {R = nat_cmp} n.entries ≡ insert (from_entries {R = nat_cmp} m.entries) k v
plans-insert m n k v h = same_map nat_cmp_total nat_cmp-IsAntisymmetric (from_entries n.entries) (insert (from_entries m.entries) k v) (λ q.
    get_plans n.entries q
    ∙ h.0 q
    ∙ ap (λ (b : Bool). cond b (Some v) (lookup (is_at (nat_cmp q)) m.entries)) ((eq_by_cmp_equiv nat_cmp_total).symm k q)
    ∙ ap (cond (eq_by_cmp nat_cmp q k) (Some v)) (sym (get_plans m.entries q))
    ∙ sym (get-insert nat_cmp_total (from_entries m.entries) k v q))
