-- The components of all contexts are all components.
use Rattle.std.proofs.Common.{ℕ, zero, suc, ◌≡◌, ◌+◌, ◌<◌, ◌≤◌, ◌==◌, nat_lt, nat_le, Bool, true, false, not, cond, ◌&&◌, ◌||◌, if◌then◌else◌, List, [], ◌∷◌, ◌++◌, length, map, take, get_or, slice_get, Option, Some, None, unwrap_or, option_map, sum_by, refl, sym, ap, ◌∙◌, inl, inr, arith, add-one, append-nil}
use Rattle.std.specs.List.{All, filter}
use Rattle.std.specs.List.Sorted.{IsPermutation, IsSorted}
use Rattle.std.specs.Ordering.{is_lt, nat_cmp, ordering_then}
use Rattle.std.specs.declared.cmp.Reverse.{Reverse}
use Rattle.std.proofs.lemmas.Bool.{true≢false, lt-ltb, le-ltb, le-leb, eq-eqb, ne_eqb, cases_order, cases_lt, or_right}
use Rattle.std.proofs.lemmas.List.{map-append, take_more, take_all, get_or_default}
use Rattle.std.proofs.lemmas.List.Elements.{filter-append, filter_agree, All-push}
use Rattle.std.proofs.lemmas.List.Sums.{sum_by-cons, sum_by-append}
use Rattle.std.proofs.lemmas.List.Sorted.{All-permutation, IsPermutation-refl, IsPermutation-trans, IsPermutation-append, IsPermutation-filter_both, IsPermutation-map, sum_by-IsPermutation}
use Rattle.std.proofs.lemmas.Grind.{flat_map-append}
use Rattle.std.proofs.lemmas.Option.{same_Some, none-some, slice_get-map, slice_get_within, slice_get-get_or, get_or_from_slice_get}
use Rattle.cy_msg.specs.Once.{IsOnce}
use Rattle.cy_msg.specs.Placement.{scan_of}
use Rattle.cy_msg.specs.declared.placement.ContextPlan.{ContextPlan}
use Rattle.cy_sched.specs.Placing.{HaveOrders, IsOrder, home_in, in_group, is_before, is_member, members_of, numbers_below}
use Rattle.cy_sched.specs.private.Ranks.{HaveRanks}
use Rattle.cy_sched.specs.declared.home.Home.{Home}

-- Elements that pass a test twice.
filter_twice : {A : Type 0} (p q : A → Bool) (xs : List A) → filter p (filter q xs) ≡ filter (λ x. q x && p x) xs
filter_twice p q [] = refl
filter_twice {A} p q (x ∷ xs) = by_test (q x) (p x) (filter_twice p q xs)
  where
    by_test : (b c : Bool) → filter p (filter q xs) ≡ filter (λ x. q x && p x) xs
        → filter p (cond b (x ∷ filter q xs) (filter q xs)) ≡ cond (b && p x) (x ∷ filter (λ x. q x && p x) xs) (filter (λ x. q x && p x) xs)
    by_test true c same = ap (λ (r : List A). cond (p x) (x ∷ r) r) same
    by_test false c same = same

filter_never : {A : Type 0} (p : A → Bool) (xs : List A) → ((x : A) → p x ≡ false) → filter p xs ≡ []
filter_never p [] none = refl
filter_never p (x ∷ xs) none = rw (none x) (filter_never p xs none)

module _ (f : ℕ → ℕ) where
  below_both : (k x : ℕ) → (nat_lt (f x) (suc k) && nat_lt (f x) k) ≡ nat_lt (f x) k
  below_both k x = elim (cases_lt (f x) k) [
    | inl less ↦ rw (lt-ltb (f x) k less, lt-ltb (f x) (suc k) (omega arith)) refl
    | inr more ↦ rw (le-ltb (f x) k more) (and_false (nat_lt (f x) (suc k)))
  ]
    where
      and_false : (b : Bool) → (b && false) ≡ false
      and_false true = refl
      and_false false = refl

  below_last : (k x : ℕ) → (nat_lt (f x) (suc k) && not (nat_lt (f x) k)) ≡ (f x == k)
  below_last k x = elim (cases_order (f x) k) [
    | inl same ↦ rw (le-ltb (f x) k (omega arith), lt-ltb (f x) (suc k) (omega arith), eq-eqb (f x) k same) refl
    | inr unlike ↦ elim unlike [
      | inl less ↦ rw (lt-ltb (f x) k less, lt-ltb (f x) (suc k) (omega arith), ne_eqb (f x) k (λ e. absurd (omega arith))) refl
      | inr more ↦ rw (le-ltb (f x) k (omega arith), le-ltb (f x) (suc k) (omega arith), ne_eqb (f x) k (λ e. absurd (omega arith))) refl
    ]
  ]

  -- The elements of one group after another.
  abbrev grouped : List ℕ → ℕ → List ℕ
  grouped xs zero = []
  grouped xs (suc k) = grouped xs k ++ filter (λ x. f x == k) xs

  parted : (xs : List ℕ) (k : ℕ) → IsPermutation (filter (λ x. nat_lt (f x) k) xs) (grouped xs k)
  parted xs zero = rw (filter_never (λ x. nat_lt (f x) 0) xs (λ x. le-ltb (f x) 0 (omega arith))) (IsPermutation-refl [])
  parted xs (suc k) =
      let lower = λ (x : ℕ). nat_lt (f x) k in
      let upper = λ (x : ℕ). nat_lt (f x) (suc k) in
      let both = IsPermutation-filter_both lower (λ x. not (lower x)) (λ x. refl) (filter upper xs) in
      let front : filter lower (filter upper xs) ≡ filter lower xs = filter_twice lower upper xs ∙ filter_agree (λ x. upper x && lower x) lower (below_both k) xs in
      let back : filter (λ x. not (lower x)) (filter upper xs) ≡ filter (λ x. f x == k) xs = filter_twice (λ x. not (lower x)) upper xs ∙ filter_agree (λ x. upper x && not (lower x)) (λ x. f x == k) (below_last k) xs in
      IsPermutation-trans _ _ _ (rw (front, back) at both) (IsPermutation-append _ _ _ _ (parted xs k) (IsPermutation-refl (filter (λ x. f x == k) xs)))

  all_pass : (n k : ℕ) → ((x : ℕ) → x < n → f x < k) → filter (λ x. nat_lt (f x) k) (numbers_below n) ≡ numbers_below n
  all_pass zero k small = refl
  all_pass (suc n) k small =
      filter-append (λ x. nat_lt (f x) k) (numbers_below n) (n ∷ [])
      ∙ rw (all_pass n k (λ x p. small x (omega arith)), lt-ltb (f n) k (small n (omega arith))) refl

  pub all_grouped : (n k : ℕ) → ((x : ℕ) → x < n → f x < k) → IsPermutation (numbers_below n) (grouped (numbers_below n) k)
  all_grouped n k small = rw (all_pass n k small) at (parted (numbers_below n) k)

-- What the orders of contexts hold.
ordered : (homes : List Home) (contexts : List ContextPlan) (k : ℕ) → k ≤ length contexts → HaveOrders homes contexts
    → IsPermutation (grouped (λ c. (home_in homes c).context) (numbers_below (length homes)) k) (scan_of (take k contexts))
ordered homes contexts zero few orders = IsPermutation-refl []
ordered homes [] (suc k) few orders = absurd (omega arith)
ordered homes (d ∷ ds) (suc k) few orders =
    let contexts = d ∷ ds in
    let plan = get_or contexts k d in
    let here = slice_get-get_or contexts k d (omega arith) in
    let more : scan_of (take (suc k) contexts) ≡ scan_of (take k contexts) ++ plan.order =
    ap (λ (n : ℕ). scan_of (take n contexts)) (sym (add-one k)) ∙ ap scan_of (take_more contexts k d (omega arith)) ∙ flat_map-append (λ (c : ContextPlan). c.order) (take k contexts) (plan ∷ [])
    ∙ ap (λ (xs : List ℕ). scan_of (take k contexts) ++ xs) (append-nil plan.order) in
    rw more (IsPermutation-append _ _ _ _ (ordered homes contexts k (omega arith) orders) (orders k plan here).members)

pub scan_is : (homes : List Home) (contexts : List ContextPlan) → HaveOrders homes contexts → ((c : ℕ) → c < length homes → (home_in homes c).context < length contexts)
    → IsPermutation (numbers_below (length homes)) (scan_of contexts)
scan_is homes contexts orders within =
    let parts = ordered homes contexts (length contexts) (omega arith) orders in
    IsPermutation-trans _ _ _ (all_grouped (λ c. (home_in homes c).context) (length homes) (length contexts) within) (rw (take_all (length contexts) contexts (omega arith)) at parts)

-- No component stands twice among them.
abbrev is_one : ℕ → ℕ → ℕ
is_one c x = if x == c then 1 else 0

above_none : (n c : ℕ) → n ≤ c → sum_by (is_one c) (numbers_below n) ≡ 0
above_none zero c above = refl
above_none (suc n) c above =
    omega (
      arith,
      sum_by-append (is_one c) (numbers_below n) (n ∷ []),
      above_none n c (omega arith),
      sum_by-cons (is_one c) n [],
      ap {B = ℕ} (λ (b : Bool). if b then 1 else 0) (ne_eqb n c (λ e. absurd (omega arith))),
    )

at_most_one : (n c : ℕ) → sum_by (is_one c) (numbers_below n) ≤ 1
at_most_one zero c = omega arith
at_most_one (suc n) c = elim (cases_order n c) [
  | inl same ↦ omega (arith, sum_by-append (is_one c) (numbers_below n) (n ∷ []), above_none n c (omega arith), sum_by-cons (is_one c) n [], ap {B = ℕ} (λ (b : Bool). if b then 1 else 0) (eq-eqb n c same))
  | inr unlike ↦ omega (
    arith,
    sum_by-append (is_one c) (numbers_below n) (n ∷ []),
    at_most_one n c,
    sum_by-cons (is_one c) n [],
    ap {B = ℕ} (λ (b : Bool). if b then 1 else 0) (ne_eqb n c (λ e. elim unlike [ inl less ↦ absurd (omega arith) | inr more ↦ absurd (omega arith) ])),
  )
]

once_there : (xs : List ℕ) (n c : ℕ) → slice_get xs n ≡ Some c → 1 ≤ sum_by (is_one c) xs
once_there [] n c at = absurd (none-some c at)
once_there (x ∷ xs) zero c at = omega (arith, sum_by-cons (is_one c) x xs, ap {B = ℕ} (λ (b : Bool). if b then 1 else 0) (eq-eqb x c (same_Some x c at)))
once_there (x ∷ xs) (suc n) c at = omega (arith, sum_by-cons (is_one c) x xs, once_there xs n c at)

twice_there : (xs : List ℕ) (m n c : ℕ) → m < n → slice_get xs m ≡ Some c → slice_get xs n ≡ Some c → 2 ≤ sum_by (is_one c) xs
twice_there xs m zero c less p q = absurd (omega arith)
twice_there [] m (suc n) c less p q = absurd (none-some c p)
twice_there (x ∷ xs) zero (suc n) c less p q = omega (arith, sum_by-cons (is_one c) x xs, ap {B = ℕ} (λ (b : Bool). if b then 1 else 0) (eq-eqb x c (same_Some x c p)), once_there xs n c q)
twice_there (x ∷ xs) (suc m) (suc n) c less p q = omega (arith, sum_by-cons (is_one c) x xs, twice_there xs m n c (omega arith) p q)

pub scan_once : (n : ℕ) (xs : List ℕ) → IsPermutation (numbers_below n) xs → IsOnce xs
scan_once n xs perm = λ i j c p q.
    let few : sum_by (is_one c) xs ≤ 1 = omega (arith, at_most_one n c, sum_by-IsPermutation (is_one c) (numbers_below n) xs perm) in
    elim (cases_order i j) [
      | inl same ↦ same
      | inr unlike ↦ elim unlike [
        | inl less ↦ absurd (omega (arith, few, twice_there xs i j c less p q))
        | inr more ↦ absurd (omega (arith, few, twice_there xs j i c more q p))
      ]
    ]

-- What sorting by rank gives.
no_later : (c d : ℕ) → is_lt (nat_cmp d c) ≡ false → c ≤ d
no_later c d h = elim (cases_lt d c) [
  | inl less ↦ absurd (true≢false (rw (lt-ltb d c less) at h))
  | inr more ↦ more
]

before_is : (p q c d : ℕ) → is_lt (ordering_then (nat_cmp p q) (nat_cmp d c)) ≡ false → (nat_lt q p || (p == q && nat_le c d)) ≡ true
before_is p q c d h = elim (cases_order p q) [
  | inl same ↦
      let h1 = rw (le-ltb p q (omega arith), eq-eqb p q same) at h in
      rw (eq-eqb p q same, le-leb c d (no_later c d h1)) (or_right (nat_lt q p) true refl)
  | inr unlike ↦ elim unlike [
    | inl less ↦ absurd (true≢false (rw (lt-ltb p q less) at h))
    | inr more ↦ rw (lt-ltb q p more) refl
  ]
]

abbrev tested : ℕ → ℕ → ℕ → ℕ → Bool
tested p q a b = nat_lt q p || (p == q && nat_le a b)

before_at : (homes : List Home) (c d p q a b : ℕ) → p ≡ (home_in homes c).priority → q ≡ (home_in homes d).priority → a ≡ c → b ≡ d → tested p q a b ≡ true → is_before homes c d ≡ true
before_at homes c d p q a b low high first second h =
    let m = (home_in homes c).priority in
    let n = (home_in homes d).priority in
    sym (ap (λ (v : ℕ). tested v q a b) low ∙ ap (λ (v : ℕ). tested m v a b) high ∙ ap (λ (v : ℕ). tested m n v b) first ∙ ap (λ (v : ℕ). tested m n c v) second) ∙ h

pub order_is : (homes : List Home) (context : ℕ) (ranks sorted : List (Reverse ℕ × ℕ)) (order : List ℕ) → map (λ r. r.1) ranks ≡ members_of homes context → HaveRanks homes ranks
    → IsPermutation ranks sorted → IsSorted (λ x y. ordering_then (nat_cmp y.0.0 x.0.0) (nat_cmp x.1 y.1)) sorted → order ≡ map (λ r. r.1) sorted → IsOrder homes context order
order_is homes context ranks sorted order members kept perm rising is = record {
  members = rw is (rw members at (IsPermutation-map (λ (r : Reverse ℕ × ℕ). r.1) ranks sorted perm));
  falling = λ k c d p q. falls k c d (ap (λ (xs : List ℕ). slice_get xs k) (sym is) ∙ p) (ap (λ (xs : List ℕ). slice_get xs (k + 1)) (sym is) ∙ q);
}
  where
    ranked : All (λ r. r.0.0 ≡ (home_in homes r.1).priority) sorted
    ranked = All-permutation (λ (r : Reverse ℕ × ℕ). r.0.0 ≡ (home_in homes r.1).priority) ranks sorted perm kept

    at_rank : (k c : ℕ) → slice_get (map (λ (r : Reverse ℕ × ℕ). r.1) sorted) k ≡ Some c → (r : Reverse ℕ × ℕ) × (k < length sorted) × (get_or sorted k r ≡ r) × (r.1 ≡ c)
    at_rank k c at = found (slice_get sorted k) refl (sym (slice_get-map (λ (r : Reverse ℕ × ℕ). r.1) sorted k) ∙ at)
      where
        found : (o : Option (Reverse ℕ × ℕ)) → slice_get sorted k ≡ o → option_map (λ (r : Reverse ℕ × ℕ). r.1) o ≡ Some c
            → (r : Reverse ℕ × ℕ) × (k < length sorted) × (get_or sorted k r ≡ r) × (r.1 ≡ c)
        found None here e = absurd (none-some c e)
        found (Some r) here e = (r, slice_get_within sorted k r here, get_or_from_slice_get sorted k r r here, same_Some r.1 c e)

    falls : (k c d : ℕ) → slice_get (map (λ (r : Reverse ℕ × ℕ). r.1) sorted) k ≡ Some c → slice_get (map (λ (r : Reverse ℕ × ℕ). r.1) sorted) (k + 1) ≡ Some d → is_before homes c d ≡ true
    falls k c d p q =
        let x = at_rank k c p in
        let y = at_rank (k + 1) d q in
        let here : get_or sorted k y.0 ≡ x.0 = get_or_default sorted k y.0 x.0 x.1 ∙ x.2 in
        let low : x.0.0.0 ≡ (home_in homes c).priority = rw (x.2, x.3) at (ranked k x.0 x.1) in
        let high : y.0.0.0 ≡ (home_in homes d).priority = rw (y.2, y.3) at (ranked (k + 1) y.0 y.1) in
        let step = rising k y.0 (omega arith) y.1 in
        before_at homes c d x.0.0.0 y.0.0.0 x.0.1 y.0.1 low high x.3 y.3 (before_is x.0.0.0 y.0.0.0 x.0.1 y.0.1 (rw (here, y.2) at step))

-- One component more.
home_is : (homes : List Home) (component : ℕ) (d : Home) → component < length homes → home_in homes component ≡ get_or homes component d
home_is homes component d there = ap (λ (o : Option Home). unwrap_or o (in_group 0 0)) (slice_get-get_or homes component d there)

pub members_push : (homes : List Home) (context component : ℕ) (ranks after : List (Reverse ℕ × ℕ)) (rank : Reverse ℕ × ℕ) (d : Home) → component < length homes → (get_or homes component d).context ≡ context
    → rank.1 ≡ component → after ≡ ranks ++ rank ∷ [] → map (λ r. r.1) after ≡ map (λ r. r.1) ranks ++ filter (is_member homes context) (component ∷ [])
members_push homes context component ranks after rank d there is number pushed =
    let member : is_member homes context component ≡ true = ap (λ (x : Home). x.context == context) (home_is homes component d there) ∙ eq-eqb (get_or homes component d).context context is in
    rw (pushed, member, map-append (λ (r : Reverse ℕ × ℕ). r.1) ranks (rank ∷ []), number) refl

pub ranks_push : (homes : List Home) (component : ℕ) (ranks after : List (Reverse ℕ × ℕ)) (rank : Reverse ℕ × ℕ) (d : Home) → component < length homes
    → rank.1 ≡ component → rank.0.0 ≡ (get_or homes component d).priority → after ≡ ranks ++ rank ∷ [] → HaveRanks homes ranks → HaveRanks homes after
ranks_push homes component ranks after rank d there number priority pushed have =
    let right : rank.0.0 ≡ (home_in homes rank.1).priority = priority ∙ sym (ap (λ (x : Home). x.priority) (ap (home_in homes) number ∙ home_is homes component d there)) in
    rw pushed (All-push (λ (r : Reverse ℕ × ℕ). r.0.0 ≡ (home_in homes r.1).priority) ranks rank have right)

-- One component more.
pub members_more : (homes : List Home) (context component : ℕ) (ranks after : List (Reverse ℕ × ℕ)) → map (λ r. r.1) ranks ≡ filter (is_member homes context) (numbers_below component)
    → map (λ r. r.1) after ≡ map (λ r. r.1) ranks ++ filter (is_member homes context) (component ∷ []) → map (λ r. r.1) after ≡ filter (is_member homes context) (numbers_below (component + 1))
members_more homes context component ranks after before pushed =
    let member = is_member homes context in
    pushed ∙ ap (λ (ns : List ℕ). ns ++ filter member (component ∷ [])) before
    ∙ sym (ap (λ (k : ℕ). filter member (numbers_below k)) (add-one component) ∙ filter-append member (numbers_below component) (component ∷ []))
