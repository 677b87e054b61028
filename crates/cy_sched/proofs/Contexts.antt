-- The contexts of a placement, one by one, and what they come to.
use Rattle.std.proofs.Common.{ℕ, zero, suc, ℤ, pos, negsuc, ◌≡◌, ◌+◌, ◌<◌, ◌≤◌, ◌⊎◌, nat_lt, Bool, true, false, if◌then◌else◌, List, [], ◌∷◌, ◌++◌, length, map, take, get_or, slice_get, codes, Option, Some, None, unwrap_or, option_map, option_and_then, sum_by, refl, sym, ap, subst, ◌∙◌, inl, inr, arith, add-one}
use Rattle.std.specs.Option.{option_or}
use Rattle.std.specs.List.Sorted.{IsPermutation}
use Rattle.std.proofs.lemmas.Bool.{ltb-true}
use Rattle.std.proofs.lemmas.List.{length-map, length-append, length-take-le, map-append, take_more}
use Rattle.std.proofs.lemmas.List.Sums.{sum_by-cons, sum_by-append}
use Rattle.std.proofs.lemmas.Option.{same_Some, none-some, slice_get-map, slice_get-get_or}
use Rattle.cy_msg.specs.Once.{IsOnce}
use Rattle.cy_msg.specs.Placement.{scan_of, processors_of}
use Rattle.cy_msg.specs.declared.placement.ContextPlan.{ContextPlan}
use Rattle.cy_sched.specs.Placing.{HaveOrders, Head, IsOrder, IsPlaced, choreography_home, classic_home, group_head, group_home, head_of, heads_of, home_at, home_in, home_of, homes_of, in_group, is_named, last_found, last_priority, numbers_below, pin_home, pinned_head}
use Rattle.cy_sched.specs.SchedFile.{IsPlaceable}
use Rattle.cy_sched.specs.declared.home.Home.{Home}
use Rattle.cy_sched.specs.declared.sched.Group.{Group}
use Rattle.cy_sched.specs.declared.sched.PinTask.{PinTask}
use Rattle.cy_sched.specs.declared.sched.Sched.{Sched}
use Rattle.cy_sched.specs.declared.sched.Sched.TheVariants.{Classic, Choreography}
use Rattle.cy_sched.proofs.Scans.{scan_is, scan_once}

-- One context more.
end_or_before : {A : Type 0} (xs : List A) (y : A) (n : ℕ) (z : A) → slice_get (xs ++ y ∷ []) n ≡ Some z → (slice_get xs n ≡ Some z) ⊎ ((n ≡ length xs) × (y ≡ z))
end_or_before [] y zero z at = inr (refl, same_Some y z at)
end_or_before [] y (suc n) z at = absurd (none-some z at)
end_or_before (x ∷ xs) y zero z at = inl at
end_or_before (x ∷ xs) y (suc n) z at = elim (end_or_before xs y n z at) [ inl before ↦ inl before | inr end ↦ inr (ap suc end.0, end.1) ]

orders_push : (homes : List Home) (contexts : List ContextPlan) (plan : ContextPlan) → HaveOrders homes contexts → IsOrder homes (length contexts) plan.order → HaveOrders homes (contexts ++ plan ∷ [])
orders_push homes contexts plan orders order = λ k other at.
    elim (end_or_before contexts plan k other at) [
      | inl before ↦ orders k other before
      | inr end ↦ subst (λ (m : ℕ). IsOrder homes m other.order) (sym end.0) (subst (λ (p : ContextPlan). IsOrder homes (length contexts) p.order) end.1 order)
    ]

heads_long : (contexts : List ContextPlan) (heads : List Head) → map head_of contexts ≡ heads → length contexts ≡ length heads
heads_long contexts heads is = sym (length-map contexts head_of) ∙ ap (λ (hs : List Head). length hs) is

pub pushed_heads : (contexts after : List ContextPlan) (heads : List Head) (plan : ContextPlan) (head : Head) → map head_of contexts ≡ heads → head_of plan ≡ head → after ≡ contexts ++ plan ∷ []
    → map head_of after ≡ heads ++ head ∷ []
pushed_heads contexts after heads plan head is made pushed = rw (pushed, map-append head_of contexts (plan ∷ []), is, made) refl

pub pushed_orders : (homes : List Home) (contexts after : List ContextPlan) (heads : List Head) (plan : ContextPlan) (n : ℕ) → map head_of contexts ≡ heads → length heads ≡ n → HaveOrders homes contexts
    → IsOrder homes n plan.order → after ≡ contexts ++ plan ∷ [] → HaveOrders homes after
pushed_orders homes contexts after heads plan n is long orders order pushed =
    let e : n ≡ length contexts = sym (heads_long contexts heads is ∙ long) in
    rw pushed (orders_push homes contexts plan orders (subst (λ (m : ℕ). IsOrder homes m plan.order) e order))

pub groups_more : (groups : List Group) (i : ℕ) (g : Group) → i < length groups → g ≡ get_or groups i g → map group_head (take (i + 1) groups) ≡ map group_head (take i groups) ++ group_head g ∷ []
groups_more groups i g below here =
    ap (map group_head) (take_more groups i g below ∙ ap (λ (x : Group). take i groups ++ x ∷ []) (sym here)) ∙ map-append group_head (take i groups) (g ∷ [])

pub groups_long : (groups : List Group) (i : ℕ) → i < length groups → length (map group_head (take i groups)) ≡ i
groups_long groups i below = length-map (take i groups) group_head ∙ length-take-le i groups (omega arith)

numbers_long : (n : ℕ) → length (numbers_below n) ≡ n
numbers_long zero = refl
numbers_long (suc n) = omega (arith, length-append (numbers_below n) (n ∷ []), numbers_long n)

pub pinned_long : (n : ℕ) → length (map pinned_head (numbers_below n)) ≡ n
pinned_long n = length-map (numbers_below n) pinned_head ∙ numbers_long n

-- The home of a component is one of the contexts.
last_below : {A : Type 0} (given : ℕ → Option A) (n : ℕ) (x : A) → last_found given n ≡ Some x → (k : ℕ) × (k < n) × (given k ≡ Some x)
last_below given zero x h = absurd (none-some x h)
last_below {A} given (suc n) x h = by_last (given n) refl h (last_below given n x)
  where
    by_last : (o : Option A) → given n ≡ o → option_or o (last_found given n) ≡ Some x → (last_found given n ≡ Some x → (k : ℕ) × (k < n) × (given k ≡ Some x))
        → (k : ℕ) × (k < suc n) × (given k ≡ Some x)
    by_last None is e earlier =
        let found = earlier e in
        (found.0, omega (arith, found.1), found.2)
    by_last (Some y) is e earlier = (n, omega arith, is ∙ e)

group_context : (groups : List Group) (name : List ℕ) (k : ℕ) (h : Home) → group_home groups name k ≡ Some h → h.context ≡ k
group_context groups name k h is = by_group (slice_get groups k) is
  where
    by_priority : (o : Option ℕ) → option_map (in_group k) o ≡ Some h → h.context ≡ k
    by_priority None e = absurd (none-some h e)
    by_priority (Some p) e = sym (ap (λ (x : Home). x.context) (same_Some (in_group k p) h e))

    by_group : (o : Option Group) → option_and_then (λ (g : Group). option_map (in_group k) (last_priority g.tasks name)) o ≡ Some h → h.context ≡ k
    by_group None e = absurd (none-some h e)
    by_group (Some g) e = by_priority (last_priority g.tasks name) e

at_context : (processors prio : ℕ) (z : ℤ) → (home_at processors prio z).context ≤ processors
at_context processors prio (pos n) = by_test (nat_lt n processors) (λ e. ltb-true n processors e)
  where
    by_test : (b : Bool) → (b ≡ true → n < processors) → (if b then record { context = n; priority = prio } else in_group processors prio).context ≤ processors
    by_test true less = omega (arith, less refl)
    by_test false less = omega arith
at_context processors prio (negsuc n) = omega arith

pin_context : (processors : ℕ) (tasks : List PinTask) (name : List ℕ) (k : ℕ) (h : Home) → pin_home processors tasks name k ≡ Some h → h.context ≤ processors
pin_context processors tasks name k h is = by_task (slice_get tasks k) is
  where
    by_name : (b : Bool) (t : PinTask) → (if b then Some (home_at processors t.prio t.processor) else None) ≡ Some h → h.context ≤ processors
    by_name true t e = omega (arith, at_context processors t.prio t.processor, ap (λ (x : Home). x.context) (same_Some (home_at processors t.prio t.processor) h e))
    by_name false t e = absurd (none-some h e)

    by_task : (o : Option PinTask) → option_and_then (λ (t : PinTask). if is_named t.name name then Some (home_at processors t.prio t.processor) else None) o ≡ Some h → h.context ≤ processors
    by_task None e = absurd (none-some h e)
    by_task (Some t) e = by_name (is_named t.name name) t e

classic_within : (groups : List Group) (name : List ℕ) → 1 ≤ length groups → (classic_home groups name).context < length groups
unfolding classic_home
classic_within groups name some = by_last (last_found (group_home groups name) (length groups)) refl
  where
    by_last : (o : Option Home) → last_found (group_home groups name) (length groups) ≡ o → (unwrap_or o (in_group 0 0)).context < length groups
    by_last None is = omega arith
    by_last (Some h) is =
        let found = last_below (group_home groups name) (length groups) h is in
        omega (arith, found.1, group_context groups name found.0 h found.2)

choreography_within : (processors : ℕ) (tasks : List PinTask) (name : List ℕ) → (choreography_home processors tasks name).context ≤ processors
unfolding choreography_home
choreography_within processors tasks name = by_last (last_found (pin_home processors tasks name) (length tasks)) refl
  where
    by_last : (o : Option Home) → last_found (pin_home processors tasks name) (length tasks) ≡ o → (unwrap_or o (in_group processors 0)).context ≤ processors
    by_last None is = omega arith
    by_last (Some h) is =
        let found = last_below (pin_home processors tasks name) (length tasks) h is in
        pin_context processors tasks name found.0 h found.2

home_within : (sched : Sched) (name : List ℕ) → IsPlaceable sched → (home_of sched name).context < length (heads_of sched)
home_within (Classic groups unknown) name placeable = omega (arith, classic_within groups name placeable.0, length-map groups group_head)
home_within (Choreography processors pool tasks unknown) name placeable =
    omega (arith, choreography_within processors tasks name, pinned_long processors, length-append (map pinned_head (numbers_below processors)) ((codes "default_grp", false, pool) ∷ []))

homes_within : (sched : Sched) (names : List (List ℕ)) (contexts : List ContextPlan) → IsPlaceable sched → map head_of contexts ≡ heads_of sched → (c : ℕ) → c < length names
    → (home_in (homes_of sched names) c).context < length contexts
homes_within sched names contexts placeable heads c below =
    let name = get_or names c [] in
    let home : home_in (homes_of sched names) c ≡ home_of sched name = ap (λ (o : Option Home). unwrap_or o (in_group 0 0)) (slice_get-map (home_of sched) names c ∙ ap (option_map (home_of sched)) (slice_get-get_or names c [] below)) in
    omega (arith, ap (λ (h : Home). h.context) home, home_within sched name placeable, heads_long contexts (heads_of sched) heads)

-- How many processors contexts ask for.
plans_ask : (contexts : List ContextPlan) → sum_by (λ (h : Head). h.2) (map head_of contexts) ≡ processors_of contexts
plans_ask [] = refl
plans_ask (c ∷ cs) = omega (arith, plans_ask cs, sum_by-cons (λ (h : Head). h.2) (head_of c) (map head_of cs), sum_by-cons (λ (x : ContextPlan). x.processors) c cs)

groups_ask : (groups : List Group) → sum_by (λ (h : Head). h.2) (map group_head groups) ≡ sum_by (λ (g : Group). g.processors) groups
groups_ask [] = refl
groups_ask (g ∷ gs) = omega (arith, groups_ask gs, sum_by-cons (λ (h : Head). h.2) (group_head g) (map group_head gs), sum_by-cons (λ (x : Group). x.processors) g gs)

pinned_ask : (n : ℕ) → sum_by (λ (h : Head). h.2) (map pinned_head (numbers_below n)) ≡ n
pinned_ask zero = refl
pinned_ask (suc n) =
    omega (
      arith,
      pinned_ask n,
      ap (sum_by (λ (h : Head). h.2)) (map-append pinned_head (numbers_below n) (n ∷ [])),
      sum_by-append (λ (h : Head). h.2) (map pinned_head (numbers_below n)) (pinned_head n ∷ []),
      sum_by-cons (λ (h : Head). h.2) (pinned_head n) [],
    )

heads_ask : (sched : Sched) → IsPlaceable sched → sum_by (λ (h : Head). h.2) (heads_of sched) ≤ 64
heads_ask (Classic groups unknown) placeable = omega (arith, groups_ask groups, placeable.1)
heads_ask (Choreography processors pool tasks unknown) placeable =
    omega (
      arith,
      placeable,
      pinned_ask processors,
      sum_by-append (λ (h : Head). h.2) (map pinned_head (numbers_below processors)) ((codes "default_grp", false, pool) ∷ []),
      sum_by-cons (λ (h : Head). h.2) (codes "default_grp", false, pool) [],
    )

-- What contexts with their heads and orders are.
pub record Made (sched : Sched) (names : List (List ℕ)) (contexts : List ContextPlan) : Type 0 where
  pub placed : IsPlaced sched names contexts
  pub scan : IsPermutation (numbers_below (length names)) (scan_of contexts)
  pub once : IsOnce (scan_of contexts)
  pub fits : processors_of contexts ≤ 64

pub made : (sched : Sched) (names : List (List ℕ)) (contexts built : List ContextPlan) (homes : List Home) → IsPlaceable sched → homes ≡ homes_of sched names → contexts ≡ built → map head_of built ≡ heads_of sched
    → HaveOrders homes built → Made sched names contexts
made sched names contexts built homes placeable same is heads orders =
    let own : HaveOrders (homes_of sched names) built = subst (λ (hs : List Home). HaveOrders hs built) same orders in
    let long : length (homes_of sched names) ≡ length names = length-map names (home_of sched) in
    let scan : IsPermutation (numbers_below (length names)) (scan_of built) = subst (λ (n : ℕ). IsPermutation (numbers_below n) (scan_of built)) long
    (scan_is (homes_of sched names) built own (λ c below. homes_within sched names built placeable heads c (omega (arith, below, long)))) in
    rw is (record {
      placed = record { heads = heads; orders = own };
      scan = scan;
      once = scan_once (length names) (scan_of built) scan;
      fits = omega (arith, plans_ask built, ap (sum_by (λ (h : Head). h.2)) heads, heads_ask sched placeable);
    })

pub numbers_more : (n : ℕ) → map pinned_head (numbers_below (n + 1)) ≡ map pinned_head (numbers_below n) ++ pinned_head n ∷ []
numbers_more n = ap (λ (k : ℕ). map pinned_head (numbers_below k)) (add-one n) ∙ map-append pinned_head (numbers_below n) (n ∷ [])
