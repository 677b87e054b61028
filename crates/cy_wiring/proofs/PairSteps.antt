-- Components beside their files, pair by pair.
use Rattle.std.proofs.Common.{ℕ, zero, suc, ◌≡◌, ◌+◌, ◌<◌, List, [], ◌∷◌, ◌++◌, length, map, take, get_or, slice_get, Option, Some, None, option_map, refl, sym, ap, ◌∙◌, arith, append_assoc, append-nil}
use Rattle.std.proofs.lemmas.List.{map-append, take_more, length-take-le}
use Rattle.std.proofs.lemmas.Grind.{flat_map-append}
use Rattle.std.proofs.lemmas.Option.{same_Some, none-some, slice_get-map}
use Rattle.std.specs.List.{flat_map, zip}
use Rattle.cy_comp.specs.declared.plan.Plan.{Plan}
use Rattle.cy_wiring.specs.Wiring.{channels_of, plan_of, plans_of}
use Rattle.cy_dag.specs.declared.config.Config.{Config}
use Rattle.cy_dag.specs.declared.dag.DagComponent.{DagComponent}
use Rattle.cy_dag.specs.declared.dag.DagReader.{DagReader}
use Rattle.cy_dag.proofs.Found.{mapped_some}

zip_push : {A B : Type 0} (xs : List A) (ys : List B) (x : A) (y : B) → length xs ≡ length ys → zip (xs ++ x ∷ []) (ys ++ y ∷ []) ≡ zip xs ys ++ (x, y) ∷ []
zip_push [] [] x y same = refl
zip_push [] (b ∷ ys) x y same = absurd (omega arith)
zip_push (a ∷ xs) [] x y same = absurd (omega arith)
zip_push {A} {B} (a ∷ xs) (b ∷ ys) x y same = ap (λ (ps : List (A × B)). (a, b) ∷ ps) (zip_push xs ys x y (omega arith))

pub zip_more : {A B : Type 0} (xs : List A) (ys : List B) (i : ℕ) (x : A) (y : B) → i < length xs → length ys ≡ length xs → x ≡ get_or xs i x → y ≡ get_or ys i y
    → zip (take (i + 1) xs) (take (i + 1) ys) ≡ zip (take i xs) (take i ys) ++ (x, y) ∷ []
zip_more {A} {B} xs ys i x y below same here there =
    let front : take (i + 1) xs ≡ take i xs ++ x ∷ [] = take_more xs i x below ∙ ap (λ (e : A). take i xs ++ e ∷ []) (sym here) in
    let back : take (i + 1) ys ≡ take i ys ++ y ∷ [] = take_more ys i y (omega arith) ∙ ap (λ (e : B). take i ys ++ e ∷ []) (sym there) in
    rw (front, back) (zip_push (take i xs) (take i ys) x y (length-take-le i xs (omega arith) ∙ sym (length-take-le i ys (omega arith))))

-- What a pair stands at is where both of its parts stand.
pub zip_at : {A B : Type 0} (xs : List A) (ys : List B) (i : ℕ) (p : A × B) → slice_get (zip xs ys) i ≡ Some p → (slice_get xs i ≡ Some p.0) × (slice_get ys i ≡ Some p.1)
zip_at [] ys i p h = absurd (none-some p h)
zip_at (x ∷ xs) [] i p h = absurd (none-some p h)
zip_at {A} {B} (x ∷ xs) (y ∷ ys) zero p h =
    let e = same_Some (x, y) p h in
    (ap (λ (q : A × B). Some q.0) e, ap (λ (q : A × B). Some q.1) e)
zip_at (x ∷ xs) (y ∷ ys) (suc i) p h = zip_at xs ys i p h

pub zip_none : {A B : Type 0} (xs : List A) (ys : List B) (i : ℕ) → length ys ≡ length xs → slice_get (zip xs ys) i ≡ None → slice_get xs i ≡ None
zip_none [] ys i same h = refl
zip_none (x ∷ xs) [] i same h = absurd (omega arith)
zip_none {A} {B} (x ∷ xs) (y ∷ ys) zero same h = absurd (none-some (x, y) (sym h))
zip_none (x ∷ xs) (y ∷ ys) (suc i) same h = zip_none xs ys i (omega arith) h

pub plan_at : (names : List (List ℕ)) (ps : List (DagComponent × Config)) (i : ℕ) (a : Plan) → slice_get (plans_of names ps) i ≡ Some a
    → (p : DagComponent × Config) × (slice_get ps i ≡ Some p) × (plan_of names p ≡ a)
plan_at names ps i a h = mapped_some (plan_of names) (slice_get ps i) a (sym (slice_get-map (plan_of names) ps i) ∙ h)

-- The channels of one component more, and its plan.
pub channels_step : (cs : List DagComponent) (configs : List Config) (i : ℕ) (c : DagComponent) (config : Config) (first before mid after : List (List ℕ)) (readers : List DagReader) (out : List ℕ)
    → i < length cs → length configs ≡ length cs → c ≡ get_or cs i c → config ≡ get_or configs i config → before ≡ first ++ flat_map channels_of (zip (take i cs) (take i configs))
    → mid ≡ before ++ map (λ r. r.channel) readers → readers ≡ c.readers → after ≡ mid ++ out ∷ [] → out ≡ config.out
    → after ≡ first ++ flat_map channels_of (zip (take (i + 1) cs) (take (i + 1) configs))
channels_step cs configs i c config first before mid after readers out below same here there is read reads wrote writes =
    let ps = zip (take i cs) (take i configs) in
    let one : flat_map channels_of ((c, config) ∷ []) ≡ map (λ (r : DagReader). r.channel) c.readers ++ config.out ∷ [] = append-nil (channels_of (c, config)) in
    let more : flat_map channels_of (zip (take (i + 1) cs) (take (i + 1) configs)) ≡ flat_map channels_of ps ++ (map (λ (r : DagReader). r.channel) c.readers ++ config.out ∷ []) =
    ap (flat_map channels_of) (zip_more cs configs i c config below same here there) ∙ flat_map-append channels_of ps ((c, config) ∷ []) ∙ ap (λ (xs : List (List ℕ)). flat_map channels_of ps ++ xs) one in
    rw (more, wrote, read, is, reads, writes) (append_assoc (first ++ flat_map channels_of ps) (map (λ (r : DagReader). r.channel) c.readers) (config.out ∷ []) ∙ append_assoc first (flat_map channels_of ps) (map (λ (r : DagReader). r.channel) c.readers ++ config.out ∷ []))

pub plans_step : (names : List (List ℕ)) (cs : List DagComponent) (configs : List Config) (i : ℕ) (c : DagComponent) (config : Config) (plan : Plan) (before after : List Plan)
    → i < length cs → length configs ≡ length cs → c ≡ get_or cs i c → config ≡ get_or configs i config → before ≡ plans_of names (zip (take i cs) (take i configs))
    → plan ≡ plan_of names (c, config) → after ≡ before ++ plan ∷ [] → after ≡ plans_of names (zip (take (i + 1) cs) (take (i + 1) configs))
plans_step names cs configs i c config plan before after below same here there is made pushed =
    rw (zip_more cs configs i c config below same here there, map-append (plan_of names) (zip (take i cs) (take i configs)) ((c, config) ∷ []), pushed, is, made) refl
