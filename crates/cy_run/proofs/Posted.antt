-- The contexts of workers, one after another.
use Rattle.std.proofs.Common.{ℕ, ◌+◌, ◌-◌, ◌≡◌, ◌∙◌, ◌<◌, ◌≤◌, ◌⊎◌, inl, inr, min, List, [], ◌∷◌, ◌++◌, sym, ap, subst, length, take, get_or, replicate, append_assoc, append-nil, arith}
use Rattle.std.proofs.Math.Seq.{take-append-add}
use Rattle.std.proofs.lemmas.Bool.{cases_lt}
use Rattle.std.proofs.lemmas.List.{map-append, take_more, take_all, take-append-le, take-replicate, length-take-le, length-replicate, length-map, replicate_more}
use Rattle.cy_msg.specs.declared.placement.ContextPlan.{ContextPlan}
use Rattle.cy_run.specs.declared.crew.Worker.{Worker}
use Rattle.cy_run.specs.Running.{plans_of, posts_from}

-- One worker more of a context.
pub posted : (crew : List Worker) (w : Worker) (before : List ℕ) (n plan : ℕ) → plans_of crew ≡ before ++ replicate n plan → w.plan ≡ plan → plans_of (crew ++ w ∷ []) ≡ before ++ replicate (n + 1) plan
posted crew w before n plan so is =
    map-append (λ (x : Worker). x.plan) crew (w ∷ []) ∙ (ap (λ l. l ++ w.plan ∷ []) so ∙ (ap (λ x. (before ++ replicate n plan) ++ x ∷ []) is ∙ (append_assoc before (replicate n plan) (plan ∷ []) ∙ ap (λ l. before ++ l) (replicate_more n plan))))

-- One context more.
posts_more : (n : ℕ) (plans : List ContextPlan) (p : ContextPlan) → posts_from n (plans ++ p ∷ []) ≡ posts_from n plans ++ replicate p.processors (n + length plans)
posts_more n [] p = append-nil (replicate p.processors n) ∙ ap (λ k. replicate p.processors k) (omega arith)
posts_more n (q ∷ plans) p =
    ap (λ l. replicate q.processors n ++ l) (posts_more (n + 1) plans p ∙ ap (λ k. posts_from (n + 1) plans ++ replicate p.processors k) (omega arith)) ∙ sym (append_assoc (replicate q.processors n) (posts_from (n + 1) plans) (replicate p.processors (n + length (q ∷ plans))))

-- The first of a list with equal numbers behind it.
first_of : (n k m x : ℕ) (xs : List ℕ) → k ≡ min m (n - length (take n xs)) → take n (xs ++ replicate m x) ≡ take n xs ++ replicate k x
first_of n k m x xs is = by (cases_lt n (length xs))
  where
    none : (l : ℕ) → l ≡ n → k ≡ min m (n - l) → 0 ≡ k
    none l e is = omega (arith, e, is)

    rest : (r l : ℕ) → k ≡ min m (n - l) → n ≡ l + r → take r (replicate m x) ≡ replicate k x
    rest r l is e = cut (cases_lt r m)
      where
        cut : (r < m) ⊎ (m ≤ r) → take r (replicate m x) ≡ replicate k x
        cut (inl lt) = take-replicate r m x (omega (arith, lt)) ∙ ap (λ j. replicate j x) (omega (arith, is, e, lt))
        cut (inr le) = take_all r (replicate m x) (subst (λ j. j ≤ r) (sym (length-replicate m x)) le) ∙ ap (λ j. replicate j x) (omega (arith, is, e, le))

    by : (n < length xs) ⊎ (length xs ≤ n) → take n (xs ++ replicate m x) ≡ take n xs ++ replicate k x
    by (inl lt) = take-append-le n xs (replicate m x) (omega (arith, lt)) ∙ (sym (append-nil (take n xs)) ∙ ap (λ j. take n xs ++ replicate j x) (none (length (take n xs)) (length-take-le n xs (omega (arith, lt))) is))
    by (inr le) = let whole : take n xs ≡ xs = take_all n xs le in let r = n - length xs in let sum : n ≡ length xs + r = omega (arith, le) in
        ap (λ j. take j (xs ++ replicate m x)) sum ∙ (take-append-add xs (replicate m x) r ∙ (ap (λ l. xs ++ l) (rest r (length xs) (is ∙ ap (λ l. min m (n - length l)) whole) sum) ∙ ap (λ l. l ++ replicate k x) (sym whole)))

-- So many more get a thread.
pub counted : (crew : List Worker) (n m k hired : ℕ) → hired ≡ length crew → k ≡ min m (n - hired) → k ≡ min m (n - length (plans_of crew))
counted crew n m k hired is few = few ∙ ap (λ l. min m (n - l)) (is ∙ sym (length-map crew (λ (w : Worker). w.plan)))

pub posted_on : (n : ℕ) (plans : List ContextPlan) (i k : ℕ) (d : ContextPlan) (old : List ℕ) (new : List ℕ) → i < length plans → old ≡ take n (posts_from 0 (take i plans)) → k ≡ min (get_or plans i d).processors (n - length old) → new ≡ old ++ replicate k i
    → new ≡ take n (posts_from 0 (take (i + 1) plans))
posted_on n plans i k d old new lt so few is =
    let m = (get_or plans i d).processors in let more : posts_from 0 (take (i + 1) plans) ≡ posts_from 0 (take i plans) ++ replicate m i =
    ap (λ l. posts_from 0 l) (take_more plans i d lt) ∙ (posts_more 0 (take i plans) (get_or plans i d) ∙ ap (λ k. posts_from 0 (take i plans) ++ replicate m k) (taken plans i lt)) in
    is ∙ (ap (λ l. l ++ replicate k i) so ∙ sym (ap (take n) more ∙ first_of n k m i (posts_from 0 (take i plans)) (few ∙ ap (λ l. min m (n - length l)) so)))
  where
    taken : (l : List ContextPlan) (i : ℕ) → i < length l → 0 + length (take i l) ≡ i
    taken l i lt = grind (arith, Rattle.std.proofs.lemmas.List.length-take, lt)
