-- Bytes cut at marks, and put together again.
use Rattle.std.proofs.Common.{ℕ, ◌≡◌, ◌+◌, ◌<◌, ◌==◌, ◌&&◌, not, Bool, true, false, cond, List, [], ◌∷◌, ◌++◌, length, take, drop, get_or, Option, Some, None, option_map, refl, ap, sym, ◌∙◌}
use Rattle.std.proofs.lemmas.Bool.{and_parts, and_from, not-true, eq-eqb, eqb-true, ne_eqb}
use Rattle.std.proofs.lemmas.List.{drop_more, take_more, take-append-drop, take_at}
use Rattle.std.proofs.lemmas.Option.{none-some, same_Some}
use Rattle.std.specs.Option.{MatchOption}
use Rattle.std.specs.Borrow.{Bor}
use Rattle.std.specs.Cmp.Lexicographic.{pointwise, same_text, other_text}
use Rattle.std.specs.Prelude.{nat_eq}
use Rattle.cy_trace.specs.Cuts.{lacks, cut, cut_last, behind, or_else}

pub lacks-append : (mark : ℕ) (xs ys : List ℕ) → lacks mark xs ≡ true → lacks mark ys ≡ true → lacks mark (xs ++ ys) ≡ true
lacks-append mark [] ys h k = k
lacks-append mark (x ∷ xs) ys h k =
    let p = and_parts (not (x == mark)) (lacks mark xs) h in
    and_from (not (x == mark)) (lacks mark (xs ++ ys)) p.0 (lacks-append mark xs ys p.1 k)

-- the first mark is found
pub cut_finds : (mark : ℕ) (xs ys : List ℕ) → lacks mark xs ≡ true → cut mark (xs ++ mark ∷ ys) ≡ Some (xs, ys)
unfolding cut
cut_finds mark [] ys h = rw (eq-eqb mark mark refl) refl
cut_finds mark (x ∷ xs) ys h =
    let p = and_parts (not (x == mark)) (lacks mark xs) h in
    rw (not-true (x == mark) p.0, cut_finds mark xs ys p.1) refl

pub cut_none : (mark : ℕ) (xs : List ℕ) → lacks mark xs ≡ true → cut mark xs ≡ None
unfolding cut
cut_none mark [] h = refl
cut_none mark (x ∷ xs) h =
    let p = and_parts (not (x == mark)) (lacks mark xs) h in
    rw (not-true (x == mark) p.0, cut_none mark xs p.1) refl

uncut_by : (b : Bool) (xs : List ℕ) (found : Option (List ℕ × List ℕ)) (x : ℕ) (rest : Bool) → (found ≡ None → rest ≡ true)
    → cond {A = Option (List ℕ × List ℕ)} b (Some ([], xs)) (option_map (λ (q : List ℕ × List ℕ). (x ∷ q.0, q.1)) found) ≡ None → not b && rest ≡ true
uncut_by true xs found x rest more h = cc
uncut_by false xs None x rest more h = more refl
uncut_by false xs (Some q) x rest more h = cc

pub uncut : (mark : ℕ) (xs : List ℕ) → cut mark xs ≡ None → lacks mark xs ≡ true
unfolding cut
uncut mark [] h = refl
uncut mark (x ∷ xs) h = uncut_by (x == mark) xs (cut mark xs) x (lacks mark xs) (uncut mark xs) h

pub mapped_some : {A B : Type 0} (f : A → B) (o : Option A) (y : B) → option_map f o ≡ Some y → (x : A) × (o ≡ Some x) × (f x ≡ y)
mapped_some f None y h = absurd (none-some y h)
mapped_some f (Some x) y h = (x, refl, same_Some (f x) y h)

-- what was cut, joined at the mark
cut_joined : (mark x : ℕ) (xs : List ℕ) (found : Option (List ℕ × List ℕ)) (p : List ℕ × List ℕ) (b : Bool)
    → (b ≡ true → x ≡ mark) → ((q : List ℕ × List ℕ) → found ≡ Some q → (xs ≡ q.0 ++ mark ∷ q.1) × (lacks mark q.0 ≡ true)) → (b ≡ false → not (x == mark) ≡ true)
    → cond b (Some ([], xs)) (option_map (λ (q : List ℕ × List ℕ). (x ∷ q.0, q.1)) found) ≡ Some p → (x ∷ xs ≡ p.0 ++ mark ∷ p.1) × (lacks mark p.0 ≡ true)
cut_joined mark x xs found p true is rest other h = let e = same_Some _ p h in let same : x ≡ mark = is refl in rw (← e) (rw same refl, refl)
cut_joined mark x xs found p false is rest other h =
    let m = mapped_some (λ (q : List ℕ × List ℕ). (x ∷ q.0, q.1)) found p h in
    let r = rest m.0 m.1 in
    rw (← m.2) (ap (λ (ys : List ℕ). x ∷ ys) r.0, and_from (not (x == mark)) (lacks mark m.0.0) (other refl) r.1)

pub cut_parts : (mark : ℕ) (xs : List ℕ) (p : List ℕ × List ℕ) → cut mark xs ≡ Some p → (xs ≡ p.0 ++ mark ∷ p.1) × (lacks mark p.0 ≡ true)
unfolding cut
cut_parts mark [] p h = absurd (none-some p h)
cut_parts mark (x ∷ xs) p h =
    cut_joined mark x xs (cut mark xs) p (x == mark) (eqb-true x mark) (λ q. cut_parts mark xs q) (λ e. ap not e) h

-- the last mark is found
pub cut_last_none : (mark : ℕ) (xs : List ℕ) → lacks mark xs ≡ true → cut_last mark xs ≡ None
unfolding cut_last
cut_last_none mark [] h = refl
cut_last_none mark (x ∷ xs) h =
    let p = and_parts (not (x == mark)) (lacks mark xs) h in
    rw (cut_last_none mark xs p.1, not-true (x == mark) p.0) refl

pub cut_last_finds : (mark : ℕ) (xs ys : List ℕ) → lacks mark ys ≡ true → cut_last mark (xs ++ mark ∷ ys) ≡ Some (xs, ys)
unfolding cut_last
cut_last_finds mark [] ys h = rw (cut_last_none mark ys h, eq-eqb mark mark refl) refl
cut_last_finds mark (x ∷ xs) ys h = rw (cut_last_finds mark xs ys h) refl

cut_last_joined : (mark x : ℕ) (xs : List ℕ) (found : Option (List ℕ × List ℕ)) (p : List ℕ × List ℕ) (b : Bool)
    → (b ≡ true → x ≡ mark) → ((q : List ℕ × List ℕ) → found ≡ Some q → xs ≡ q.0 ++ mark ∷ q.1)
    → or_else (option_map (λ (q : List ℕ × List ℕ). (x ∷ q.0, q.1)) found) (cond b (Some ([], xs)) None) ≡ Some p → x ∷ xs ≡ p.0 ++ mark ∷ p.1
cut_last_joined mark x xs None p true is rest h = let e = same_Some _ p h in let same : x ≡ mark = is refl in rw (← e) (rw same refl)
cut_last_joined mark x xs None p false is rest h = absurd (none-some p h)
cut_last_joined mark x xs (Some q) p b is rest h = let e = same_Some _ p h in rw (← e) (ap (λ (ys : List ℕ). x ∷ ys) (rest q refl))

pub cut_last_parts : (mark : ℕ) (xs : List ℕ) (p : List ℕ × List ℕ) → cut_last mark xs ≡ Some p → xs ≡ p.0 ++ mark ∷ p.1
unfolding cut_last
cut_last_parts mark [] p h = absurd (none-some p h)
cut_last_parts mark (x ∷ xs) p h =
    cut_last_joined mark x xs (cut_last mark xs) p (x == mark) (eqb-true x mark) (λ q. cut_last_parts mark xs q) h

-- what stands behind a prefix
pub behind_finds : (prefix xs : List ℕ) → behind prefix (prefix ++ xs) ≡ Some xs
unfolding behind
behind_finds [] xs = refl
behind_finds (c ∷ prefix) xs = rw (eq-eqb c c refl, behind_finds prefix xs) refl

behind_joined : (c x : ℕ) (b : Bool) (found : Option (List ℕ)) (prefix xs rest : List ℕ) → (b ≡ true → x ≡ c) → (found ≡ Some rest → xs ≡ prefix ++ rest)
    → cond b found None ≡ Some rest → x ∷ xs ≡ c ∷ (prefix ++ rest)
behind_joined c x true found prefix xs rest is more h = let same : x ≡ c = is refl in rw (same, more h) refl
behind_joined c x false found prefix xs rest is more h = absurd (none-some rest h)

pub behind_parts : (prefix xs rest : List ℕ) → behind prefix xs ≡ Some rest → xs ≡ prefix ++ rest
unfolding behind
behind_parts [] xs rest h = same_Some xs rest h
behind_parts (c ∷ prefix) [] rest h = absurd (none-some rest h)
behind_parts (c ∷ prefix) (x ∷ xs) rest h = behind_joined c x (x == c) (behind prefix xs) prefix xs rest (eqb-true x c) (behind_parts prefix xs rest) h

-- the places of a loop that looks for a mark
pub cut_at : (mark k : ℕ) (xs : List ℕ) → k < length xs → get_or xs k 0 ≡ mark → lacks mark (take k xs) ≡ true → Some (take k xs, drop (k + 1) xs) ≡ cut mark xs
cut_at mark k xs there is before =
    let whole : xs ≡ take k xs ++ mark ∷ drop (k + 1) xs =
    sym (take-append-drop k xs) ∙ ap (λ (ys : List ℕ). take k xs ++ ys) (drop_more xs k 0 there ∙ ap (λ (b : ℕ). b ∷ drop (k + 1) xs) is) in
    sym (ap (cut mark) whole ∙ cut_finds mark (take k xs) (drop (k + 1) xs) before)

pub lacks_more : (mark k : ℕ) (xs : List ℕ) → k < length xs → (get_or xs k 0 ≡ mark → ⊥) → lacks mark (take k xs) ≡ true → lacks mark (take (k + 1) xs) ≡ true
lacks_more mark k xs there other before =
    rw (take_more xs k 0 there)
    (lacks-append mark (take k xs) (get_or xs k 0 ∷ []) before (and_from (not (get_or xs k 0 == mark)) true (ap not (ne_eqb (get_or xs k 0) mark other)) refl))

pub cut_last_at : (mark k : ℕ) (xs : List ℕ) → k < length xs → get_or xs k 0 ≡ mark → lacks mark (drop (k + 1) xs) ≡ true → Some (take k xs, drop (k + 1) xs) ≡ cut_last mark xs
cut_last_at mark k xs there is after =
    let whole : xs ≡ take k xs ++ mark ∷ drop (k + 1) xs =
    sym (take-append-drop k xs) ∙ ap (λ (ys : List ℕ). take k xs ++ ys) (drop_more xs k 0 there ∙ ap (λ (b : ℕ). b ∷ drop (k + 1) xs) is) in
    sym (ap (cut_last mark) whole ∙ cut_last_finds mark (take k xs) (drop (k + 1) xs) after)

-- a prefix that is compared byte by byte
pub behind_same : (prefix bytes : List ℕ) → true ≡ pointwise nat_eq (take (length prefix) bytes) prefix → Some (drop (length prefix) bytes) ≡ behind prefix bytes
behind_same prefix bytes h =
    let whole : bytes ≡ prefix ++ drop (length prefix) bytes =
    sym (take-append-drop (length prefix) bytes) ∙ ap (λ (xs : List ℕ). xs ++ drop (length prefix) bytes) (same_text (take (length prefix) bytes) prefix h) in
    sym (ap (behind prefix) whole ∙ behind_finds prefix (drop (length prefix) bytes))

none_there : (o : Option (List ℕ)) → ((rest : List ℕ) → o ≡ Some rest → ⊥) → None ≡ o
none_there None h = refl
none_there (Some rest) h = absurd (h rest refl)

pub behind_other : (prefix bytes : List ℕ) → false ≡ pointwise nat_eq (take (length prefix) bytes) prefix → None ≡ behind prefix bytes
behind_other prefix bytes h =
    none_there (behind prefix bytes) (λ rest e.
    other_text (take (length prefix) bytes) prefix h (ap (take (length prefix)) (behind_parts prefix bytes rest e) ∙ take_at prefix rest (length prefix) refl))

pub behind_result : (prefix bytes : List ℕ) (r : Option (Bor (List ℕ)))
    → MatchOption r (pointwise nat_eq (take (length prefix) bytes) prefix ≡ false)
    (λ x. (pointwise nat_eq (take (length prefix) bytes) prefix ≡ true) × (x.now ≡ drop (length prefix) bytes) × (length x.now + length prefix ≡ length bytes))
    → option_map (λ (x : Bor (List ℕ)). x.now) r ≡ behind prefix bytes
behind_result prefix bytes None h = behind_other prefix bytes (sym h)
behind_result prefix bytes (Some x) h = ap (λ (rest : List ℕ). Some rest) h.1 ∙ behind_same prefix bytes (sym h.0)
