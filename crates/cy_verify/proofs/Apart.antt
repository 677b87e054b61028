-- How far times lie apart, as a walk along a tape finds it.
use Rattle.std.proofs.Common.{ℕ, zero, suc, ◌+◌, ◌≡◌, ◌≤◌, ◌<◌, Bool, true, false, ◌&&◌, refl, sym, ◌∙◌, ap, arith, List, [], ◌∷◌, length, drop, Some, None, Option, slice_get, get_or}
use Rattle.std.proofs.Math.Seq.{drop-cons}
use Rattle.std.proofs.lemmas.Bool.Decides.{nat_tests}
use Rattle.std.specs.Bool.{Decides}
use Rattle.cy_msg.specs.declared.token.Token.{Token}
use Rattle.cy_comp.specs.declared.plan.Plan.{Plan}
use Rattle.cy_verify.specs.private.Passes.{held_on, later_of, is_later, in_time, held_then, IsApart}

-- Whether each message of a tape may have its time behind the latest one that was held back so far.
abbrev pub timely_after : (ℕ → Option Bool) → Option ℕ → List Token → Bool
timely_after on held [] = true
timely_after on held (t ∷ rest) = in_time (on t.channel) t.time held && timely_after on (held_then (on t.channel) t.time held) rest

abbrev ApartBy : (ℕ → Option Bool) → List Token → Type 0
ApartBy on tape = (i j : ℕ) (t r : Token) → slice_get tape i ≡ Some t → slice_get tape j ≡ Some r → i < j → on t.channel ≡ Some true → on r.channel ≡ None → t.time < r.time

abbrev Behind : (ℕ → Option Bool) → Option ℕ → List Token → Type 0
Behind on held tape = (j : ℕ) (r : Token) → slice_get tape j ≡ Some r → on r.channel ≡ None → is_later r.time held ≡ true

both : (a b : Bool) → a && b ≡ true → (a ≡ true) × (b ≡ true)
both true b e = (refl, e)
both false b e = cc

some_is : {X : Type 0} {a b : X} → Some a ≡ Some b → a ≡ b
some_is e = cc

-- What is behind all so far is behind what was held back before.
weaker : (w : Option Bool) (time later : ℕ) (held : Option ℕ) → is_later later (held_then w time held) ≡ true → is_later later held ≡ true
weaker None time later held e = e
weaker (Some false) time later held e = e
weaker (Some true) time later None e = refl
weaker (Some true) time later (Some before) e = grind (arith, nat_tests, e)

newest : (time later : ℕ) (held : Option ℕ) → is_later later (Some (later_of held time)) ≡ true → time < later
newest time later None e = grind (arith, nat_tests, e)
newest time later (Some before) e = grind (arith, nat_tests, e)

behind_both : (time later : ℕ) (held : Option ℕ) → is_later later held ≡ true → time < later → is_later later (Some (later_of held time)) ≡ true
behind_both time later None e l = grind (arith, nat_tests, l)
behind_both time later (Some before) e l = grind (arith, nat_tests, e, l)

in_time_behind : (w : Option Bool) (time : ℕ) (held : Option ℕ) → w ≡ None → in_time w time held ≡ true → is_later time held ≡ true
in_time_behind None time held e is = is
in_time_behind (Some b) time held e is = cc

behind_in_time : (w : Option Bool) (time : ℕ) (held : Option ℕ) → (w ≡ None → is_later time held ≡ true) → in_time w time held ≡ true
behind_in_time None time held is = is refl
behind_in_time (Some b) time held is = refl

then_behind : (w : Option Bool) (time later : ℕ) (held : Option ℕ) → is_later later held ≡ true → (w ≡ Some true → time < later) → is_later later (held_then w time held) ≡ true
then_behind None time later held e l = e
then_behind (Some false) time later held e l = e
then_behind (Some true) time later held e l = behind_both time later held e (l refl)

-- A tape that passes is apart, and all of it behind what was held back before.
timely_apart : (on : ℕ → Option Bool) (held : Option ℕ) (tape : List Token) → timely_after on held tape ≡ true → ApartBy on tape × Behind on held tape
timely_apart on held [] e = (λ i j t r a b. cc, λ j r a. cc)
timely_apart on held (t ∷ rest) e =
    let parts = both (in_time (on t.channel) t.time held) (timely_after on (held_then (on t.channel) t.time held) rest) e in
    let later = timely_apart on (held_then (on t.channel) t.time held) rest parts.1 in
    (λ i j s r. apart later.0 later.1 i j s r, λ j r. behind parts.0 later.1 j r)
  where
    behind : in_time (on t.channel) t.time held ≡ true → Behind on (held_then (on t.channel) t.time held) rest → Behind on held (t ∷ rest)
    behind now more zero r at none = let same : t ≡ r = some_is at in
        ap (λ (s : Token). is_later s.time held) (sym same) ∙ in_time_behind (on t.channel) t.time held (ap (λ (s : Token). on s.channel) same ∙ none) now
    behind now more (suc j) r at none = weaker (on t.channel) t.time r.time held (more j r at none)

    apart : ApartBy on rest → Behind on (held_then (on t.channel) t.time held) rest → ApartBy on (t ∷ rest)
    apart old more zero zero s r at on' l is none = absurd (omega (arith, l))
    apart old more (suc i) zero s r at on' l is none = absurd (omega (arith, l))
    apart old more (suc i) (suc j) s r at on' l is none = old i j s r at on' (omega (arith, l)) is none
    apart old more zero (suc j) s r at on' l is none =
        let same : t ≡ s = some_is at in
        let held_back : on t.channel ≡ Some true = ap (λ (u : Token). on u.channel) same ∙ is in
        let far : t.time < r.time = newest t.time r.time held (ap (λ w. is_later r.time (held_then w t.time held)) (sym held_back) ∙ more j r on' none) in
        rw (sym same) far

-- .. and the other way round.
apart_timely : (on : ℕ → Option Bool) (held : Option ℕ) (tape : List Token) → ApartBy on tape → Behind on held tape → timely_after on held tape ≡ true
apart_timely on held [] far behind = refl
apart_timely on held (t ∷ rest) far behind = and
    (in_time (on t.channel) t.time held)
    (timely_after on (held_then (on t.channel) t.time held) rest)
    (behind_in_time (on t.channel) t.time held (behind 0 t refl))
    (apart_timely on (held_then (on t.channel) t.time held) rest (λ i j s r at on' l. far (suc i) (suc j) s r at on' (omega (arith, l)))
    (λ j r at none. then_behind (on t.channel) t.time r.time held (behind (suc j) r at none) (λ is. far 0 (suc j) t r refl at (omega arith) is none)))
  where
    and : (a b : Bool) → a ≡ true → b ≡ true → a && b ≡ true
    and true b e is = is
    and false b e is = cc

module _ (plans : List Plan) (tape : List Token) where
  -- The walk from a place on answers what the whole walk does.
  abbrev pub IsAt : ℕ → Option ℕ → Type 0
  IsAt k held = timely_after (held_on plans) held (drop k tape) ≡ timely_after (held_on plans) None tape

  tells : (b : Bool) → b ≡ timely_after (held_on plans) None tape → Decides b (IsApart plans tape)
  tells b e = (λ is. (timely_apart (held_on plans) None tape (sym e ∙ is)).0, λ far. e ∙ apart_timely (held_on plans) None tape far (λ j r at none. refl))

  step : (k : ℕ) (held : Option ℕ) (d : Token) → k < length tape
      → timely_after (held_on plans) held (drop k tape) ≡ in_time (held_on plans (get_or tape k d).channel) (get_or tape k d).time held
      && timely_after (held_on plans) (held_then (held_on plans (get_or tape k d).channel) (get_or tape k d).time held) (drop (k + 1) tape)
  step k held d l =
      let same : suc k ≡ k + 1 = omega arith in
      ap (timely_after (held_on plans) held) (drop-cons tape k d l)
      ∙ ap (λ n. in_time (held_on plans (get_or tape k d).channel) (get_or tape k d).time held && timely_after (held_on plans) (held_then (held_on plans (get_or tape k d).channel) (get_or tape k d).time held) (drop n tape)) same

  pub step_fails : (k : ℕ) (held : Option ℕ) (d : Token) (w : Option Bool) → k < length tape → IsAt k held → w ≡ held_on plans (get_or tape k d).channel → false ≡ in_time w (get_or tape k d).time held → Decides false (IsApart plans tape)
  step_fails k held d w l at is e =
      let now : false ≡ in_time (held_on plans (get_or tape k d).channel) (get_or tape k d).time held = e ∙ ap (λ v. in_time v (get_or tape k d).time held) is in
      tells false (ap (λ b. b && timely_after (held_on plans) (held_then (held_on plans (get_or tape k d).channel) (get_or tape k d).time held) (drop (k + 1) tape)) now ∙ sym (step k held d l) ∙ at)

  pub step_goes : (k : ℕ) (held next : Option ℕ) (d : Token) (w : Option Bool) → k < length tape → IsAt k held → w ≡ held_on plans (get_or tape k d).channel → true ≡ in_time w (get_or tape k d).time held → next ≡ held_then w (get_or tape k d).time held → IsAt (k + 1) next
  step_goes k held next d w l at is e then =
      let now : true ≡ in_time (held_on plans (get_or tape k d).channel) (get_or tape k d).time held = e ∙ ap (λ v. in_time v (get_or tape k d).time held) is in
      ap (λ h. timely_after (held_on plans) h (drop (k + 1) tape)) (then ∙ ap (λ v. held_then v (get_or tape k d).time held) is)
      ∙ ap (λ b. b && timely_after (held_on plans) (held_then (held_on plans (get_or tape k d).channel) (get_or tape k d).time held) (drop (k + 1) tape)) now ∙ sym (step k held d l) ∙ at

  past_all : (xs : List Token) (k : ℕ) → length xs ≤ k → drop k xs ≡ []
  past_all [] zero l = refl
  past_all [] (suc k) l = refl
  past_all (x ∷ xs) zero l = absurd (omega (arith, l))
  past_all (x ∷ xs) (suc k) l = past_all xs k (omega (arith, l))

  pub walk_ends : (k : ℕ) (held : Option ℕ) → length tape ≤ k → IsAt k held → Decides true (IsApart plans tape)
  walk_ends k held l at = tells true (ap (timely_after (held_on plans) held) (sym (past_all tape k l)) ∙ at)
