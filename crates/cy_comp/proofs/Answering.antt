-- What a component answers, class by class.
use Rattle.std.proofs.Common.{ℕ, ℤ, pos, zero, suc, ◌≡◌, ◌+◌, ◌==◌, cond, Bool, true, false, List, [], ◌∷◌, ◌++◌, length, slice_get, Option, Some, None, option_map, refl, subst, inl, inr, arith}
use Rattle.std.specs.Prelude.{int_lt}
use Rattle.std.specs.List.{Contains}
use Rattle.std.specs.Ordering.{int_eq}
use Rattle.std.proofs.lemmas.Option.{none-some}
use Rattle.circular_buffer.specs.Buffer.{keep_last}
use Rattle.cy_msg.specs.declared.token.Token.{Token}
use Rattle.cy_msg.specs.declared.token.Tuple.{Tuple}
use Rattle.cy_msg.specs.declared.token.Tuple.TheVariants.{One, Two, Three, Four}
use Rattle.cy_msg.specs.Tuple.{first_of, messages_of}
use Rattle.cy_comp.specs.declared.answers.Answer.{Answer}
use Rattle.cy_comp.specs.declared.kind.Kind.{Kind}
use Rattle.cy_comp.specs.declared.kind.Kind.TheVariants as kind
use Rattle.cy_comp.specs.declared.call.Out.{Out}
use Rattle.cy_comp.specs.declared.call.Outcome.{Outcome}
use Rattle.cy_comp.specs.declared.call.Outcome.TheVariants.{Emit, Last}
use Rattle.cy_comp.specs.Step.{Kept, opening_of, sum_of, held_sum, values_of, is_between, greater_of, is_last_passed, counted, second_of, third_of, passes, passed, made_at, answer_at, on_value, answer_of, step, kept_after, outcome_after}
use Rattle.cy_comp.specs.Answers.{answered}
use Rattle.cy_comp.specs.Laws.{IsOf, CameWith, IsAnswer, IsGiven, no_output, passes_on, makes_value, gives_answer, holds_back, ends_with}

-- The messages of a tuple that classes pass on.
first_is : (tuple : Tuple) → IsOf tuple (first_of tuple)
first_is (One a) = record { place = 0; there = refl }
first_is (Two a b) = record { place = 0; there = refl }
first_is (Three a b c) = record { place = 0; there = refl }
first_is (Four a b c d) = record { place = 0; there = refl }

second_is : (tuple : Tuple) → IsOf tuple (second_of tuple)
second_is (One a) = record { place = 0; there = refl }
second_is (Two a b) = record { place = 1; there = refl }
second_is (Three a b c) = record { place = 1; there = refl }
second_is (Four a b c d) = record { place = 1; there = refl }

third_is : (tuple : Tuple) → IsOf tuple (third_of tuple)
third_is (One a) = record { place = 0; there = refl }
third_is (Two a b) = record { place = 1; there = refl }
third_is (Three a b c) = record { place = 2; there = refl }
third_is (Four a b c d) = record { place = 2; there = refl }

either_is : (b : Bool) (tuple : Tuple) (x y : Token) → IsOf tuple x → IsOf tuple y → IsOf tuple (cond b x y)
either_is true tuple x y p q = p
either_is false tuple x y p q = q

-- The answer of a call is one of those that there are.
answered_among : (given : List Answer) (call : ℕ) (a : Answer) → answered given call ≡ Some a → Contains given a
answered_among [] call a e = absurd (none-some a e)
answered_among (x ∷ rest) call a e = by (x.call == call) e (λ h. answered_among rest call a h)
  where
    by : (b : Bool) → cond b (Some x) (answered rest call) ≡ Some a → (answered rest call ≡ Some a → Contains rest a) → Contains (x ∷ rest) a
    by true e behind = (0, omega arith, same_answer e)
      where
        same_answer : Some x ≡ Some a → x ≡ a
        same_answer h = cc
    by false e behind = let later = behind e in (suc later.0, omega (arith, later.1), later.2)

-- The greatest value that is kept came with a tuple.
abbrev KeptCame : List Tuple → Kept → Type 0
KeptCame tuples kept = (value : ℤ) → kept.greatest ≡ Some value → CameWith tuples value

-- What a call answers, and what it keeps.
record IsStep (k : Kind) (tuples : List Tuple) (tuple : Tuple) (s : Kept × Outcome) : Type 0 where
  kept : KeptCame tuples s.0
  answer : IsAnswer k tuples tuple s.1

module _ (k : Kind) (tuples : List Tuple) (tuple : Tuple) where
  emits : (kept : Kept) (o : Option Out) → KeptCame tuples kept → IsAnswer k tuples tuple (Emit o) → IsStep k tuples tuple (kept, Emit o)
  emits kept o came answer = record { kept = came; answer = answer }

  on_value_steps : (kept : Kept) (o : Option ℤ) (answer : ℤ → Kept × Outcome) → KeptCame tuples kept → ((value : ℤ) → o ≡ Some value → IsStep k tuples tuple (answer value))
      → IsStep k tuples tuple (on_value kept o answer)
  on_value_steps kept None answer came all = emits kept None came no_output
  on_value_steps kept (Some value) answer came all = all value refl

  emits_either : (b : Bool) (kept : Kept) (x y : Option Out) → KeptCame tuples kept → IsAnswer k tuples tuple (Emit x) → IsAnswer k tuples tuple (Emit y) → IsStep k tuples tuple (kept, cond b (Emit x) (Emit y))
  emits_either true kept x y came p q = emits kept x came p
  emits_either false kept x y came p q = emits kept y came q

  either_steps : (b : Bool) (x y : Kept × Outcome) → IsStep k tuples tuple x → IsStep k tuples tuple y → IsStep k tuples tuple (cond b x y)
  either_steps true x y p q = p
  either_steps false x y p q = q

  sum_answers : (o : Option (List ℤ)) → IsAnswer k tuples tuple (Emit (option_map (λ (vs : List ℤ). made_at (first_of tuple).time (held_sum vs)) o))
  sum_answers None = no_output
  sum_answers (Some vs) = makes_value (inr (sum_of vs, refl))

  given_answers : (given : List Answer) → k ≡ kind.External given → (o : Option Answer) → ((a : Answer) → o ≡ Some a → Contains given a) → IsAnswer k tuples tuple (Emit (option_map (answer_at (first_of tuple).time) o))
  given_answers given is None among = no_output
  given_answers given is (Some a) among = gives_answer record { answers = given; kind = is; among = among a refl }

  greater_came : (o : Option ℤ) (value : ℤ) → ((before : ℤ) → o ≡ Some before → CameWith tuples before) → CameWith tuples value → CameWith tuples (greater_of o value)
  greater_came None value before came = came
  greater_came (Some most) value before came = by (int_lt value most)
    where
      by : (b : Bool) → CameWith tuples (cond b most value)
      by true = before most refl
      by false = came

  came_some : (value : ℤ) → CameWith tuples value → (other : ℤ) → Some value ≡ Some other → CameWith tuples other
  came_some value came other e = let same : value ≡ other = cc in subst (CameWith tuples) same came

  ends_or_passes : (b : Bool) (n : ℕ) (kept : Kept) → KeptCame tuples kept → IsStep k tuples tuple (kept, cond b (Last (Some (passed (first_of tuple)))) (passes (first_of tuple)))
  ends_or_passes true n kept came = record { kept = came; answer = ends_with (first_is tuple) }
  ends_or_passes false n kept came = emits kept _ came (passes_on (first_is tuple))

  -- The one table of classes: what each may answer.
  answers : (c : Kind) → k ≡ c → (kept : Kept) → KeptCame tuples kept → ((value : ℤ) → (first_of tuple).whole ≡ Some value → CameWith tuples value) → IsStep k tuples tuple (answer_of c kept (first_of tuple) tuple)
  answers kind.Pass is kept came first = emits kept _ came (passes_on (first_is tuple))
  answers (kind.Filter lo hi) is kept came first = on_value_steps kept (first_of tuple).whole _ came (λ v whole. emits_either (is_between lo hi v) kept _ None came (passes_on (first_is tuple)) no_output)
  answers kind.Sum is kept came first = emits kept _ came (sum_answers (values_of (messages_of tuple)))
  answers kind.Count is kept came first = emits _ _ came (makes_value (inr (pos (kept.calls + 1), refl)))
  answers kind.Max is kept came first = on_value_steps kept (first_of tuple).whole _ came (λ v whole.
      let most = greater_came kept.greatest v came (first v whole) in
      emits _ _ (came_some (greater_of kept.greatest v) most) (makes_value (inl most)))
  answers (kind.Window n) is kept came first = on_value_steps kept (first_of tuple).whole _ came (λ v whole. emits _ _ came (makes_value (inr (sum_of (keep_last n (kept.last ++ v ∷ [])), refl))))
  answers kind.Change is kept came first = on_value_steps kept (first_of tuple).whole _ came (λ v whole. either_steps (is_last_passed kept.passed v) _ _
      (emits kept None came no_output) (emits (record kept { passed = Some v }) _ came (passes_on (first_is tuple))))
  answers kind.Select is kept came first = on_value_steps kept (first_of tuple).whole _ came (λ v whole. emits kept _ came
      (passes_on (either_is (int_eq v (pos 0)) tuple (second_of tuple) (third_of tuple) (second_is tuple) (third_is tuple))))
  answers (kind.Hold delay) is kept came first = record { kept = came; answer = holds_back (omega arith) (first_is tuple) }
  answers (kind.Take n) is kept came first = ends_or_passes (counted kept.calls == n) n (record kept { calls = counted kept.calls }) came
  answers (kind.External given) is kept came first = emits _ _ came (given_answers given is (answered given (counted kept.calls)) (answered_among given (counted kept.calls)))

kept_came : (tuples : List Tuple) (k : Kind) (kept : Kept) (earlier : List Tuple) → KeptCame tuples kept
    → ((n : ℕ) (tuple : Tuple) → slice_get earlier n ≡ Some tuple → (value : ℤ) → (first_of tuple).whole ≡ Some value → CameWith tuples value)
    → KeptCame tuples (kept_after k kept earlier)
kept_came tuples k kept [] came all = came
kept_came tuples k kept (tuple ∷ rest) came all =
    kept_came tuples k (step k kept tuple).0 rest (answers k tuples tuple k refl kept came (all zero tuple refl)).kept (λ n. all (suc n))

-- A tuple of some is one of these with one more, and so is that one.
earlier_there : (earlier : List Tuple) (last tuple : Tuple) (n : ℕ) → slice_get earlier n ≡ Some tuple → slice_get (earlier ++ last ∷ []) n ≡ Some tuple
earlier_there [] last tuple n e = absurd (none-some tuple e)
earlier_there (x ∷ earlier) last tuple zero e = e
earlier_there (x ∷ earlier) last tuple (suc n) e = earlier_there earlier last tuple n e

last_there : (earlier : List Tuple) (last : Tuple) → slice_get (earlier ++ last ∷ []) (length earlier) ≡ Some last
last_there [] last = refl
last_there (x ∷ earlier) last = last_there earlier last

outcome_steps : (k : Kind) (earlier : List Tuple) (tuple : Tuple) → IsStep k (earlier ++ tuple ∷ []) tuple (step k (kept_after k (opening_of k) earlier) tuple)
outcome_steps k earlier tuple =
    let tuples = earlier ++ tuple ∷ [] in
    let kept = kept_came tuples k (opening_of k) earlier (λ value e. absurd (none-some value e))
    (λ n t at value is. record { place = n; tuple = t; there = earlier_there earlier tuple t n at; whole = is }) in
    answers k tuples tuple k refl (kept_after k (opening_of k) earlier) kept (λ value is. record { place = length earlier; tuple = tuple; there = last_there earlier tuple; whole = is })

pub outcome_answers : (k : Kind) (earlier : List Tuple) (tuple : Tuple) → IsAnswer k (earlier ++ tuple ∷ []) tuple (outcome_after k earlier tuple)
unfolding outcome_after
outcome_answers k earlier tuple = (outcome_steps k earlier tuple).answer
