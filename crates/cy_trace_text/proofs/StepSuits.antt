-- Times and values that fit 64 bits stay so, call after call.
use Rattle.std.proofs.Common.{ℕ, zero, suc, ◌≡◌, ◌++◌, List, [], ◌∷◌, slice_get, Option, Some, None, ℤ, pos, negsuc, refl, sym, subst, inl, inr, arith}
use Rattle.std.specs.Int.{saturate_to_bits}
use Rattle.std.proofs.lemmas.Option.{none-some}
use Rattle.cy_msg.specs.Tuple.{first_of, messages_of}
use Rattle.cy_msg.specs.declared.token.Token.{Token}
use Rattle.cy_msg.specs.declared.token.Tuple.{Tuple}
use Rattle.cy_msg.specs.declared.token.Tuple.TheVariants.{One, Two, Three, Four}
use Rattle.cy_comp.specs.declared.call.Out.{Out}
use Rattle.cy_comp.specs.declared.call.Outcome.{Outcome}
use Rattle.cy_comp.specs.declared.kind.Kind.{Kind}
use Rattle.cy_comp.specs.Step.{outcome_after, out_of}
use Rattle.cy_comp.specs.declared.answers.Answer.{Answer}
use Rattle.cy_comp.specs.Laws.{IsMade, IsAnswer, IsGiven, no_output, passes_on, makes_value, gives_answer, holds_back, ends_with, OutcomesAreAnswers}
use Rattle.cy_trace.specs.TraceForm.{IsLong, IsLongSigned, IsValue}
use Rattle.cy_trace_text.specs.Laws.{Suits}

-- An output fits, where there is one.
abbrev pub SuitsOut : Option Out → Type 0
SuitsOut None = Unit {0}
SuitsOut (Some o) = IsLong o.time × IsValue o.whole

-- Every message of a tuple fits.
abbrev pub AllSuit : Tuple → Type 0
AllSuit tuple = (j : ℕ) (m : Token) → slice_get (messages_of tuple) j ≡ Some m → Suits m

-- Every message of some tuples fits.
abbrev TuplesSuit : List Tuple → Type 0
TuplesSuit tuples = (i : ℕ) (u : Tuple) → slice_get tuples i ≡ Some u → AllSuit u

held_suits : (z : ℤ) → IsLongSigned (saturate_to_bits 63 z)
held_suits (pos n) = omega arith
held_suits (negsuc n) = omega arith

first_suits : (tuple : Tuple) → AllSuit tuple → Suits (first_of tuple)
first_suits (One a) all = all 0 a refl
first_suits (Two a b) all = all 0 a refl
first_suits (Three a b c) all = all 0 a refl
first_suits (Four a b c d) all = all 0 a refl

-- A value that is made fits, where those do that came.
made_suits : (tuples : List Tuple) (value : ℤ) → TuplesSuit tuples → IsMade tuples value → IsLongSigned value
made_suits tuples value all made = elim made [
  | inl came ↦ subst IsValue came.whole (first_suits came.tuple (all came.place came.tuple came.there)).1
  | inr held ↦ subst IsLongSigned (sym held.1) (held_suits held.0)
]

-- The values of the answers that a class has from a file fit.
abbrev pub GivenSuit : Kind → Type 0
GivenSuit k = (a : Answer) → IsGiven k a → IsValue a.whole

-- What an answer puts out fits.
answer_suits : (k : Kind) (tuples : List Tuple) (tuple : Tuple) → GivenSuit k → TuplesSuit tuples → AllSuit tuple → (o : Outcome) → IsAnswer k tuples tuple o → SuitsOut (out_of o)
answer_suits k tuples tuple given each all o no_output = tt
answer_suits k tuples tuple given each all o (passes_on {m} is) = ((first_suits tuple all).0, (all is.place m is.there).1)
answer_suits k tuples tuple given each all o (makes_value {value} is) = ((first_suits tuple all).0, made_suits tuples value each is)
answer_suits k tuples tuple given each all o (gives_answer {a} is) = ((first_suits tuple all).0, given a is)
answer_suits k tuples tuple given each all o (holds_back {until} {m} few is) = (omega (arith, few), (all is.place m is.there).1)
answer_suits k tuples tuple given each all o (ends_with {m} is) = ((first_suits tuple all).0, (all is.place m is.there).1)

each_suits : (earlier : List Tuple) (last : Tuple) → TuplesSuit earlier → AllSuit last → TuplesSuit (earlier ++ last ∷ [])
each_suits [] last before all zero u e = let same : last ≡ u = cc in subst AllSuit same all
each_suits [] last before all (suc i) u e = absurd (none-some u e)
each_suits (x ∷ earlier) last before all zero u e = before zero u e
each_suits (x ∷ earlier) last before all (suc i) u e = each_suits earlier last (λ i. before (suc i)) all i u e

-- What a call puts out fits, where what it and those before it took does.
pub outcome_suits : OutcomesAreAnswers → (k : Kind) (earlier : List Tuple) (tuple : Tuple) → GivenSuit k → TuplesSuit earlier → AllSuit tuple → SuitsOut (out_of (outcome_after k earlier tuple))
outcome_suits law k earlier tuple given before all = answer_suits k (earlier ++ tuple ∷ []) tuple given (each_suits earlier tuple before all) all (outcome_after k earlier tuple) (law k earlier tuple)
