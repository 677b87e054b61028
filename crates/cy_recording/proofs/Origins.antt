-- What a call passes on of where messages come from.
use Rattle.std.proofs.Common.{ℕ, zero, suc, ◌≡◌, ◌≤◌, ◌<◌, true, List, [], ◌∷◌, ◌++◌, length, get_or, slice_get, Option, Some, None, subst, sym, ap, ◌∙◌, arith}
use Rattle.std.specs.Prelude.{nat_le}
use Rattle.std.specs.List.{list_all}
use Rattle.std.proofs.lemmas.Bool.{and_parts, leb-true}
use Rattle.std.proofs.lemmas.Option.{none-some, same_Some}
use Rattle.cy_msg.specs.declared.token.Token.{Token}
use Rattle.cy_msg.specs.declared.token.Tuple.{Tuple}
use Rattle.cy_msg.specs.declared.token.Tuple.TheVariants.{One, Two, Three, Four}
use Rattle.cy_msg.specs.Tuple.{messages_of}
use Rattle.cy_msg.specs.Tokens.{most_played}
use Rattle.cy_comp.specs.declared.answers.Answer.{Answer}
use Rattle.cy_comp.specs.declared.call.Out.{Out}
use Rattle.cy_comp.specs.declared.call.Outcome.{Outcome}
use Rattle.cy_comp.specs.declared.kind.Kind.{Kind}
use Rattle.cy_comp.specs.Kind.{is_kind_in_range}
use Rattle.cy_comp.specs.Step.{out_of, outcome_after}
use Rattle.cy_comp.specs.Laws.{IsOf, IsAnswer, IsGiven, no_output, passes_on, makes_value, gives_answer, holds_back, ends_with}
use Rattle.cy_comp.proofs.Answering.{outcome_answers}

-- P of each
abbrev pub Each : {X : Type 0} → (X → Type 0) → List X → Type 0
Each P [] = Unit {0}
Each P (x ∷ xs) = P x × Each P xs

pub each-at : {X : Type 0} (P : X → Type 0) (xs : List X) (n : ℕ) (x : X) → Each P xs → slice_get xs n ≡ Some x → P x
each-at P [] n x a e = absurd (none-some x e)
each-at P (y ∷ xs) zero x a e = let same : y ≡ x = cc in subst P same a.0
each-at P (y ∷ xs) (suc n) x a e = each-at P xs n x a.1 e

module _ (Q : Option ℕ → Type 0) (none : Q None) where
  abbrev pub Good : Token → Type 0
  Good t = Q t.origin

  abbrev pub GoodOut : Option Out → Type 0
  GoodOut None = Unit {0}
  GoodOut (Some out) = Q out.origin

  abbrev pub GoodTuple : Tuple → Type 0
  GoodTuple (One a) = Good a
  GoodTuple (Two a b) = Good a × Good b
  GoodTuple (Three a b c) = Good a × Good b × Good c
  GoodTuple (Four a b c d) = Good a × Good b × Good c × Good d

  good-each : (t : Tuple) → GoodTuple t → Each Good (messages_of t)
  good-each (One a) g = (g, tt)
  good-each (Two a b) g = (g.0, (g.1, tt))
  good-each (Three a b c) g = (g.0, (g.1, (g.2, tt)))
  good-each (Four a b c d) g = (g.0, (g.1, (g.2, (g.3, tt))))

  good-of : (t : Tuple) → GoodTuple t → (m : Token) → IsOf t m → Good m
  good-of t g m is = each-at Good (messages_of t) is.place m (good-each t g) is.there

  -- the answers that a class has from a file are good
  abbrev pub GoodKind : Kind → Type 0
  GoodKind k = (a : Answer) → IsGiven k a → Q (Some a.origin)

  answer-good : (k : Kind) (tuples : List Tuple) (t : Tuple) → GoodKind k → GoodTuple t → (o : Outcome) → IsAnswer k tuples t o → GoodOut (out_of o)
  answer-good k tuples t given g o no_output = tt
  answer-good k tuples t given g o (passes_on {m} is) = good-of t g m is
  answer-good k tuples t given g o (makes_value is) = none
  answer-good k tuples t given g o (gives_answer {a} is) = given a is
  answer-good k tuples t given g o (holds_back {until} {m} few is) = good-of t g m is
  answer-good k tuples t given g o (ends_with {m} is) = good-of t g m is

  pub outcome-good : (k : Kind) (earlier : List Tuple) (t : Tuple) → GoodKind k → GoodTuple t → GoodOut (out_of (outcome_after k earlier t))
  outcome-good k earlier t given g = answer-good k (earlier ++ t ∷ []) t given g (outcome_after k earlier t) (outcome_answers k earlier t)

-- an origin is one of so many places, or that of an answer
abbrev pub IsAmong : ℕ → Option ℕ → Type 0
IsAmong n origin = (o : ℕ) → origin ≡ Some o → o < most_played → o < n

-- Answers that are in range have origins behind those of played messages.
given-behind : (n : ℕ) (xs : List Answer) → list_all (λ (a : Answer). nat_le most_played a.origin) xs ≡ true → (i : ℕ) (d : Answer) → i < length xs → IsAmong n (Some (get_or xs i d).origin)
given-behind n [] all i d low = absurd (omega (arith, low))
given-behind n (x ∷ xs) all zero d low = λ o from few.
    let least : most_played ≤ x.origin = leb-true most_played x.origin (and_parts (nat_le most_played x.origin) (list_all (λ (a : Answer). nat_le most_played a.origin) xs) all).0 in
    let same : x.origin ≡ o = same_Some x.origin o from in
    absurd (omega (arith, least, same, few))
given-behind n (x ∷ xs) all (suc i) d low =
    given-behind n xs (and_parts (nat_le most_played x.origin) (list_all (λ (a : Answer). nat_le most_played a.origin) xs) all).1 i d (omega (arith, low))

pub given-among : (n : ℕ) (k : Kind) → is_kind_in_range k ≡ true → (a : Answer) → IsGiven k a → IsAmong n (Some a.origin)
given-among n k fits a is =
    let all : list_all (λ (b : Answer). nat_le most_played b.origin) is.answers ≡ true = sym (ap is_kind_in_range is.kind) ∙ fits in
    subst (λ (b : Answer). IsAmong n (Some b.origin)) is.among.2 (given-behind n is.answers all is.among.0 a is.among.1)
