-- The bytes of channels together, and the places of names.
use Rattle.std.proofs.Common.{◌≡◌, ◌≤◌, ◌<◌, ℕ, ◌+◌, List, [], ◌∷◌, ◌++◌, length, get_or, set, refl, ap, sym, ◌∙◌, arith, Some, None, Bool, true, false, not, if◌then◌else◌, ltb-false, length-append, Ok, slice_get}
use Rattle.std.specs.Prelude.{sum_by}
use Rattle.std.specs.List.{position, prefix_len}
use Rattle.std.specs.Str.{bytes_eq}
use Rattle.std.proofs.lemmas.Grind.{common_steps}
use Rattle.std.proofs.lemmas.List.Sums.{sum_by-append, sum_by-set, get_or-le-sum_by, prefix_len-le-length}
use Rattle.std.proofs.lemmas.Slice.Eq.{bytes_eq-Decides}
use Rattle.std.proofs.lemmas.List.Quantifiers.{position-Some}
use Rattle.std.proofs.lemmas.Option.{slice_get-get_or}
use Rattle.std.proofs.lemmas.Bool.{le-ltb}
use Rattle.cy_section.specs.declared.types.Channel.{Channel}
use Rattle.cy_reader.specs.declared.known.Known.{Known}
use Rattle.cy_reader.specs.Record.{size_of, number_of, named_only, channel_given, within_limits, with_section, longest_name}

-- one channel has no more bytes than all
pub size_of-le : (xs : List Known) (i : ℕ) (d : Known) → i < length xs → size_of (get_or xs i d) ≤ sum_by size_of xs
size_of-le xs i d few = get_or-le-sum_by size_of xs i d few

pub sum_of-more : (xs : List Known) (x : Known) → sum_by size_of (xs ++ x ∷ []) ≡ sum_by size_of xs + size_of x
sum_of-more xs x = sum_by-append size_of xs (x ∷ []) ∙ (omega arith)

pub sum_of-set : (xs : List Known) (i : ℕ) (y d : Known) → i < length xs → sum_by size_of (set xs i y) + size_of (get_or xs i d) ≡ sum_by size_of xs + size_of y
sum_of-set xs i y d few = sum_by-set size_of xs i y d few

pub ruleset sums = (size_of-le, sum_of-more, sum_of-set)

-- a name's number, once it was found or added
pub number_of-below : (name : List ℕ) (channels : List Known) (n : ℕ) → number_of name channels ≡ Some n → n < length channels
number_of-below name channels n e = (position-Some (λ k. bytes_eq k.channel.name name) channels n (named_only name) e).0

-- one more item, which is the first that passes
length_passed : {X : Type 0} (p : X → Bool) (xs : List X) (x : X) → prefix_len (λ y. not (p y)) xs ≡ length xs → p x ≡ true → prefix_len (λ y. not (p y)) (xs ++ x ∷ []) ≡ length xs
length_passed p [] x e passes = rw passes refl
length_passed p (y ∷ xs) x e passes = by_first (p y) refl (length_passed p xs x)
  where
    by_first : (b : Bool) → p y ≡ b → (prefix_len (λ z. not (p z)) xs ≡ length xs → p x ≡ true → prefix_len (λ z. not (p z)) (xs ++ x ∷ []) ≡ length xs)
        → prefix_len (λ z. not (p z)) ((y ∷ xs) ++ x ∷ []) ≡ length (y ∷ xs)
    by_first true is more = absurd (let none : 0 ≡ length (y ∷ xs) = rw is at e in omega arith)
    by_first false is more =
        let rest : 1 + prefix_len (λ z. not (p z)) xs ≡ length (y ∷ xs) = rw is at e in
        let same : prefix_len (λ z. not (p z)) (xs ++ x ∷ []) ≡ length xs = more (omega arith) passes in
        rw is (omega arith)

pub none_found : (b : Bool) (i : ℕ) → (if b then Some i else None) ≡ None → b ≡ false
none_found true i e = absurd cc
none_found false i e = refl

pub position-added : {X : Type 0} (p : X → Bool) (xs : List X) (x : X) → position p xs ≡ None → p x ≡ true → position p (xs ++ x ∷ []) ≡ Some (length xs)
position-added p xs x e passes =
    let many : length xs ≤ prefix_len (λ y. not (p y)) xs = ltb-false _ _ (none_found _ _ e) in
    let all : prefix_len (λ y. not (p y)) xs ≡ length xs = omega (arith, prefix_len-le-length (λ y. not (p y)) xs) in
    let there = length_passed p xs x all passes in
    let longer : length (xs ++ x ∷ []) ≡ length xs + 1 = omega (arith, length-append xs (x ∷ [])) in
    rw (there, longer) (grind (arith, common_steps))

pub number_of-added : (name : List ℕ) (channels : List Known) → number_of name channels ≡ None → number_of name (channels ++ named_only name ∷ []) ≡ Some (length channels)
number_of-added name channels e =
    let decides = bytes_eq-Decides name name in
    position-added (λ k. bytes_eq k.channel.name name) channels (named_only name) e (decides.1 refl)

pub ruleset places = (number_of-below, number_of-added)

-- what the section of a channel that has one already leaves, and that of one that has none
pub given-kept : (channel : Channel) (channels : List Known) (place : ℕ) (known : Known) → length channel.name ≤ longest_name
    → number_of channel.name channels ≡ Some place → known ≡ get_or channels place known → known.has_section ≡ true → channel_given channel channels ≡ Ok channels
unfolding channel_given
given-kept channel channels place known short e is has =
    let there : slice_get channels place ≡ Some known = slice_get-get_or channels place known (number_of-below channel.name channels place e) ∙ ap (λ (k : Known). Some k) (sym is) in
    rw (le-ltb longest_name (length channel.name) short, e, there, has) refl

pub given-replaced : (channel : Channel) (channels : List Known) (place : ℕ) (known : Known) → length channel.name ≤ longest_name
    → number_of channel.name channels ≡ Some place → known ≡ get_or channels place known → known.has_section ≡ false
    → channel_given channel channels ≡ within_limits (set channels place (with_section channel))
unfolding channel_given
given-replaced channel channels place known short e is has =
    let there : slice_get channels place ≡ Some known = slice_get-get_or channels place known (number_of-below channel.name channels place e) ∙ ap (λ (k : Known). Some k) (sym is) in
    rw (le-ltb longest_name (length channel.name) short, e, there, has) refl
