-- The numbers that are kept for names stay those of the channels.
use Rattle.std.proofs.Common.{◌≡◌, ◌≤◌, ℕ, ◌+◌, List, [], ◌∷◌, ◌++◌, length, set, get_or, refl, ap, sym, ◌∙◌, arith, Some, None, Bool, true, false, not, cond, length-append, length-set, String, eqb}
use Rattle.std.specs.Prelude.{nat_lt}
use Rattle.std.specs.List.{position, position_or_len}
use Rattle.std.specs.Str.{bytes_eq}
use Rattle.std.specs.HashMap.{HashMap, get_by_text, UpdatesBy}
use Rattle.std.specs.String.{string_eq, string_bytes}
use Rattle.std.proofs.lemmas.Grind.{common_steps}
use Rattle.std.proofs.lemmas.Map.Text.{hash_map_updates_text}
use Rattle.std.proofs.lemmas.List.Folds.{position_or_len_push, prefix_len-set}
use Rattle.std.proofs.lemmas.List.Sums.{prefix_len-le-length}
use Rattle.std.proofs.lemmas.List.Quantifiers.{position-Some}
use Rattle.std.proofs.lemmas.Slice.Eq.{bytes_eq-Decides}
use Rattle.cy_reader.specs.declared.known.Known.{Known}
use Rattle.cy_reader.specs.Record.{number_of, named_only}
use Rattle.cy_reader.specs.private.Loading.{KeepsNumber}
use Rattle.cy_reader.proofs.Sums.{position-added}

-- an item behind others that doesn't pass
skipped : (place n : ℕ) → place ≤ n → cond (nat_lt (cond (eqb place n) (n + 1) place) (n + 1)) (Some (cond (eqb place n) (n + 1) place)) None ≡ cond (nat_lt place n) (Some place) None
skipped place n most = grind (arith, common_steps)

position-skipped : {X : Type 0} (p : X → Bool) (xs : List X) (y : X) → p y ≡ false → position p (xs ++ y ∷ []) ≡ position p xs
position-skipped p xs y e =
    let longer : length (xs ++ y ∷ []) ≡ length xs + 1 = omega (arith, length-append xs (y ∷ [])) in
    let pushed : position_or_len p (xs ++ y ∷ []) ≡ cond (eqb (position_or_len p xs) (length xs)) (length xs + 1) (position_or_len p xs)
    = position_or_len_push p xs y ∙ ap (λ (b : Bool). cond (eqb (position_or_len p xs) (length xs)) (length xs + cond b 0 1) (position_or_len p xs)) e in
    rw (pushed, longer) (skipped (position_or_len p xs) (length xs) (prefix_len-le-length (λ x. not (p x)) xs))

-- an item in the place of one that passes alike
position-set : {X : Type 0} (p : X → Bool) (xs : List X) (i : ℕ) (y d : X) → p y ≡ p (get_or xs i d) → position p (set xs i y) ≡ position p xs
position-set p xs i y d e =
    rw (prefix_len-set (λ x. not (p x)) xs i y d (ap not e), length-set xs i y) refl

by_name : (b : Bool) (name q : List ℕ) (list : List Known) (known : Known) → known.channel.name ≡ name → bytes_eq name q ≡ b → number_of name list ≡ None
    → cond b (Some (length list)) (number_of q list) ≡ number_of q (list ++ known ∷ [])
by_name true name q list known is e none =
    let same : name ≡ q = (bytes_eq-Decides name q).0 e in
    sym (position-added (λ k. bytes_eq k.channel.name q) list known (ap (λ (n : List ℕ). number_of n list) (sym same) ∙ none) (ap (λ (n : List ℕ). bytes_eq n q) is ∙ e))
by_name false name q list known is e none =
    sym (position-skipped (λ k. bytes_eq k.channel.name q) list known (ap (λ (n : List ℕ). bytes_eq n q) is ∙ e))

-- the number of a name was kept
pub number-kept : {Y S : Type 0} (old new : HashMap (String Y) ℕ S) (name : List ℕ) (key : String Y) (number : ℕ) → string_bytes key ≡ name → UpdatesBy string_eq (string_eq key) old new (Some number)
    → KeepsNumber name number old new
number-kept old new name key number is updates q =
    hash_map_updates_text (string_bytes key) old new (Some number) updates q ∙ ap (λ (n : List ℕ). cond (bytes_eq n q) (Some number) (get_by_text old q)) is

-- a channel of a new name was added
pub tied-added : {Y S : Type 0} (old new : HashMap (String Y) ℕ S) (list : List Known) (known : Known) → ((q : List ℕ) → get_by_text old q ≡ number_of q list)
    → number_of known.channel.name list ≡ None → KeepsNumber known.channel.name (length list) old new → (q : List ℕ) → get_by_text new q ≡ number_of q (list ++ known ∷ [])
tied-added old new list known tied fresh keeps q =
    let name = known.channel.name in
    keeps q ∙ ap (cond (bytes_eq name q) (Some (length list))) (tied q) ∙ by_name (bytes_eq name q) name q list known refl refl fresh

-- a channel was put in the place of one of its name
pub number_of-replaced : (q : List ℕ) (list : List Known) (place : ℕ) (known : Known) → number_of known.channel.name list ≡ Some place
    → number_of q (set list place known) ≡ number_of q list
number_of-replaced q list place known there =
    let d = named_only [] in
    let found = position-Some (λ k. bytes_eq k.channel.name known.channel.name) list place d there in
    let same : (get_or list place d).channel.name ≡ known.channel.name = (bytes_eq-Decides (get_or list place d).channel.name known.channel.name).0 found.1 in
    position-set (λ k. bytes_eq k.channel.name q) list place known d (ap (λ (n : List ℕ). bytes_eq n q) (sym same))

pub tied-replaced : {Y S : Type 0} (numbers : HashMap (String Y) ℕ S) (list : List Known) (place : ℕ) (known : Known) → ((q : List ℕ) → get_by_text numbers q ≡ number_of q list)
    → number_of known.channel.name list ≡ Some place → (q : List ℕ) → get_by_text numbers q ≡ number_of q (set list place known)
tied-replaced numbers list place known tied there q = tied q ∙ sym (number_of-replaced q list place known there)
