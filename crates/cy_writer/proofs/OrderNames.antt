-- The names of channels in the order of their first messages are those of the messages.
use Rattle.std.proofs.Common.{◌≡◌, ℕ, suc, List, [], ◌∷◌, ◌++◌, map, Bool, true, false, refl, sym, ap, ◌∙◌, Some, slice_get, eqb, ◌⊎◌, inl, inr}
use Rattle.std.specs.Prelude.{◌==◌}
use Rattle.std.specs.List.{list_any}
use Rattle.std.specs.Str.{bytes_eq}
use Rattle.std.proofs.lemmas.List.{map-append}
use Rattle.std.proofs.lemmas.Bool.{false_from_ne_true}
use Rattle.std.proofs.lemmas.Bool.Decides.{eqb_tells}
use Rattle.std.proofs.lemmas.Option.{none-some}
use Rattle.std.proofs.lemmas.Slice.Eq.{bytes_eq-Decides}
use Rattle.cy_section.specs.declared.types.BodyMessage.{BodyMessage}
use Rattle.cy_section.specs.RecordText.{names_after}
use Rattle.cy_writer.specs.Order.{with_number, numbers_after}
use Rattle.cy_writer.proofs.OrderNumbers.{all_with}

-- a message on a channel that isn't known yet
names_new : (known : List (List ℕ)) (m : BodyMessage) (rest : List BodyMessage) → list_any (λ n. bytes_eq n m.channel_name) known ≡ false
    → names_after known (m ∷ rest) ≡ names_after (known ++ m.channel_name ∷ []) rest
names_new known m rest e = rw e refl

-- and one that is known
names_known : (known : List (List ℕ)) (m : BodyMessage) (rest : List BodyMessage) → list_any (λ n. bytes_eq n m.channel_name) known ≡ true
    → names_after known (m ∷ rest) ≡ names_after known rest
names_known known m rest e = rw e refl

-- Items that stand on channels, each made into a message of its channel's name; channels that are met have names of their own.
module _ {X : Type 0} (number : X → ℕ) (made : X → BodyMessage) (name_of : ℕ → List ℕ) (P : ℕ → Type 0) (named : (x : X) → (made x).channel_name ≡ name_of (number x))
    (apart : (c d : ℕ) → P c → P d → name_of c ≡ name_of d → c ≡ d) where
  -- a number is told from others as its name is from theirs
  told_alike : (c d : ℕ) → P c → P d → eqb c d ≡ bytes_eq (name_of d) (name_of c)
  told_alike c d is_c is_d = by (eqb_tells c d)
    where
      by : ((eqb c d ≡ true) × (c ≡ d)) ⊎ ((eqb c d ≡ false) × (c ≡ d → ⊥)) → eqb c d ≡ bytes_eq (name_of d) (name_of c)
      by (inl t) = t.0 ∙ sym ((bytes_eq-Decides (name_of d) (name_of c)).1 (ap name_of (sym t.1)))
      by (inr f) = f.0 ∙ sym (false_from_ne_true (bytes_eq (name_of d) (name_of c))
          (λ e. f.1 (apart c d is_c is_d (sym ((bytes_eq-Decides (name_of d) (name_of c)).0 e)))))

  any_alike : (c : ℕ) (known : List ℕ) → P c → ((n d : ℕ) → slice_get known n ≡ Some d → P d)
      → list_any (λ other. c == other) known ≡ list_any (λ n. bytes_eq n (name_of c)) (map name_of known)
  any_alike c [] is_c all = refl
  any_alike c (d ∷ rest) is_c all = rw (told_alike c d is_c (all 0 d refl), any_alike c rest is_c (λ n e there. all (suc n) e there)) refl

  -- whether a message's channel is known, by its number and by its name
  met_alike : (x : X) (known : List ℕ) → P (number x) → ((n d : ℕ) → slice_get known n ≡ Some d → P d)
      → list_any (λ other. number x == other) known ≡ list_any (λ n. bytes_eq n (made x).channel_name) (map name_of known)
  met_alike x known is_x all =
      any_alike (number x) known is_x all ∙ ap (λ (name : List ℕ). list_any (λ n. bytes_eq n name) (map name_of known)) (sym (named x))

  one_name : (x : X) (known : List ℕ) (rest : List X) → P (number x) → ((n d : ℕ) → slice_get known n ≡ Some d → P d)
      → names_after (map name_of (with_number known (number x))) (map made rest) ≡ names_after (map name_of known) (map made (x ∷ rest))
  one_name x known rest is_x all = by (list_any (λ other. number x == other) known) refl
    where
      by : (b : Bool) → list_any (λ other. number x == other) known ≡ b
          → names_after (map name_of (with_number known (number x))) (map made rest) ≡ names_after (map name_of known) (map made (x ∷ rest))
      by true e = rw e (sym (names_known (map name_of known) (made x) (map made rest) (sym (met_alike x known is_x all) ∙ e)))
      by false e = rw e
          (ap (λ (l : List (List ℕ)). names_after l (map made rest))
          (map-append name_of known (number x ∷ []) ∙ ap (λ (name : List ℕ). map name_of known ++ name ∷ []) (sym (named x)))
          ∙ sym (names_new (map name_of known) (made x) (map made rest) (sym (met_alike x known is_x all) ∙ e)))

  names_behind : (known : List ℕ) (xs : List X) → ((n d : ℕ) → slice_get known n ≡ Some d → P d) → ((n : ℕ) (x : X) → slice_get xs n ≡ Some x → P (number x))
      → map name_of (numbers_after known (map number xs)) ≡ names_after (map name_of known) (map made xs)
  names_behind known [] all each = refl
  names_behind known (x ∷ rest) all each =
      names_behind (with_number known (number x)) rest (all_with P known (number x) all (each 0 x refl)) (λ n y there. each (suc n) y there)
      ∙ one_name x known rest (each 0 x refl) all

  -- the names come in the order of the numbers
  pub names_follow : (xs : List X) → ((n : ℕ) (x : X) → slice_get xs n ≡ Some x → P (number x))
      → map name_of (numbers_after [] (map number xs)) ≡ names_after [] (map made xs)
  names_follow xs each = names_behind [] xs (λ n d there. absurd (none-some d there)) each
