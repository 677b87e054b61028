-- The channels of a record that was read, by their names.
use Rattle.std.proofs.Common.{arith, ◌≡◌, ◌≤◌, ◌<◌, ℕ, ◌+◌, List, [], ◌∷◌, length, take, drop, get_or, refl, sym, ap, ◌∙◌, Some, None, Option, Bool, true, false, IfSome, slice_get, subst}
use Rattle.std.specs.Option.{option_map, option_or}
use Rattle.std.specs.List.{find}
use Rattle.std.specs.Str.{bytes_eq}
use Rattle.std.proofs.lemmas.List.{take_more, take_all, drop_more, take-append-drop}
use Rattle.std.proofs.lemmas.List.Folds.{find-append}
use Rattle.std.proofs.lemmas.Option.{slice_get-get_or}
use Rattle.cy_section.specs.declared.types.Channel.{Channel}
use Rattle.cy_reader.specs.declared.known.Known.{Known}
use Rattle.cy_reader.specs.Record.{named_only}
use Rattle.cy_reader.specs.Named.{known_as}

-- the channel at a place
at_place : (channels : List Known) (n : ℕ) (c : Channel) → n < length channels → IfSome (slice_get channels n) (λ (known : Known). c ≡ known.channel)
    → c ≡ (get_or channels n (named_only [])).channel
at_place channels n c low is = subst (λ (o : Option Known). IfSome o (λ (known : Known). c ≡ known.channel)) (slice_get-get_or channels n (named_only []) low) is

-- none of the first has the name, and the next one has
pub met : (name : List ℕ) (channels : List Known) (n : ℕ) (c : Channel) → known_as name (take n channels) ≡ None → n < length channels
    → IfSome (slice_get channels n) (λ (known : Known). c ≡ known.channel) → bytes_eq c.name name ≡ true
    → Some c ≡ option_map (λ (known : Known). known.channel) (known_as name channels)
met name channels n c none low is same =
    let p : Known → Bool = λ known. bytes_eq known.channel.name name in
    let known = get_or channels n (named_only []) in
    let here = at_place channels n c low is in
    let passes : p known ≡ true = ap (λ (x : Channel). bytes_eq x.name name) (sym here) ∙ same in
    let first : find p (known ∷ drop (n + 1) channels) ≡ Some known = rw passes refl in
    let found : find p channels ≡ Some known =
    ap (find p) (sym (take-append-drop n channels))
    ∙ find-append p (take n channels) (drop n channels)
    ∙ ap (λ (o : Option Known). option_or o (find p (drop n channels))) none
    ∙ ap (find p) (drop_more channels n (named_only []) low)
    ∙ first in
    ap (λ (x : Channel). Some x) here ∙ sym (ap (option_map (λ (k : Known). k.channel)) found)

-- and the next one hasn't
pub passed : (name : List ℕ) (channels : List Known) (n : ℕ) (c : Channel) → known_as name (take n channels) ≡ None → n < length channels
    → IfSome (slice_get channels n) (λ (known : Known). c ≡ known.channel) → bytes_eq c.name name ≡ false → known_as name (take (n + 1) channels) ≡ None
passed name channels n c none low is other =
    let p : Known → Bool = λ known. bytes_eq known.channel.name name in
    let known = get_or channels n (named_only []) in
    let here = at_place channels n c low is in
    let fails : p known ≡ false = ap (λ (x : Channel). bytes_eq x.name name) (sym here) ∙ other in
    let last : find p (known ∷ []) ≡ None = rw fails refl in
    ap (find p) (take_more channels n (named_only []) low)
    ∙ find-append p (take n channels) (known ∷ [])
    ∙ ap (λ (o : Option Known). option_or o (find p (known ∷ []))) none
    ∙ last

-- and none has
pub none_met : (name : List ℕ) (channels : List Known) (n count : ℕ) → count ≡ length channels → count ≤ n → known_as name (take n channels) ≡ None
    → (let none : Option Channel = None in none ≡ option_map (λ (known : Known). known.channel) (known_as name channels))
none_met name channels n count all end none =
    ap (option_map (λ (known : Known). known.channel)) (sym (ap (known_as name) (sym (take_all n channels (omega (arith, all, end)))) ∙ none))
