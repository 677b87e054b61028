-- One byte more of a text in quotes.
use Rattle.std.proofs.Common.{ℕ, ◌≡◌, ◌+◌, ◌<◌, List, [], ◌∷◌, ◌++◌, length, take, get_or, sym, ap, ◌∙◌, append_assoc, append-nil}
use Rattle.std.proofs.lemmas.Grind.{flat_map-append}
use Rattle.std.proofs.lemmas.List.{take_more}
use Rattle.std.specs.List.{flat_map}

pub quoted_more : (f : ℕ → List ℕ) (bytes : List ℕ) (k b quote : ℕ) (base ys zs : List ℕ) → k < length bytes → b ≡ get_or bytes k b
    → ys ≡ base ++ quote ∷ flat_map f (take k bytes) → zs ≡ ys ++ f b → zs ≡ base ++ quote ∷ flat_map f (take (k + 1) bytes)
quoted_more f bytes k b quote base ys zs there here before pushed =
    let front : take (k + 1) bytes ≡ take k bytes ++ b ∷ [] = take_more bytes k b there ∙ ap (λ (e : ℕ). take k bytes ++ e ∷ []) (sym here) in
    let gives : flat_map f (take (k + 1) bytes) ≡ flat_map f (take k bytes) ++ f b =
    ap (flat_map f) front ∙ flat_map-append f (take k bytes) (b ∷ []) ∙ ap (λ (x : List ℕ). flat_map f (take k bytes) ++ x) (append-nil (f b)) in
    pushed ∙ ap (λ (x : List ℕ). x ++ f b) before ∙ append_assoc base (quote ∷ flat_map f (take k bytes)) (f b)
    ∙ ap (λ (x : List ℕ). base ++ quote ∷ x) (sym gives)
