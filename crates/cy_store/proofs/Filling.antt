-- A buffer that is filled a piece at a time.
use Rattle.std.proofs.Common.{◌≡◌, ℕ, ◌+◌, ◌≤◌, List, ◌++◌, length, take, ap, ◌∙◌, take-add}
use Rattle.std.proofs.lemmas.List.{length-take-le, take_at, drop_at, take-append-le}

-- the front of a buffer after a piece was read behind its first bytes
pub take-filled : (filled count : ℕ) (old part rest : List ℕ) → filled ≤ length old → count ≤ length part
    → take (filled + count) (take filled old ++ (part ++ rest)) ≡ take filled old ++ take count part
take-filled filled count old part rest within fits =
    let front : length (take filled old) ≡ filled = length-take-le filled old within in
    let whole = take filled old ++ (part ++ rest) in
    take-add filled count whole
    ∙ (λ i. take_at (take filled old) (part ++ rest) filled front i ++ take count (drop_at (take filled old) (part ++ rest) filled front i))
    ∙ ap (λ l. take filled old ++ l) (take-append-le count part rest fits)
