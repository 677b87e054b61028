-- What is kept of a file stays sound.
use Rattle.std.proofs.Common.{◌≡◌, ◌<◌, ◌≤◌, ℕ, List, [], ◌∷◌, ◌++◌, length, refl, All, arith}
use Rattle.std.specs.Prelude.{slice_index_or}
use Rattle.std.proofs.lemmas.List.Elements.{All-append, All-cons, All-nil}
use Rattle.cy_reader.specs.declared.loading.Message.{Message}

-- channels that were added leave the messages' numbers in range
pub numbered_grown : (k n : ℕ) (ms : List Message) → All (λ m. m.channel < k) ms → k ≤ n → All (λ m. m.channel < n) ms
numbered_grown k n ms all le = λ i d few. omega (arith, all i d few)

pub numbered_more : (k n : ℕ) (ms : List Message) (m : Message) → All (λ x. x.channel < k) ms → k ≤ n → m.channel < n → All (λ x. x.channel < n) (ms ++ m ∷ [])
numbered_more k n ms m all le here =
    All-append (λ x. x.channel < n) ms (m ∷ []) (numbered_grown k n ms all le) (All-cons (λ x. x.channel < n) m [] here (All-nil (λ x. x.channel < n)))

-- a message more stands in one of the bodies
pub placed_more : (n : ℕ) (ms : List Message) (m : Message) → All (λ x. x.body < n) ms → m.body < n → All (λ x. x.body < n) (ms ++ m ∷ [])
placed_more n ms m all here = All-append (λ x. x.body < n) ms (m ∷ []) all (All-cons (λ x. x.body < n) m [] here (All-nil (λ x. x.body < n)))

-- the last body
pub last_body : (before : List (List ℕ)) (bytes : List ℕ) → slice_index_or (before ++ bytes ∷ []) (length before) [] ≡ bytes
last_body [] bytes = refl
last_body (b ∷ before) bytes = last_body before bytes

pub ruleset sounds = (numbered_grown, numbered_more, placed_more)
