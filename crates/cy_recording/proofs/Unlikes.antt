-- Where a file first differs from a text, part by part.
use Rattle.std.proofs.Common.{◌≡◌, ℕ, ◌+◌, ◌-◌, ◌<◌, ◌≤◌, suc, Bool, true, false, List, [], ◌∷◌, ◌++◌, length, take, drop, min, Option, Some, None, refl, sym, ap, ◌∙◌, subst, inl, inr, arith, length-append, append_assoc, if◌then◌else◌}
use Rattle.std.specs.Prelude.{◌==◌, ◌⊎◌, IsSomeAnd}
use Rattle.std.proofs.lemmas.Bool.{eq-eqb}
use Rattle.std.specs.FinMap.{get}
use Rattle.cy_store.specs.Files.{Files, Holds}
use Rattle.std.specs.Option.{option_or, option_map}
use Rattle.std.proofs.lemmas.List.{take-append-drop, take_all, take_at, drop_more, drop_all, drop-drop, length-drop, length-take-le}
use Rattle.cy_recording.specs.Compare.{first_difference}
use Rattle.cy_recording.specs.private.Unlike.{unlike, Told}

at_or : (t : Bool) (at : ℕ) (x y z : Option ℕ) → (t ≡ true → x ≡ option_or y z) → (if t then x else Some at) ≡ option_or (if t then y else Some at) z
at_or true at x y z h = h refl
at_or false at x y z h = refl

-- of two texts one behind the other
pub unlike-append : (at : ℕ) (file b c : List ℕ) → unlike at file (b ++ c) ≡ option_or (unlike at file b) (unlike (at + length b) (drop (length b) file) c)
unlike-append at file [] c = ap (λ (n : ℕ). unlike n file c) (omega arith)
unlike-append at [] (x ∷ b) c = refl
unlike-append at (a ∷ file) (x ∷ b) c =
    at_or (a == x) at (unlike (at + 1) file (b ++ c)) (unlike (at + 1) file b) (unlike (at + suc (length b)) (drop (length b) file) c) (λ _.
    unlike-append (at + 1) file b c
    ∙ ap (λ (n : ℕ). option_or (unlike (at + 1) file b) (unlike n (drop (length b) file) c)) (omega arith))

-- the file counts as far as the text goes
pub unlike-take : (at : ℕ) (file b : List ℕ) → unlike at (take (length b) file) b ≡ unlike at file b
unlike-take at file [] = refl
unlike-take at [] (x ∷ b) = refl
unlike-take at (a ∷ file) (x ∷ b) = ap (λ (o : Option ℕ). if a == x then o else Some at) (unlike-take (at + 1) file b)

-- the front of a text, and what is behind it
pub unlike-front : (at n : ℕ) (file text : List ℕ) → n ≤ length text → unlike at file text ≡ option_or (unlike at (take n file) (take n text)) (unlike (at + n) (drop n file) (drop n text))
unlike-front at n file text within =
    let size : length (take n text) ≡ n = length-take-le n text within in
    ap (unlike at file) (sym (take-append-drop n text))
    ∙ unlike-append at file (take n text) (drop n text)
    ∙ ap (λ (o : Option ℕ). option_or o (unlike (at + length (take n text)) (drop (length (take n text)) file) (drop n text)))
    (sym (unlike-take at file (take n text)))
    ∙ ap (λ (k : ℕ). option_or (unlike at (take k file) (take n text)) (unlike (at + k) (drop k file) (drop n text))) size

-- a text that is the same
pub unlike-same : (at : ℕ) (text : List ℕ) → unlike at text text ≡ None
unlike-same at [] = refl
unlike-same at (b ∷ text) =
    ap (λ (t : Bool). if t then unlike (at + 1) text text else Some at) (eq-eqb b b refl) ∙ unlike-same (at + 1) text

-- where the file goes on behind the text
abbrev pub longer : (at : ℕ) → (file text : List ℕ) → Option ℕ
longer at [] [] = None
longer at (a ∷ file) [] = Some at
longer at [] (b ∷ text) = None
longer at (a ∷ file) (b ∷ text) = longer (at + 1) file text

pub longer-more : (at : ℕ) (file text : List ℕ) → length text < length file → longer at file text ≡ Some (at + length text)
longer-more at [] [] more = absurd (below more)
  where
    below : 0 < 0 → ⊥
    below h = omega (arith, h)
longer-more at (a ∷ file) [] more = ap (λ (n : ℕ). Some n) (omega arith)
longer-more at [] (b ∷ text) more = absurd (below more)
  where
    below : suc (length text) < 0 → ⊥
    below h = omega (arith, h)
longer-more at (a ∷ file) (b ∷ text) more = longer-more (at + 1) file text (omega (arith, more)) ∙ ap (λ (n : ℕ). Some n) (omega arith)

pub longer-none : (at : ℕ) (file text : List ℕ) → length file ≤ length text → longer at file text ≡ None
longer-none at [] [] within = refl
longer-none at (a ∷ file) [] within = absurd (below within)
  where
    below : suc (length file) ≤ 0 → ⊥
    below h = omega (arith, h)
longer-none at [] (b ∷ text) within = refl
longer-none at (a ∷ file) (b ∷ text) within = longer-none (at + 1) file text (omega (arith, within))

at_map : (t : Bool) (at : ℕ) (o p z : Option ℕ) → (t ≡ true → option_map (λ n. n + at) (option_map (λ n. n + 1) o) ≡ option_or p z)
    → option_map (λ n. n + at) (if t then option_map (λ n. n + 1) o else Some 0) ≡ option_or (if t then p else Some at) z
at_map true at o p z h = h refl
at_map false at o p z h = ap (λ (n : ℕ). Some n) (omega arith)

twice : (o : Option ℕ) (at : ℕ) → option_map (λ n. n + at) (option_map (λ n. n + 1) o) ≡ option_map (λ n. n + (at + 1)) o
twice None at = refl
twice (Some n) at = ap (λ (k : ℕ). Some k) (omega arith)

pub differs : (at : ℕ) (file text : List ℕ) → option_map (λ n. n + at) (first_difference file text) ≡ option_or (unlike at file text) (longer at file text)
differs at [] [] = refl
differs at [] (b ∷ text) = ap (λ (n : ℕ). Some n) (omega arith)
differs at (a ∷ file) [] = ap (λ (n : ℕ). Some n) (omega arith)
differs at (a ∷ file) (b ∷ text) =
    at_map (a == b) at (first_difference file text) (unlike (at + 1) file text) (longer at (a ∷ file) (b ∷ text)) (λ _.
    twice (first_difference file text) at
    ∙ differs (at + 1) file text)

none_added : (o : Option ℕ) → option_map (λ n. n + 0) o ≡ o
none_added None = refl
none_added (Some n) = ap (λ (k : ℕ). Some k) (omega arith)

pub first_difference_is : (file text : List ℕ) → first_difference file text ≡ option_or (unlike 0 file text) (longer 0 file text)
first_difference_is file text = sym (none_added (first_difference file text)) ∙ differs 0 file text

-- Byte by byte.

-- the file has ended
pub unlike-ended : (at n : ℕ) (file text : List ℕ) → length file ≤ n → n < length text → unlike at (drop n file) (drop n text) ≡ Some at
unlike-ended at n file text over within =
    ap (λ (l : List ℕ). unlike at l (drop n text)) (drop_all n file over) ∙ ap (unlike at []) (drop_more text n 0 within)

-- What a read found.

pub unlike-none : (at : ℕ) (text : List ℕ) → 1 ≤ length text → unlike at [] text ≡ Some at
unlike-none at [] some = absurd (below some)
  where
    below : 1 ≤ 0 → ⊥
    below h = omega (arith, h)
unlike-none at (b ∷ text) some = refl

-- of a file that holds something, where it is told
pub told_of : (files : Option Files) (name : List ℕ) (P : List ℕ → Type 0) → Holds files name P → Told files name P
told_of files name P h m file is there =
    let here : IsSomeAnd (get m name) P = subst (λ (fs : Option Files). Holds fs name P) is h in
    subst (λ (o : Option (List ℕ)). IsSomeAnd o P) there here

ended : (at : ℕ) (before text file : List ℕ) → 1 ≤ length before → 1 ≤ length text → (length before ≡ 0) ⊎ (length file ≤ at) → unlike at (drop at file) text ≡ Some at
ended at before text file room some (inl none) = absurd (below none)
  where
    below : length before ≡ 0 → ⊥
    below h = omega (arith, h, room)
ended at before text file room some (inr over) = ap (λ (l : List ℕ). unlike at l text) (drop_all at file over) ∙ unlike-none at text some

-- it has no byte there
pub at_end : (at : ℕ) (before text name : List ℕ) (files : Option Files) → 1 ≤ length before → 1 ≤ length text
    → Holds files name (λ file. (length before ≡ 0) ⊎ (length file ≤ at)) → Told files name (λ file. unlike at (drop at file) text ≡ Some at)
at_end at before text name files room some h m file is there =
    ended at before text file room some (told_of files name (λ bytes. (length before ≡ 0) ⊎ (length bytes ≤ at)) h m file is there)

read_front : (n : ℕ) (before after rest file : List ℕ) → n ≤ length before → length after ≡ length before → after ≡ take n file ++ drop n before
    → take n (after ++ rest) ≡ take n file
read_front n before after rest file within size is =
    let read = take n file in
    let whole : length after ≡ length read + (length before - n) =
    ap length is ∙ length-append read (drop n before) ∙ ap (λ (i : ℕ). length read + i) (length-drop n before) in
    ap (λ (l : List ℕ). take n (l ++ rest)) is
    ∙ ap (take n) (append_assoc read (drop n before) rest)
    ∙ take_at read (drop n before ++ rest) n (omega (arith, whole, size, within))

-- a text was compared with so many bytes that were read
pub read_of : (at n : ℕ) (before after rest name text : List ℕ) (files : Option Files) → n ≤ length before → length after ≡ length before → n ≤ length text
    → Holds files name (λ file. after ≡ take n (drop at file) ++ drop n before)
    → Told files name (λ file. unlike at (drop at file) text ≡ option_or (unlike at (take n (after ++ rest)) (take n text)) (unlike (at + n) (drop n (drop at file)) (drop n text)))
read_of at n before after rest name text files within size some h m file is there =
    let value = told_of files name (λ bytes. after ≡ take n (drop at bytes) ++ drop n before) h m file is there in
    unlike-front at n (drop at file) text some
    ∙ ap (λ (l : List ℕ). option_or (unlike at l (take n text)) (unlike (at + n) (drop n (drop at file)) (drop n text)))
    (sym (read_front n before after rest (drop at file) within size value))

-- how much is read at once
pub piece_size : (size a : ℕ) (buffer : List ℕ) → size ≡ min a (length buffer) → length (take size buffer) ≡ size
piece_size size a buffer is = length-take-le size buffer (omega (arith, is))

pub piece_some : (size a : ℕ) (buffer : List ℕ) → size ≡ min a (length buffer) → 1 ≤ a → 1 ≤ length buffer → 1 ≤ length (take size buffer)
piece_some size a buffer is some room = omega (arith, is, some, room, piece_size size a buffer is)

pub piece_within : (n size a : ℕ) (buffer : List ℕ) → size ≡ min a (length buffer) → n ≤ length (take size buffer) → n ≤ a
piece_within n size a buffer is within = omega (arith, is, within, piece_size size a buffer is)

-- A text that is compared step by step.

abbrev pub SoFar : (at done : ℕ) → (text file : List ℕ) → Type 0
SoFar at done text file = unlike at (drop at file) text ≡ unlike (at + done) (drop (at + done) file) (drop done text)

pub so_far_start : (at : ℕ) (text file : List ℕ) → SoFar at 0 text file
so_far_start at text file = ap (λ (n : ℕ). unlike n (drop n file) text) (omega arith)

step_on : (at done n : ℕ) (text file : List ℕ) → SoFar at done text file
    → unlike (at + done) (drop (at + done) file) (drop done text) ≡ unlike (at + done + n) (drop n (drop (at + done) file)) (drop n (drop done text))
    → SoFar at (done + n) text file
step_on at done n text file so_far step =
    so_far
    ∙ step
    ∙ ap (λ (l : List ℕ). unlike (at + done + n) l (drop n (drop done text))) (drop-drop n (at + done) file)
    ∙ ap (λ (l : List ℕ). unlike (at + done + n) (drop (at + done + n) file) l) (drop-drop n done text)
    ∙ ap (λ (k : ℕ). unlike k (drop k file) (drop (done + n) text)) (omega arith)

-- more of it is the same
pub told_on : (at done n : ℕ) (text name : List ℕ) (old mid : Option Files) → mid ≡ old → Told old name (SoFar at done text)
    → Told mid name (λ file. unlike (at + done) (drop (at + done) file) (drop done text) ≡ unlike (at + done + n) (drop n (drop (at + done) file)) (drop n (drop done text)))
    → Told old name (SoFar at (done + n) text)
told_on at done n text name old mid same so_far step m file is there =
    step_on at done n text file (so_far m file is there) (step m file (same ∙ is) there)

-- it differs
pub told_unlike : (at done place : ℕ) (text name : List ℕ) (old mid : Option Files) → mid ≡ old → Told old name (SoFar at done text)
    → Told mid name (λ file. unlike (at + done) (drop (at + done) file) (drop done text) ≡ Some place)
    → Told old name (λ file. Some place ≡ unlike at (drop at file) text)
told_unlike at done place text name old mid same so_far step m file is there = sym (so_far m file is there ∙ step m file (same ∙ is) there)

-- all of it is the same
pub told_all : (at done : ℕ) (text name : List ℕ) (old : Option Files) → length text ≤ done → Told old name (SoFar at done text)
    → Told old name (λ file. None ≡ unlike at (drop at file) text)
told_all at done text name old all so_far m file is there =
    sym (so_far m file is there ∙ ap (unlike (at + done) (drop (at + done) file)) (drop_all done text all))

pub rest_whole : (done : ℕ) (text : List ℕ) → take (length text - done) (drop done text) ≡ drop done text
rest_whole done text = take_all (length text - done) (drop done text) (omega (arith, length-drop done text))
