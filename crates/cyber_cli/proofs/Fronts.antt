-- What a sink has after some parts of a line.
use Rattle.std.proofs.Common.{◌≡◌, ℕ, ◌+◌, min, ◌≤◌, List, [], ◌++◌, length, take, Option, Some, None, refl, ◌∙◌, append_assoc, append-nil, arith}
use Rattle.std.proofs.lemmas.List.{take-append-le, take_min}
use Rattle.std.proofs.Math.Seq.{take-append-add}
use Rattle.std.specs.Option.{option_map}
use Rattle.cy_store.specs.Store.{SinkView}
use Rattle.cyber_cli.specs.Told.{Gets, GetsFront}

then_front : (old mid new : Option (List ℕ)) (told rest : List ℕ) (n : ℕ) → mid ≡ option_map (λ b. b ++ told) old → new ≡ option_map (λ b. b ++ take n rest) mid
    → new ≡ option_map (λ b. b ++ take (length told + n) (told ++ rest)) old
then_front None mid new told rest n e f = rw e at f
then_front (Some b) mid new told rest n e f = rw (take-append-add, ← append_assoc) (rw e at f)

wider : (old new : Option (List ℕ)) (told rest : List ℕ) (n : ℕ) → new ≡ option_map (λ b. b ++ take n told) old
    → new ≡ option_map (λ b. b ++ take (min n (length told)) (told ++ rest)) old
wider old new told rest n f =
    let fits : min n (length told) ≤ length told = omega arith in
    rw (take-append-le, take_min) f

unchanged : (old : Option (List ℕ)) → old ≡ option_map (λ b. b ++ []) old
unchanged None = refl
unchanged (Some b) = rw append-nil refl

-- nothing was written
pub GetsFront-none : (old new : SinkView) (told : List ℕ) → new.bytes ≡ old.bytes → GetsFront old new told
GetsFront-none old new told e = (0, e ∙ unchanged old.bytes)

-- a front of the first part
pub GetsFront-first : (old new : SinkView) (told rest : List ℕ) → GetsFront old new told → GetsFront old new (told ++ rest)
GetsFront-first old new told rest (n, f) = (min n (length told), wider old.bytes new.bytes told rest n f)

-- the first part, and then a front of the second one
pub GetsFront-then : (old mid new : SinkView) (told rest : List ℕ) → Gets old mid told → GetsFront mid new rest → GetsFront old new (told ++ rest)
GetsFront-then old mid new told rest e (n, f) = (length told + n, then_front old.bytes mid.bytes new.bytes told rest n e f)

both : (old mid new : Option (List ℕ)) (told rest : List ℕ) → mid ≡ option_map (λ b. b ++ told) old → new ≡ option_map (λ b. b ++ rest) mid
    → new ≡ option_map (λ b. b ++ (told ++ rest)) old
both None mid new told rest e f = rw e at f
both (Some b) mid new told rest e f = rw (← append_assoc) (rw e at f)

-- two parts, one after the other
pub Gets-then : (old mid new : SinkView) (told rest : List ℕ) → Gets old mid told → Gets mid new rest → Gets old new (told ++ rest)
Gets-then old mid new told rest e f = both old.bytes mid.bytes new.bytes told rest e f

-- the three parts of a line: each of the places where it may end
pub fails_first : (old new : SinkView) (a b c : List ℕ) → GetsFront old new a → GetsFront old new (a ++ b ++ c)
fails_first old new a b c f = GetsFront-first old new (a ++ b) c (GetsFront-first old new a b f)

pub fails_second : (old mid new : SinkView) (a b c : List ℕ) → Gets old mid a → GetsFront mid new b → GetsFront old new (a ++ b ++ c)
fails_second old mid new a b c e f = GetsFront-first old new (a ++ b) c (GetsFront-then old mid new a b e f)

pub fails_third : (old first second new : SinkView) (a b c : List ℕ) → Gets old first a → Gets first second b → GetsFront second new c → GetsFront old new (a ++ b ++ c)
fails_third old first second new a b c e f h = GetsFront-then old second new (a ++ b) c (Gets-then old first second a b e f) h
