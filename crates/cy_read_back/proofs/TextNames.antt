-- The names of a record text's channels: each is new, and each message stands on one of them.
use Rattle.std.proofs.Common.{◌≡◌, ℕ, ◌<◌, ◌≤◌, List, [], ◌∷◌, ◌++◌, length, map, refl, sym, ap, ◌∙◌, subst, arith, append_assoc, append-nil, Bool, true, false, not, Some, None}
use Rattle.std.specs.Prelude.{⊤, ◌||◌, if◌then◌else◌}
use Rattle.std.specs.List.{AllByRecursion, list_any, prefix_len}
use Rattle.std.specs.Str.{bytes_eq, IsUtf8}
use Rattle.std.proofs.lemmas.Bool.{le-ltb, lt-ltb}
use Rattle.std.proofs.lemmas.List.Folds.{list_any-append}
use Rattle.std.proofs.lemmas.Slice.Eq.{bytes_eq-Decides}
use Rattle.cy_section.specs.declared.types.BodyMessage.{BodyMessage}
use Rattle.cy_section.specs.declared.types.Channel.{Channel}
use Rattle.cy_section.specs.RecordText.{names_after}
use Rattle.cy_reader.specs.declared.known.Known.{Known}
use Rattle.cy_reader.specs.Record.{number_of, with_section, longest_name}
use Rattle.cy_read_back.specs.Records.{IsReadableChannel}

-- these names are new, each behind those in front of it
abbrev pub AreNew : List (List ℕ) → List (List ℕ) → Type 0
AreNew front [] = ⊤
AreNew front (n ∷ rest) = (list_any (λ k. bytes_eq k n) front ≡ false) × AreNew (front ++ n ∷ []) rest

new_more : (front xs : List (List ℕ)) (n : List ℕ) → AreNew front xs → list_any (λ k. bytes_eq k n) (front ++ xs) ≡ false → AreNew front (xs ++ n ∷ [])
new_more front [] n are e = (ap (list_any (λ k. bytes_eq k n)) (sym (append-nil front)) ∙ e, tt)
new_more front (x ∷ xs) n are e = (are.0, new_more (front ++ x ∷ []) xs n are.1 (ap (list_any (λ k. bytes_eq k n)) (append_assoc front (x ∷ []) xs) ∙ e))

-- the names once a message was met
abbrev then_named : Bool → List (List ℕ) → List ℕ → List (List ℕ)
then_named b known n = if b then known else known ++ n ∷ []

one_new : (b : Bool) (known : List (List ℕ)) (n : List ℕ) → list_any (λ k. bytes_eq k n) known ≡ b → AreNew [] known → AreNew [] (then_named b known n)
one_new true known n e are = are
one_new false known n e are = new_more [] known n are e

names_new : (known : List (List ℕ)) (ms : List BodyMessage) → AreNew [] known → AreNew [] (names_after known ms)
names_new known [] are = are
names_new known (m ∷ ms) are =
    let b = list_any (λ k. bytes_eq k m.channel_name) known in
    names_new (then_named b known m.channel_name) ms (one_new b known m.channel_name refl are)

pub names_once : (ms : List BodyMessage) → AreNew [] (names_after [] ms)
names_once ms = names_new [] ms tt

-- each message stands on one of them
any_before : (p : List ℕ → Bool) (b : Bool) (known : List (List ℕ)) (n : List ℕ) → list_any p known ≡ true → list_any p (then_named b known n) ≡ true
any_before p true known n e = e
any_before p false known n e = list_any-append p known (n ∷ []) ∙ ap (λ (c : Bool). c || list_any p (n ∷ [])) e

any_stays : (p : List ℕ → Bool) (known : List (List ℕ)) (ms : List BodyMessage) → list_any p known ≡ true → list_any p (names_after known ms) ≡ true
any_stays p known [] e = e
any_stays p known (m ∷ ms) e =
    let b = list_any (λ k. bytes_eq k m.channel_name) known in
    any_stays p (then_named b known m.channel_name) ms (any_before p b known m.channel_name e)

or_true : (b : Bool) → (b || true) ≡ true
or_true true = refl
or_true false = refl

same_name : (n : List ℕ) → list_any (λ k. bytes_eq k n) (n ∷ []) ≡ true
same_name n = ap (λ (c : Bool). c || false) ((bytes_eq-Decides n n).1 refl)

named_there : (b : Bool) (known : List (List ℕ)) (n : List ℕ) → list_any (λ k. bytes_eq k n) known ≡ b → list_any (λ k. bytes_eq k n) (then_named b known n) ≡ true
named_there true known n e = e
named_there false known n e =
    list_any-append (λ k. bytes_eq k n) known (n ∷ []) ∙ ap (λ (c : Bool). list_any (λ k. bytes_eq k n) known || c) (same_name n) ∙ or_true (list_any (λ k. bytes_eq k n) known)

all_named : (known : List (List ℕ)) (ms : List BodyMessage) → AllByRecursion (λ m. list_any (λ k. bytes_eq k m.channel_name) (names_after known ms) ≡ true) ms
all_named known [] = tt
all_named known (m ∷ ms) =
    let b = list_any (λ k. bytes_eq k m.channel_name) known in (
      any_stays (λ k. bytes_eq k m.channel_name) (then_named b known m.channel_name) ms (named_there b known m.channel_name refl),
      all_named (then_named b known m.channel_name) ms,
    )

-- whether a name is one of the channels'
abbrev pub is_name : List ℕ → List Channel → Bool
is_name n channels = list_any (λ k. bytes_eq k n) (map (λ c. c.name) channels)

pub names_there : (channels : List Channel) (ms : List BodyMessage) → map (λ c. c.name) channels ≡ names_after [] ms → AllByRecursion (λ m. is_name m.channel_name channels ≡ true) ms
names_there channels ms named =
    subst (λ (names : List (List ℕ)). AllByRecursion (λ m. list_any (λ k. bytes_eq k m.channel_name) names ≡ true) ms) (sym named) (all_named [] ms)

pub channels_once : (channels : List Channel) (ms : List BodyMessage) → map (λ c. c.name) channels ≡ names_after [] ms → AreNew [] (map (λ c. c.name) channels)
channels_once channels ms named = subst (λ (names : List (List ℕ)). AreNew [] names) (sym named) (names_once ms)

-- it is a text within its limit
either : (b : Bool) (c n : List ℕ) (rest : Bool) → bytes_eq c n ≡ b → (b || rest) ≡ true → (P : List ℕ → Type 0) → P c → (rest ≡ true → P n) → P n
either true c n rest e any P here there = subst P ((bytes_eq-Decides c n).0 e) here
either false c n rest e any P here there = there any

pub name_readable : (n : List ℕ) (channels : List Channel) → is_name n channels ≡ true → AllByRecursion IsReadableChannel channels → (length n ≤ longest_name) × IsUtf8 n
name_readable n [] e are = absurd cc
name_readable n (c ∷ channels) e are =
    either (bytes_eq c.name n) c.name n (is_name n channels) refl e (λ (x : List ℕ). (length x ≤ longest_name) × IsUtf8 x) (are.0.short, are.0.name_is_text)
    (λ there. name_readable n channels there are.1)

-- the number of a name, and of one that is none
none_passes : {X : Type 0} (p : X → Bool) (xs : List X) → list_any p xs ≡ false → prefix_len (λ y. not (p y)) xs ≡ length xs
none_passes p [] e = refl
none_passes p (x ∷ xs) e = by_first (p x) refl e (none_passes p xs)
  where
    by_first : (b : Bool) → p x ≡ b → (b || list_any p xs) ≡ false → (list_any p xs ≡ false → prefix_len (λ y. not (p y)) xs ≡ length xs)
        → prefix_len (λ y. not (p y)) (x ∷ xs) ≡ length (x ∷ xs)
    by_first true is none more = absurd cc
    by_first false is none more =
        let rest = more none in
        rw is (omega arith)

one_passes : {X : Type 0} (p : X → Bool) (xs : List X) → list_any p xs ≡ true → prefix_len (λ y. not (p y)) xs < length xs
one_passes p [] e = absurd cc
one_passes p (x ∷ xs) e = by_first (p x) refl e (one_passes p xs)
  where
    by_first : (b : Bool) → p x ≡ b → (b || list_any p xs) ≡ true → (list_any p xs ≡ true → prefix_len (λ y. not (p y)) xs < length xs)
        → prefix_len (λ y. not (p y)) (x ∷ xs) < length (x ∷ xs)
    by_first true is some more = rw is (omega arith)
    by_first false is some more =
        let rest = more some in
        rw is (omega arith)

any-map : {X Y : Type 0} (f : X → Y) (p : Y → Bool) (xs : List X) → list_any p (map f xs) ≡ list_any (λ x. p (f x)) xs
any-map f p [] = refl
any-map f p (x ∷ xs) = ap (λ (b : Bool). p (f x) || b) (any-map f p xs)

is_known : (n : List ℕ) (channels : List Channel) → is_name n channels ≡ list_any (λ (k : Known). bytes_eq k.channel.name n) (map with_section channels)
is_known n channels = any-map (λ (c : Channel). c.name) (λ k. bytes_eq k n) channels ∙ sym (any-map with_section (λ (k : Known). bytes_eq k.channel.name n) channels)

pub number_of-new : (n : List ℕ) (channels : List Channel) → is_name n channels ≡ false → number_of n (map with_section channels) ≡ None
number_of-new n channels e =
    let p : Known → Bool = λ k. bytes_eq k.channel.name n in
    let all = none_passes p (map with_section channels) (sym (is_known n channels) ∙ e) in
    rw (all, le-ltb (length (map with_section channels)) (length (map with_section channels)) (omega arith)) refl

pub number_of-name : (n : List ℕ) (channels : List Channel) → is_name n channels ≡ true → (i : ℕ) × (number_of n (map with_section channels) ≡ Some i)
number_of-name n channels e =
    let p : Known → Bool = λ k. bytes_eq k.channel.name n in
    let some = one_passes p (map with_section channels) (sym (is_known n channels) ∙ e) in
    (prefix_len (λ k. not (p k)) (map with_section channels), rw (lt-ltb _ _ some) refl)
