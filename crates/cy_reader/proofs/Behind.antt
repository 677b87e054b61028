-- What is met in a body by itself comes to the same behind what was met before.
use Rattle.std.proofs.Common.{◌≡◌, ◌<◌, ◌≤◌, ◌+◌, ℕ, zero, suc, List, [], ◌∷◌, ◌++◌, length, refl, sym, ap, subst, ◌∙◌, append_assoc, append-nil, length-append, inl, inr, Option, Some, None, Result, Ok, Err, Bool, true, false, if◌then◌else◌, cond, eqb, ltb-true, All, arith}
use Rattle.std.specs.Prelude.{map, sum_by, nat_lt, slice_index, slice_index_or, unwrap_or}
use Rattle.std.specs.List.{position, position_or_len}
use Rattle.std.specs.Str.{bytes_eq}
use Rattle.std.proofs.lemmas.Bool.{le-ltb, lt-ltb, cases_lt}
use Rattle.std.proofs.lemmas.Grind.{common_steps}
use Rattle.std.proofs.lemmas.List.Elements.{All-append, All-cons, All-nil}
use Rattle.std.proofs.lemmas.List.Folds.{position_or_len_push}
use Rattle.std.proofs.lemmas.List.Quantifiers.{position-Some}
use Rattle.std.proofs.lemmas.Slice.Eq.{bytes_eq-Decides}
use Rattle.cy_section.specs.declared.error.SectionError.{SectionError}
use Rattle.cy_section.specs.Reading.{PlacedMessage}
use Rattle.cy_reader.specs.declared.error.LoadError.{LoadError}
use Rattle.cy_reader.specs.declared.error.LoadError.TheVariants.{TooManyChannels, ChannelsTooLarge}
use Rattle.cy_reader.specs.declared.known.Known.{Known}
use Rattle.cy_reader.specs.Record.{◌>>=◌, Met, Message, size_of, number_of, named_only, within_limits, mentioned, name_mentioned, numbered, content_fits, add_message, messages_met, add_body, nothing, most_channels, largest_channels, longest_name, longest_content}
use Rattle.cy_reader.specs.private.Alone.{all_mentioned, name_in, renumbered, behind}
use Rattle.cy_reader.proofs.Sums.{number_of-below, number_of-added}

bind_ok : {A B : Type 0} (r : Result A LoadError) (f : A → Result B LoadError) (y : B) → r >>= f ≡ Ok y → (x : A) × (r ≡ Ok x) × (f x ≡ Ok y)
bind_ok (Ok x) f y e = (x, refl, e)
bind_ok (Err w) f y e = absurd cc

-- ---- a name that is mentioned

within_ok : (xs ys : List Known) → within_limits xs ≡ Ok ys → ys ≡ xs
within_ok xs ys e = by_tests (nat_lt most_channels (length xs)) (nat_lt largest_channels (sum_by size_of xs)) e
  where
    by_tests : (a b : Bool) → (let r : Result (List Known) LoadError = if a then Err TooManyChannels else (if b then Err (ChannelsTooLarge (sum_by size_of xs)) else Ok xs) in r ≡ Ok ys) → ys ≡ xs
    by_tests true b is = absurd cc
    by_tests false true is = absurd cc
    by_tests false false is = cc

-- it was met before, or it is a channel more
data IsMentioned (name : List ℕ) (old new : List Known) : Type 0 where
  again : (n : ℕ) → number_of name old ≡ Some n → new ≡ old → IsMentioned name old new
  first : number_of name old ≡ None → new ≡ old ++ named_only name ∷ [] → IsMentioned name old new

by_number : (name : List ℕ) (old new : List Known) (o : Option ℕ) → number_of name old ≡ o → mentioned name old o ≡ Ok new → IsMentioned name old new
by_number name old new (Some n) is e = again n is (let same : old ≡ new = cc in sym same)
by_number name old new None is e = first is (within_ok (old ++ named_only name ∷ []) new e)

name_short : (name : List ℕ) (old new : List Known) → name_mentioned name old ≡ Ok new → length name ≤ longest_name
unfolding name_mentioned
name_short name old new e = elim (cases_lt longest_name (length name)) [
  | inl large ↦ absurd (let wrong = rw (lt-ltb longest_name (length name) large) at e in cc)
  | inr small ↦ small
]

is_mentioned : (name : List ℕ) (old new : List Known) → name_mentioned name old ≡ Ok new → IsMentioned name old new
unfolding name_mentioned
is_mentioned name old new e =
    let small = name_short name old new e in
    by_number name old new (number_of name old) refl (rw (le-ltb longest_name (length name) small) at e)

mention_again : (name : List ℕ) (channels : List Known) (n : ℕ) → length name ≤ longest_name → number_of name channels ≡ Some n → name_mentioned name channels ≡ Ok channels
unfolding name_mentioned
mention_again name channels n short is = rw (le-ltb longest_name (length name) short, is) refl

-- it has a number then, and other names keep theirs
kept_place : (place n m : ℕ) → place < n → cond (nat_lt (cond (eqb place n) (n + m) place) (n + 1)) (Some (cond (eqb place n) (n + m) place)) None ≡ Some place
kept_place place n m less = grind (arith, common_steps)

by_place : {X : Type 0} (p : X → Bool) (xs : List X) (y : X) (n : ℕ) (b : Bool) → nat_lt (position_or_len p xs) (length xs) ≡ b → cond b (Some (position_or_len p xs)) None ≡ Some n → position p (xs ++ y ∷ []) ≡ Some n
by_place p xs y n true is e =
    let less = ltb-true (position_or_len p xs) (length xs) is in
    let longer : length (xs ++ y ∷ []) ≡ length xs + 1 = omega (arith, length-append xs (y ∷ [])) in
    let there : position p (xs ++ y ∷ []) ≡ Some (position_or_len p xs) = rw (position_or_len_push p xs y, longer) (kept_place (position_or_len p xs) (length xs) (cond (p y) 0 1) less) in
    there ∙ e
by_place p xs y n false is e = absurd cc

pub number_of-stays : (q : List ℕ) (xs : List Known) (y : Known) (n : ℕ) → number_of q xs ≡ Some n → number_of q (xs ++ y ∷ []) ≡ Some n
number_of-stays q xs y n e = by_place (λ k. bytes_eq k.channel.name q) xs y n (nat_lt (position_or_len (λ k. bytes_eq k.channel.name q) xs) (length xs)) refl e

number_found : (name : List ℕ) (old new : List Known) → IsMentioned name old new → (n : ℕ) × (number_of name new ≡ Some n)
number_found name old new (again n is same) = (n, ap (number_of name) same ∙ is)
number_found name old new (first none grown) = (length old, ap (number_of name) grown ∙ number_of-added name old none)

stays_by : (name : List ℕ) (old new : List Known) (q : List ℕ) (n : ℕ) → IsMentioned name old new → number_of q old ≡ Some n → number_of q new ≡ Some n
stays_by name old new q n (again k is same) e = ap (number_of q) same ∙ e
stays_by name old new q n (first none grown) e = ap (number_of q) grown ∙ number_of-stays q old (named_only name) n e

pub mention_stays : (name : List ℕ) (old new : List Known) (q : List ℕ) (n : ℕ) → name_mentioned name old ≡ Ok new → number_of q old ≡ Some n → number_of q new ≡ Some n
mention_stays name old new q n e is = stays_by name old new q n (is_mentioned name old new e) is

name_of_number : (name : List ℕ) (channels : List Known) (n : ℕ) → number_of name channels ≡ Some n → name_in channels n ≡ name
name_of_number name channels n is =
    let found = position-Some (λ k. bytes_eq k.channel.name name) channels n (named_only []) is in
    (bytes_eq-Decides (name_in channels n) name).0 found.1

-- ---- names that are mentioned one after another

all_stays : (xs a b : List Known) (q : List ℕ) (n : ℕ) → all_mentioned xs a ≡ Ok b → number_of q a ≡ Some n → number_of q b ≡ Some n
all_stays [] a b q n e is = let same : a ≡ b = cc in ap (number_of q) (sym same) ∙ is
all_stays (x ∷ xs) a b q n e is =
    let s = bind_ok (name_mentioned x.channel.name a) (all_mentioned xs) b e in
    all_stays xs s.0 b q n s.2 (mention_stays x.channel.name a s.0 q n s.1 is)

all_found : (xs a b : List Known) (k : ℕ) → all_mentioned xs a ≡ Ok b → k < length xs → (n : ℕ) × (number_of (name_in xs k) b ≡ Some n)
all_found [] a b k e few = absurd (omega arith)
all_found (x ∷ xs) a b zero e few =
    let s = bind_ok (name_mentioned x.channel.name a) (all_mentioned xs) b e in
    let found = number_found x.channel.name a s.0 (is_mentioned x.channel.name a s.0 s.1) in
    (found.0, all_stays xs s.0 b x.channel.name found.0 s.2 found.1)
all_found (x ∷ xs) a b (suc k) e few =
    let s = bind_ok (name_mentioned x.channel.name a) (all_mentioned xs) b e in
    all_found xs s.0 b k s.2 (omega arith)

-- an item behind others, and those before it
pub index-before : {X : Type 0} (xs : List X) (y d : X) (i : ℕ) → i < length xs → slice_index_or (xs ++ y ∷ []) i d ≡ slice_index_or xs i d
index-before [] y d i few = absurd (omega arith)
index-before (x ∷ xs) y d zero few = refl
index-before (x ∷ xs) y d (suc i) few = index-before xs y d i (omega arith)

pub index-last : {X : Type 0} (xs : List X) (y d : X) → slice_index_or (xs ++ y ∷ []) (length xs) d ≡ y
index-last [] y d = refl
index-last (x ∷ xs) y d = index-last xs y d

-- one more of those that are left
pub mentioned_one : (left rest : List Known) (k : Known) (now new : List Known) (all : Result (List Known) LoadError) → left ≡ k ∷ rest → name_mentioned k.channel.name now ≡ Ok new → all_mentioned left now ≡ all
    → all_mentioned rest new ≡ all
mentioned_one left rest k now new all is met so_far =
    sym (ap (λ (r : Result (List Known) LoadError). r >>= all_mentioned rest) met) ∙ sym (ap (λ (ks : List Known). all_mentioned ks now) is) ∙ so_far

pub mentioned_wrong : (left rest : List Known) (k : Known) (now : List Known) (all : Result (List Known) LoadError) (e : LoadError) → left ≡ k ∷ rest → name_mentioned k.channel.name now ≡ Err e → all_mentioned left now ≡ all
    → all ≡ Err e
mentioned_wrong left rest k now all e is wrong so_far =
    sym so_far ∙ ap (λ (ks : List Known). all_mentioned ks now) is ∙ ap (λ (r : Result (List Known) LoadError). r >>= all_mentioned rest) wrong

-- the numbers of those that were mentioned
pub numbers_grow : (others : List Known) (numbers pushed : List ℕ) (x : ℕ) (name : List ℕ) (now new : List Known) → pushed ≡ numbers ++ x ∷ [] → name ≡ name_in others (length numbers)
    → name_mentioned name now ≡ Ok new → number_of name new ≡ Some x → ((n : ℕ) → n < length numbers → number_of (name_in others n) now ≡ Some (slice_index numbers n))
    → (n : ℕ) → n < length pushed → number_of (name_in others n) new ≡ Some (slice_index pushed n)
numbers_grow others numbers pushed x name now new is named mention number before n few = elim (cases_lt n (length numbers)) [
  | inl less ↦
      let same : slice_index pushed n ≡ slice_index numbers n = ap (λ (l : List ℕ). slice_index l n) is ∙ index-before numbers x 0 n less in
      mention_stays name now new (name_in others n) (slice_index numbers n) mention (before n less) ∙ ap (λ (k : ℕ). Some k) (sym same)
  | inr past ↦
      let here : n ≡ length numbers = omega (arith, ap length is, length-append numbers (x ∷ []), few) in
      let same : slice_index pushed n ≡ x = ap (λ (k : ℕ). slice_index pushed k) here ∙ ap (λ (l : List ℕ). slice_index l (length numbers)) is ∙ index-last numbers x 0 in
      ap (λ (k : ℕ). number_of (name_in others k) new) here ∙ ap (λ (q : List ℕ). number_of q new) (sym named) ∙ number ∙ ap (λ (k : ℕ). Some k) (sym same)
]

pub below_grow : (k m x : ℕ) (numbers pushed : List ℕ) → pushed ≡ numbers ++ x ∷ [] → All (λ n. n < k) numbers → k ≤ m → x < m → All (λ n. n < m) pushed
below_grow k m x numbers pushed is before more below = subst (All (λ n. n < m)) (sym is)
    (All-append (λ n. n < m) numbers (x ∷ []) (λ i d few. omega (arith, before i d few, more)) (All-cons (λ n. n < m) x [] below (All-nil (λ n. n < m))))

none_behind : (r : Result (List Known) LoadError) → r >>= all_mentioned [] ≡ r
none_behind (Ok x) = refl
none_behind (Err e) = refl

pub all_mentioned-more : (xs : List Known) (y : Known) (a : List Known) → all_mentioned (xs ++ y ∷ []) a ≡ all_mentioned xs a >>= name_mentioned y.channel.name
all_mentioned-more [] y a = none_behind (name_mentioned y.channel.name a)
all_mentioned-more (x ∷ xs) y a = over (name_mentioned x.channel.name a) (all_mentioned-more xs y)
  where
    over : (r : Result (List Known) LoadError) → ((d : List Known) → all_mentioned (xs ++ y ∷ []) d ≡ all_mentioned xs d >>= name_mentioned y.channel.name)
        → r >>= all_mentioned (xs ++ y ∷ []) ≡ (r >>= all_mentioned xs) >>= name_mentioned y.channel.name
    over (Ok d) f = f d
    over (Err e) f = refl

-- ---- a message more

-- what is met with it, once its channel has a number
abbrev with_it : PlacedMessage → Met → List Known → Result Met LoadError
with_it m c channels = Ok (record { channels = channels; messages = c.messages ++ numbered m channels ∷ [] })

abbrev after_mention : PlacedMessage → Met → List Known → Result Met LoadError
after_mention m c channels = content_fits m.message.content (with_it m c channels)

content_short : (m : PlacedMessage) (old new : Met) → add_message m old ≡ Ok new → length m.message.content ≤ longest_content
unfolding add_message
content_short m old new e = elim (cases_lt longest_content (length m.message.content)) [
  | inl large ↦ absurd (let s = bind_ok (name_mentioned m.message.channel_name old.channels) (after_mention m old) new e in let wrong = rw (lt-ltb longest_content (length m.message.content) large) at s.2 in cc)
  | inr small ↦ small
]

message_is : (m : PlacedMessage) (c : Met) → length m.message.content ≤ longest_content → add_message m c ≡ name_mentioned m.message.channel_name c.channels >>= with_it m c
unfolding add_message
message_is m c small = rw (le-ltb longest_content (length m.message.content) small) refl

record IsTaken (m : PlacedMessage) (old new : Met) : Type 0 where
  pub short : length m.message.content ≤ longest_content
  pub mention : name_mentioned m.message.channel_name old.channels ≡ Ok new.channels
  pub more : new.messages ≡ old.messages ++ numbered m new.channels ∷ []

is_taken : (m : PlacedMessage) (old new : Met) → add_message m old ≡ Ok new → IsTaken m old new
is_taken m old new e =
    let short = content_short m old new e in
    let s = bind_ok (name_mentioned m.message.channel_name old.channels) (with_it m old) new (sym (message_is m old short) ∙ e) in
    let P : Met → Type 0 = λ x. (name_mentioned m.message.channel_name old.channels ≡ Ok x.channels) × (x.messages ≡ old.messages ++ numbered m x.channels ∷ []) in
    let made : Met = record { channels = s.0; messages = old.messages ++ numbered m s.0 ∷ [] } in
    let same : made ≡ new = cc (s.2) in
    let both = subst P same (s.1, refl) in
    record { short = short; mention = both.0; more = both.1 }

-- its channel has a number less than there are channels, as those before it have
abbrev AreNumbered : Met → Type 0
AreNumbered c = All (λ m. m.channel < length c.channels) c.messages

grown : (name : List ℕ) (old new : List Known) → IsMentioned name old new → length old ≤ length new
grown name old new (again n is same) = omega (arith, ap length same)
grown name old new (first none more) = omega (arith, ap length more, length-append old (named_only name ∷ []))

-- ---- what is met alone, behind what was met before

maps : (f g : Message → Message) (k : ℕ) (ms : List Message) → All (λ m. m.channel < k) ms → ((m : Message) → m.channel < k → f m ≡ g m) → map f ms ≡ map g ms
maps f g k [] all same = refl
maps f g k (m ∷ ms) all same = rw (same m (all 0 m (omega arith)), maps f g k ms (λ i d few. all (suc i) d (omega arith)) same) refl

map-more : (f : Message → Message) (ms : List Message) (m : Message) → map f (ms ++ m ∷ []) ≡ map f ms ++ f m ∷ []
map-more f [] m = refl
map-more f (x ∷ ms) m = ap (λ (l : List Message). f x ∷ l) (map-more f ms m)

module _ (c : Met) where
  abbrev whole : Met → List Known → Met
  whole l channels = record { channels = channels; messages = c.messages ++ map (renumbered l.channels channels) l.messages }

  abbrev put : Met → List Known → Result Met LoadError
  put l channels = Ok (whole l channels)

  behind_is : (l : Met) (r : Result (List Known) LoadError) → all_mentioned l.channels c.channels ≡ r → behind l c ≡ r >>= put l
  behind_is l r is = ap (λ (x : Result (List Known) LoadError). x >>= put l) is

  -- the message stands behind the others
  messages_more : (m : PlacedMessage) (l next : Met) (channels now : List Known) (n : ℕ) → IsTaken m l next → number_of m.message.channel_name next.channels ≡ Some n
      → map (renumbered next.channels now) l.messages ≡ map (renumbered l.channels channels) l.messages
      → with_it m (whole l channels) now ≡ put next now
  messages_more m l next channels now n taken is same =
      let name = name_of_number m.message.channel_name next.channels n is in
      let number : unwrap_or (number_of m.message.channel_name next.channels) 0 ≡ n = ap (λ (o : Option ℕ). unwrap_or o 0) is in
      let new : renumbered next.channels now (numbered m next.channels) ≡ numbered m now = rw (number, name) refl in
      let all : map (renumbered next.channels now) next.messages ≡ map (renumbered l.channels channels) l.messages ++ numbered m now ∷ []
      = ap (map (renumbered next.channels now)) taken.more ∙ map-more (renumbered next.channels now) l.messages (numbered m next.channels) ∙ rw (same, new) refl in
      ap (λ (ms : List Message). let made : Met = record { channels = now; messages = ms } in let r : Result Met LoadError = Ok made in r)
      (append_assoc c.messages (map (renumbered l.channels channels) l.messages) (numbered m now ∷ []) ∙ ap (λ (ms : List Message). c.messages ++ ms) (sym all))

  -- the messages before it keep their numbers, where the channels are the same, and where there is one more
  numbers_same : (l next : Met) (channels : List Known) → next.channels ≡ l.channels → map (renumbered next.channels channels) l.messages ≡ map (renumbered l.channels channels) l.messages
  numbers_same l next channels same = ap (λ (ks : List Known). map (renumbered ks channels) l.messages) same

  numbers_more : (name : List ℕ) (l next : Met) (channels now : List Known) → AreNumbered l → next.channels ≡ l.channels ++ named_only name ∷ [] → all_mentioned l.channels c.channels ≡ Ok channels
      → name_mentioned name channels ≡ Ok now → map (renumbered next.channels now) l.messages ≡ map (renumbered l.channels channels) l.messages
  numbers_more name l next channels now few grown all mention = maps (renumbered next.channels now) (renumbered l.channels channels) (length l.channels) l.messages few (λ m small.
      let found = all_found l.channels c.channels channels m.channel all small in
      let after = mention_stays name channels now (name_in l.channels m.channel) found.0 mention found.1 in
      let there : name_in next.channels m.channel ≡ name_in l.channels m.channel
      = ap (λ (ks : List Known). name_in ks m.channel) grown ∙ ap (λ (k : Known). k.channel.name) (index-before l.channels (named_only name) (named_only []) m.channel small) in
      rw (there, after, found.1) refl)

  again_ok : (m : PlacedMessage) (l next : Met) (n : ℕ) (channels : List Known) → IsTaken m l next → number_of m.message.channel_name l.channels ≡ Some n → next.channels ≡ l.channels
      → all_mentioned l.channels c.channels ≡ Ok channels → add_message m (whole l channels) ≡ put next channels
  again_ok m l next n channels taken is same all =
      let name = m.message.channel_name in
      let found = all_found l.channels c.channels channels n all (number_of-below name l.channels n is) in
      let there = ap (λ (q : List ℕ). number_of q channels) (sym (name_of_number name l.channels n is)) ∙ found.1 in
      let kept = mention_again name channels found.0 (name_short name l.channels next.channels taken.mention) there in
      message_is m (whole l channels) taken.short ∙ ap (λ (r : Result (List Known) LoadError). r >>= with_it m (whole l channels)) kept
      ∙ messages_more m l next channels channels n taken (ap (number_of name) same ∙ is) (numbers_same l next channels same)

  first_ok : (m : PlacedMessage) (l next : Met) (channels : List Known) → IsTaken m l next → number_of m.message.channel_name l.channels ≡ None
      → next.channels ≡ l.channels ++ named_only m.message.channel_name ∷ [] → AreNumbered l → all_mentioned l.channels c.channels ≡ Ok channels
      → add_message m (whole l channels) ≡ name_mentioned m.message.channel_name channels >>= put next
  first_ok m l next channels taken none grown few all =
      message_is m (whole l channels) taken.short ∙ by_answer (name_mentioned m.message.channel_name channels) refl
    where
      by_answer : (r : Result (List Known) LoadError) → name_mentioned m.message.channel_name channels ≡ r → r >>= with_it m (whole l channels) ≡ r >>= put next
      by_answer (Err e) is = refl
      by_answer (Ok now) is =
          let number = ap (number_of m.message.channel_name) grown ∙ number_of-added m.message.channel_name l.channels none in
          messages_more m l next channels now (length l.channels) taken number (numbers_more m.message.channel_name l next channels now few grown all is)

  by_mention : (m : PlacedMessage) (l next : Met) (r : Result (List Known) LoadError) → IsTaken m l next → AreNumbered l → IsMentioned m.message.channel_name l.channels next.channels
      → all_mentioned l.channels c.channels ≡ r → (r >>= put l) >>= add_message m ≡ all_mentioned next.channels c.channels >>= put next
  by_mention m l next (Err e) taken few (again n is same) all =
      sym (ap (λ (ks : List Known). all_mentioned ks c.channels >>= put next) same ∙ ap (λ (x : Result (List Known) LoadError). x >>= put next) all)
  by_mention m l next (Ok channels) taken few (again n is same) all =
      again_ok m l next n channels taken is same all
      ∙ sym (ap (λ (ks : List Known). all_mentioned ks c.channels >>= put next) same ∙ ap (λ (x : Result (List Known) LoadError). x >>= put next) all)
  by_mention m l next (Err e) taken few (first none grown) all =
      sym (ap (λ (ks : List Known). all_mentioned ks c.channels >>= put next) grown ∙ ap (λ (x : Result (List Known) LoadError). x >>= put next) (all_mentioned-more l.channels (named_only m.message.channel_name) c.channels)
      ∙ ap (λ (x : Result (List Known) LoadError). (x >>= name_mentioned m.message.channel_name) >>= put next) all)
  by_mention m l next (Ok channels) taken few (first none grown) all =
      first_ok m l next channels taken none grown few all
      ∙ sym (ap (λ (ks : List Known). all_mentioned ks c.channels >>= put next) grown ∙ ap (λ (x : Result (List Known) LoadError). x >>= put next) (all_mentioned-more l.channels (named_only m.message.channel_name) c.channels)
      ∙ ap (λ (x : Result (List Known) LoadError). (x >>= name_mentioned m.message.channel_name) >>= put next) all)

  one_more : (m : PlacedMessage) (l next : Met) → add_message m l ≡ Ok next → AreNumbered l → behind l c >>= add_message m ≡ behind next c
  one_more m l next e few =
      let taken = is_taken m l next e in
      by_mention m l next (all_mentioned l.channels c.channels) taken few (is_mentioned m.message.channel_name l.channels next.channels taken.mention) refl

  still_numbered : (m : PlacedMessage) (l next : Met) → add_message m l ≡ Ok next → AreNumbered l → AreNumbered next
  still_numbered m l next e few =
      let taken = is_taken m l next e in
      let mention = is_mentioned m.message.channel_name l.channels next.channels taken.mention in
      let found = number_found m.message.channel_name l.channels next.channels mention in
      let below = number_of-below m.message.channel_name next.channels found.0 found.1 in
      let number : unwrap_or (number_of m.message.channel_name next.channels) 0 ≡ found.0 = ap (λ (o : Option ℕ). unwrap_or o 0) found.1 in
      let longer = grown m.message.channel_name l.channels next.channels mention in
      subst (λ (ms : List Message). All (λ x. x.channel < length next.channels) ms) (sym taken.more)
      (All-append (λ x. x.channel < length next.channels) l.messages (numbered m next.channels ∷ []) (λ i d small. omega (arith, few i d small, longer))
      (All-cons (λ x. x.channel < length next.channels) (numbered m next.channels) [] (omega (arith, below, number)) (All-nil (λ x. x.channel < length next.channels))))

  then_all : (r : Result Met LoadError) (m : PlacedMessage) (ms : List PlacedMessage) → r >>= messages_met (m ∷ ms) ≡ (r >>= add_message m) >>= messages_met ms
  then_all (Ok d) m ms = refl
  then_all (Err e) m ms = refl

  then_none : (r : Result Met LoadError) → r >>= messages_met [] ≡ r
  then_none (Ok d) = refl
  then_none (Err e) = refl

  all_more : (ms : List PlacedMessage) (l last : Met) → messages_met ms l ≡ Ok last → AreNumbered l → behind l c >>= messages_met ms ≡ behind last c
  all_more [] l last e few = let same : l ≡ last = cc in then_none (behind l c) ∙ ap (λ (x : Met). behind x c) same
  all_more (m ∷ ms) l last e few =
      let s = bind_ok (add_message m l) (messages_met ms) last e in
      then_all (behind l c) m ms ∙ ap (λ (r : Result Met LoadError). r >>= messages_met ms) (one_more m l s.0 s.1 few) ∙ all_more ms s.0 last s.2 (still_numbered m l s.0 s.1 few)

  messages_alone : (ms : List PlacedMessage) (alone : Met) → messages_met ms nothing ≡ Ok alone → messages_met ms c ≡ behind alone c
  messages_alone ms alone e =
      let start : behind nothing c ≡ Ok c = ap (λ (l : List Message). let made : Met = record { channels = c.channels; messages = l } in let r : Result Met LoadError = Ok made in r) (append-nil c.messages) in
      sym (ap (λ (r : Result Met LoadError). r >>= messages_met ms) start) ∙ all_more ms nothing alone e (All-nil (λ (m : Message). m.channel < 0))

  pub body_alone : (fault : Option SectionError) (ms : List PlacedMessage) (alone : Met) → add_body fault ms nothing ≡ Ok alone → add_body fault ms c ≡ behind alone c
  body_alone None ms alone e = messages_alone ms alone e
  body_alone (Some fault) ms alone e = absurd cc
