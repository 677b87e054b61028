-- The channels of a later record joined to those that are kept.
use Rattle.std.proofs.Common.{◌≡◌, ◌<◌, ◌≤◌, ◌+◌, ◌^◌, ℕ, List, [], ◌∷◌, ◌++◌, length, set, get_or, refl, sym, ap, subst, ◌∙◌, arith, Option, Some, None, Result, Ok, Err, inl, inr, length-append}
use Rattle.std.specs.Prelude.{sum_by, slice_index}
use Rattle.std.specs.Str.{bytes_eq}
use Rattle.std.proofs.lemmas.Bool.{le-ltb, cases_lt}
use Rattle.std.proofs.lemmas.List.{get_or_read, set-get_or}
use Rattle.std.proofs.lemmas.List.Quantifiers.{position-Some}
use Rattle.std.proofs.lemmas.Option.{slice_get-get_or}
use Rattle.std.proofs.lemmas.Slice.Eq.{bytes_eq-Decides}
use Rattle.cy_msg.specs.Once.{IsOnce}
use Rattle.cy_reader.specs.declared.error.LoadError.{LoadError}
use Rattle.cy_reader.specs.declared.known.Known.{Known}
use Rattle.cy_reader.specs.United.{channel_joined, channels_joined, first_of, joined_at, known_in, united}
use Rattle.cy_reader.specs.Record.{◌>>=◌, size_of, number_of, named_only, within_limits, most_channels, largest_channels}
use Rattle.cy_reader.specs.Said.{names_of}
use Rattle.cy_reader.specs.private.Alone.{name_in}
use Rattle.cy_reader.specs.private.Loading.{AreSmall, Grows, Mentions}
use Rattle.cy_reader.specs.declared.channels.Channels.{Channels}
use Rattle.cy_reader.proofs.Behind.{index-before, index-last, number_of-stays}
use Rattle.cy_reader.proofs.Sums.{number_of-below, position-added, size_of-le}
use Rattle.cy_reader.proofs.Tied.{number_of-replaced}
use Rattle.cy_reader.proofs.Told.{bind_ok, one_more, replaced, within_ok}

-- ---- a channel of the same name

same_name : (later : Known) (channels : List Known) (n : ℕ) → number_of later.channel.name channels ≡ Some n → (known_in channels n).channel.name ≡ later.channel.name
same_name later channels n there =
    let found = position-Some (λ k. bytes_eq k.channel.name later.channel.name) channels n (named_only []) there in
    (bytes_eq-Decides (known_in channels n).channel.name later.channel.name).0 found.1

-- the channel of a number, as it was read
read_is : (channels : List Known) (n : ℕ) (known : Known) → n < length channels → known ≡ get_or channels n known → known ≡ known_in channels n
read_is channels n known few is = get_or_read channels n known few is (named_only [])

small_within : (channels : List Known) → AreSmall channels → within_limits channels ≡ Ok channels
small_within channels small = rw (le-ltb most_channels (length channels) small.few, le-ltb largest_channels (sum_by size_of channels) small.small) refl

joined_there : (later : Known) (channels : List Known) (n : ℕ) → number_of later.channel.name channels ≡ Some n → channel_joined later channels ≡ within_limits (set channels n (united (known_in channels n) later))
unfolding channel_joined
joined_there later channels n there = ap (joined_at later channels) there

-- it has all that the later one says
pub joined_same : (later : Known) (channels : List Known) (n : ℕ) (known : Known) → AreSmall channels → number_of later.channel.name channels ≡ Some n → known ≡ get_or channels n known → united known later ≡ known → channel_joined later channels ≡ Ok channels
joined_same later channels n known small there is has =
    let read = read_is channels n known (number_of-below later.channel.name channels n there) is in
    joined_there later channels n there
    ∙ ap (λ (k : Known). within_limits (set channels n (united k later))) (sym read)
    ∙ ap (λ (k : Known). within_limits (set channels n k)) (has ∙ read)
    ∙ ap within_limits (set-get_or channels n (named_only []))
    ∙ small_within channels small

-- it is united with that
pub joined_united : (later : Known) (channels : List Known) (n : ℕ) (known made : Known) → number_of later.channel.name channels ≡ Some n → known ≡ get_or channels n known → made ≡ united known later
    → channel_joined later channels ≡ within_limits (set channels n made)
joined_united later channels n known made there is made_is =
    let read = read_is channels n known (number_of-below later.channel.name channels n there) is in
    joined_there later channels n there ∙ ap (λ (k : Known). within_limits (set channels n k)) (ap (λ (k : Known). united k later) (sym read) ∙ sym made_is)

pub united_there : (later : Known) (channels : List Known) (n : ℕ) (known made : Known) → number_of later.channel.name channels ≡ Some n → known ≡ get_or channels n known → made ≡ united known later
    → number_of made.channel.name channels ≡ Some n
united_there later channels n known made there is made_is =
    let read = read_is channels n known (number_of-below later.channel.name channels n there) is in
    let name : made.channel.name ≡ later.channel.name = ap (λ (k : Known). k.channel.name) made_is ∙ ap (λ (k : Known). k.channel.name) read ∙ same_name later channels n there in
    ap (λ (q : List ℕ). number_of q channels) name ∙ there

first_short : (kept later : List ℕ) → length (first_of kept later) ≤ length kept + length later
first_short [] later = omega arith
first_short (b ∷ rest) later = omega arith

pub united_small : (later : Known) (channels : List Known) (n : ℕ) (known made : Known) → AreSmall channels → size_of later ≤ largest_channels → number_of later.channel.name channels ≡ Some n → known ≡ get_or channels n known
    → made ≡ united known later → size_of made < 2 ^ 62
united_small later channels n known made small fits there is made_is =
    let few = number_of-below later.channel.name channels n there in
    let read = read_is channels n known few is in
    let one : size_of (known_in channels n) ≤ sum_by size_of channels = size_of-le channels n (named_only []) few in
    let here : size_of known ≤ sum_by size_of channels = subst (λ (k : Known). size_of k ≤ sum_by size_of channels) (sym read) one in
    let all : size_of (united known later) ≤ size_of known + size_of later =
    omega (arith, first_short known.channel.message_type later.channel.message_type, first_short known.channel.proto_desc later.channel.proto_desc) in
    subst (λ (k : Known). size_of k < 2 ^ 62) (sym made_is) (omega (arith, all, here, small.small, fits))

-- a channel of a new name
pub joined_new : (later : Known) (channels : List Known) → number_of later.channel.name channels ≡ None → channel_joined later channels ≡ within_limits (channels ++ later ∷ [])
unfolding channel_joined
joined_new later channels none = ap (joined_at later channels) none

-- ---- what stands then

pub data IsJoined (later : Known) (old new : List Known) : Type 0 where
  again : (n : ℕ) → number_of later.channel.name old ≡ Some n → set old n (united (known_in old n) later) ≡ new → IsJoined later old new
  first : number_of later.channel.name old ≡ None → old ++ later ∷ [] ≡ new → IsJoined later old new

is_joined : (later : Known) (old new : List Known) → channel_joined later old ≡ Ok new → IsJoined later old new
unfolding channel_joined
is_joined later old new = by (number_of later.channel.name old) refl
  where
    by : (o : Option ℕ) → number_of later.channel.name old ≡ o → joined_at later old (number_of later.channel.name old) ≡ Ok new → IsJoined later old new
    by (Some n) is e = again n is (within_ok (set old n (united (known_in old n) later)) new (sym (ap (joined_at later old) is) ∙ e))
    by None is e = first is (within_ok (old ++ later ∷ []) new (sym (ap (joined_at later old) is) ∙ e))

-- a name keeps its number
stays_by : (later : Known) (old new : List Known) (q : List ℕ) (n : ℕ) → IsJoined later old new → number_of q old ≡ Some n → number_of q new ≡ Some n
stays_by later old new q n (again m there is) e =
    let made = united (known_in old m) later in
    let at : number_of made.channel.name old ≡ Some m = ap (λ (name : List ℕ). number_of name old) (same_name later old m there) ∙ there in
    ap (number_of q) (sym is) ∙ number_of-replaced q old m made at ∙ e
stays_by later old new q n (first none is) e = ap (number_of q) (sym is) ∙ number_of-stays q old later n e

pub joined_stays : (later : Known) (old new : List Known) (q : List ℕ) (n : ℕ) → channel_joined later old ≡ Ok new → number_of q old ≡ Some n → number_of q new ≡ Some n
joined_stays later old new q n e = stays_by later old new q n (is_joined later old new e)

-- and a new one has the last
pub joined_last : (later : Known) (old new : List Known) → number_of later.channel.name old ≡ None → channel_joined later old ≡ Ok new → number_of later.channel.name new ≡ Some (length old)
joined_last later old new none e =
    let decides = bytes_eq-Decides later.channel.name later.channel.name in
    ap (number_of later.channel.name) (sym (within_ok (old ++ later ∷ []) new (sym (joined_new later old none) ∙ e))) ∙ position-added (λ k. bytes_eq k.channel.name later.channel.name) old later none (decides.1 refl)

-- no name stands twice
once_by : (later : Known) (old new : List Known) → IsJoined later old new → IsOnce (names_of old) → IsOnce (names_of new)
once_by later old new (again m there is) once =
    let made = united (known_in old m) later in
    let at : number_of made.channel.name old ≡ Some m = ap (λ (name : List ℕ). number_of name old) (same_name later old m there) ∙ there in
    (replaced old new m made (known_in old m) is (slice_get-get_or old m (named_only []) (number_of-below later.channel.name old m there)) at once).once
once_by later old new (first none is) once = (one_more old new later is once none).once

pub joined_once : (later old new : List Known) → channels_joined later old ≡ Ok new → IsOnce (names_of old) → IsOnce (names_of new)
joined_once [] old new e once = subst (λ (l : List Known). IsOnce (names_of l)) (ok_is e) once
  where
    ok_is : {a b : List Known} → (let r : Result (List Known) LoadError = Ok a in r ≡ Ok b) → a ≡ b
    ok_is e = cc
joined_once (k ∷ rest) old new e once =
    let b = bind_ok (channel_joined k old) (channels_joined rest) new e in
    joined_once rest b.0 new b.1.1 (once_by k old b.0 (is_joined k old b.0 b.1.0) once)

-- ---- all channels of a record

pub joined_one : (left rest : List Known) (k : Known) (now new : List Known) (all : Result (List Known) LoadError) → left ≡ k ∷ rest → channel_joined k now ≡ Ok new → channels_joined left now ≡ all → channels_joined rest new ≡ all
joined_one left rest k now new all is joined so_far =
    sym (ap (λ (r : Result (List Known) LoadError). r >>= channels_joined rest) joined) ∙ sym (ap (λ (ks : List Known). channels_joined ks now) is) ∙ so_far

pub joined_wrong : (left rest : List Known) (k : Known) (now : List Known) (all : Result (List Known) LoadError) (e : LoadError) → left ≡ k ∷ rest → channel_joined k now ≡ Err e → channels_joined left now ≡ all → all ≡ Err e
joined_wrong left rest k now all e is wrong so_far =
    sym so_far ∙ ap (λ (ks : List Known). channels_joined ks now) is ∙ ap (λ (r : Result (List Known) LoadError). r >>= channels_joined rest) wrong

pub numbers_more : (others : List Known) (numbers pushed : List ℕ) (x : ℕ) (k : Known) (now new : List Known) → pushed ≡ numbers ++ x ∷ [] → k.channel.name ≡ name_in others (length numbers)
    → channel_joined k now ≡ Ok new → number_of k.channel.name new ≡ Some x → ((n : ℕ) → n < length numbers → number_of (name_in others n) now ≡ Some (slice_index numbers n))
    → (n : ℕ) → n < length pushed → number_of (name_in others n) new ≡ Some (slice_index pushed n)
numbers_more others numbers pushed x k now new is named joined number before n few = elim (cases_lt n (length numbers)) [
  | inl less ↦
      let same : slice_index pushed n ≡ slice_index numbers n = ap (λ (l : List ℕ). slice_index l n) is ∙ index-before numbers x 0 n less in
      joined_stays k now new (name_in others n) (slice_index numbers n) joined (before n less) ∙ ap (λ (m : ℕ). Some m) (sym same)
  | inr past ↦
      let here : n ≡ length numbers = omega (arith, ap length is, length-append numbers (x ∷ []), few) in
      let same : slice_index pushed n ≡ x = ap (λ (m : ℕ). slice_index pushed m) here ∙ ap (λ (l : List ℕ). slice_index l (length numbers)) is ∙ index-last numbers x 0 in
      ap (λ (m : ℕ). number_of (name_in others m) new) here ∙ ap (λ (q : List ℕ). number_of q new) (sym named) ∙ number ∙ ap (λ (m : ℕ). Some m) (sym same)
]

pub one_small : (channels : List Known) (n : ℕ) (known : Known) → AreSmall channels → n < length channels → known ≡ get_or channels n known → size_of known ≤ largest_channels
one_small channels n known small few is =
    let one : size_of (get_or channels n known) ≤ sum_by size_of channels = size_of-le channels n known few in
    subst (λ (k : Known). size_of k ≤ largest_channels) (sym is) (omega (arith, one, small.small))

-- ---- the number that is answered

pub mentions_last : (later known : Known) (old new : Channels) (n : ℕ) → Grows old new → number_of later.channel.name old.list.items ≡ None → known ≡ later → within_limits (old.list.items ++ known ∷ []) ≡ Ok new.list.items → n ≡ length old.list.items
    → Mentions later.channel.name old new n
mentions_last later known old new n grows none same added is =
    let joined : channel_joined later old.list.items ≡ Ok new.list.items = joined_new later old.list.items none ∙ ap (λ (k : Known). within_limits (old.list.items ++ k ∷ [])) (sym same) ∙ added in
    let number : number_of later.channel.name new.list.items ≡ Some n = joined_last later old.list.items new.list.items none joined ∙ ap (λ (m : ℕ). Some m) (sym is) in
    record { grows = grows; number = number; below = number_of-below later.channel.name new.list.items n number }

pub mentions_same : (later : Known) (old new : Channels) (n : ℕ) → Grows old new → number_of later.channel.name old.list.items ≡ Some n → channel_joined later old.list.items ≡ Ok new.list.items → Mentions later.channel.name old new n
mentions_same later old new n grows there joined =
    let number = joined_stays later old.list.items new.list.items later.channel.name n joined there in
    record { grows = grows; number = number; below = number_of-below later.channel.name new.list.items n number }
