-- The messages of a later record, behind those that are kept.
use Rattle.std.proofs.Common.{◌≡◌, ◌<◌, ◌+◌, ◌^◌, ℕ, zero, suc, List, [], ◌∷◌, ◌++◌, length, length-append, refl, sym, ap, subst, ◌∙◌, All, arith, Result, Ok, Err, Some, inl, inr, slice_get, take, drop, set, get_or}
use Rattle.std.specs.Prelude.{map, slice_index_or, OnOk, IsOkUnless, ◌⊎◌}
use Rattle.std.proofs.lemmas.List.{length-map}
use Rattle.std.proofs.lemmas.List.Elements.{All-append, All-cons, All-nil}
use Rattle.std.proofs.lemmas.Option.{none-some, same_Some}
use Rattle.cy_reader.specs.declared.error.LoadError.{LoadError}
use Rattle.cy_reader.specs.declared.error.LoadError.TheVariants.{Memory}
use Rattle.cy_reader.specs.declared.known.Known.{Known}
use Rattle.cy_reader.specs.declared.loading.Loading.{Loading}
use Rattle.cy_reader.specs.declared.loading.Message.{Message}
use Rattle.cy_reader.specs.Record as meaning
use Rattle.cy_reader.specs.Record.{◌>>=◌, Met, number_of}
use Rattle.cy_reader.specs.United.{channels_joined, met_joined, on_united}
use Rattle.cy_reader.specs.private.Alone.{AreNumbers}
use Rattle.cy_reader.specs.private.Loading.{Grows, IsSound, Leads, message_of, met_of}
use Rattle.cy_reader.specs.private.Uniting.{shifted}
use Rattle.cy_reader.proofs.Moved.{map-joined}

-- ---- one more message is shifted in its place

pub shift_more : (f : Message → Message) (ms : List Message) (i : ℕ) (d : Message) → i < length ms → set (map f (take i ms) ++ drop i ms) i (f (get_or ms i d)) ≡ map f (take (suc i) ms) ++ drop (suc i) ms
shift_more f [] i d few = absurd (omega (arith, few))
shift_more f (m ∷ ms) zero d few = refl
shift_more f (m ∷ ms) (suc i) d few = ap (λ (l : List Message). f m ∷ l) (shift_more f ms i d (omega (arith, few)))

pub not_yet : (f : Message → Message) (ms : List Message) (i : ℕ) (d : Message) → i < length ms → get_or (map f (take i ms) ++ drop i ms) i d ≡ get_or ms i d
not_yet f [] i d few = absurd (omega (arith, few))
not_yet f (m ∷ ms) zero d few = refl
not_yet f (m ∷ ms) (suc i) d few = not_yet f ms i d (omega (arith, few))

-- ---- the bodies

body_before : (before behind : List (List ℕ)) (i : ℕ) → i < length before → slice_index_or (before ++ behind) i [] ≡ slice_index_or before i []
body_before [] behind i few = absurd (omega (arith, few))
body_before (b ∷ before) behind zero few = refl
body_before (b ∷ before) behind (suc i) few = body_before before behind i (omega (arith, few))

body_behind : (before behind : List (List ℕ)) (i : ℕ) → slice_index_or (before ++ behind) (length before + i) [] ≡ slice_index_or behind i []
body_behind [] behind i = ap (λ (n : ℕ). slice_index_or behind n []) (omega arith)
body_behind (b ∷ before) behind i =
    let next : length (b ∷ before) + i ≡ suc (length before + i) = omega arith in
    ap (λ (n : ℕ). slice_index_or (b ∷ before ++ behind) n []) next ∙ body_behind before behind i

all_before : (before behind : List (List ℕ)) (ms : List Message) → All (λ m. m.body < length before) ms → map (message_of (before ++ behind)) ms ≡ map (message_of before) ms
all_before before behind [] all = refl
all_before before behind (m ∷ ms) all = rw (body_before before behind m.body (all 0 m (omega arith)), all_before before behind ms (λ i d few. all (suc i) d (omega (arith, few)))) refl

one_shifted : (bodies : ℕ) (before behind : List (List ℕ)) (from to : List Known) (numbers : List ℕ) (m : Message) → length before ≡ bodies → AreNumbers from to numbers → m.channel < length numbers
    → message_of (before ++ behind) (shifted bodies numbers m) ≡ on_united from to (message_of behind m)
one_shifted bodies before behind from to numbers m many are few =
    let body : slice_index_or (before ++ behind) (bodies + m.body) [] ≡ slice_index_or behind m.body [] = ap (λ (n : ℕ). slice_index_or (before ++ behind) (n + m.body) []) (sym many) ∙ body_behind before behind m.body in
    rw (body, are.each m.channel few) refl

all_shifted : (bodies : ℕ) (before behind : List (List ℕ)) (from to : List Known) (numbers : List ℕ) (ms : List Message) → length before ≡ bodies → AreNumbers from to numbers → All (λ m. m.channel < length numbers) ms
    → map (message_of (before ++ behind)) (map (shifted bodies numbers) ms) ≡ map (on_united from to) (map (message_of behind) ms)
all_shifted bodies before behind from to numbers [] many are few = refl
all_shifted bodies before behind from to numbers (m ∷ ms) many are few =
    rw (one_shifted bodies before behind from to numbers m many are (few 0 m (omega arith)), all_shifted bodies before behind from to numbers ms many are (λ i d small. few (suc i) d (omega (arith, small)))) refl

-- ---- all of it, or there is no memory

abbrev finish : List Known → List meaning.Message → List meaning.Message → List Known → Result Met LoadError
finish from later before channels = Ok (record { channels = channels; messages = before ++ map (on_united from channels) later })

pub numbers_in : (later : Loading) (more : ℕ) (numbers : List ℕ) → IsSound more later → length numbers ≡ length later.channels.list.items → All (λ m. m.channel < length numbers) later.messages.items
numbers_in later more numbers sound many = λ i d small. omega (arith, sound.numbered i d small, many)

pub bodies_in : (bodies more : ℕ) (later : Loading) → IsSound more later → bodies + more < 2 ^ 32 → All (λ m. bodies + m.body < 2 ^ 32) later.messages.items
bodies_in bodies more later sound room = λ i d small. omega (arith, sound.placed i d small, room)

pub channels_refused : (behind before : List (List ℕ)) (later old : Loading) (e : LoadError) → (e ≡ Memory) ⊎ (channels_joined later.channels.list.items old.channels.list.items ≡ Err e)
    → (e ≡ Memory) ⊎ (met_joined (met_of behind later) (met_of before old) ≡ Err e)
channels_refused behind before later old e (inl memory) = inl memory
channels_refused behind before later old e (inr wrong) = inr (ap (λ (r : Result (List Known) LoadError). r >>= finish later.channels.list.items (met_of behind later).messages (met_of before old).messages) wrong)

shifted_all : (bodies more : ℕ) (before behind : List (List ℕ)) (later old new : Loading) (numbers : List ℕ) → length before ≡ bodies → IsSound bodies old → IsSound more later
    → channels_joined later.channels.list.items old.channels.list.items ≡ Ok new.channels.list.items → AreNumbers later.channels.list.items new.channels.list.items numbers
    → new.messages.items ≡ old.messages.items ++ map (shifted bodies numbers) later.messages.items
    → met_joined (met_of behind later) (met_of before old) ≡ Ok (met_of (before ++ behind) new)
shifted_all bodies more before behind later old new numbers many sound sound_later all are is =
    let from = later.channels.list.items in
    let to = new.channels.list.items in
    let there : All (λ m. m.body < length before) old.messages.items = λ i d small. omega (arith, sound.placed i d small, many) in
    let messages : map (message_of (before ++ behind)) new.messages.items ≡ map (message_of before) old.messages.items ++ map (on_united from to) (map (message_of behind) later.messages.items)
    = ap (map (message_of (before ++ behind))) is ∙ map-joined (message_of (before ++ behind)) old.messages.items (map (shifted bodies numbers) later.messages.items)
    ∙ rw (all_before before behind old.messages.items there, all_shifted bodies before behind from to numbers later.messages.items many are (numbers_in later more numbers sound_later are.many)) refl in
    ap (λ (r : Result (List Known) LoadError). r >>= finish from (met_of behind later).messages (met_of before old).messages) all
    ∙ ap (λ (ms : List meaning.Message). let made : Met = record { channels = to; messages = ms } in let r : Result Met LoadError = Ok made in r) (sym messages)

pub shifted_leads : (r : Result (Unit {0}) LoadError) (bodies more : ℕ) (before behind : List (List ℕ)) (later old new : Loading) (numbers : List ℕ) → length before ≡ bodies → IsSound bodies old → IsSound more later
    → channels_joined later.channels.list.items old.channels.list.items ≡ Ok new.channels.list.items → AreNumbers later.channels.list.items new.channels.list.items numbers
    → OnOk r (new.messages.items ≡ old.messages.items ++ map (shifted bodies numbers) later.messages.items) → IsOkUnless r Memory
    → Leads r (met_of (before ++ behind) new) (met_joined (met_of behind later) (met_of before old))
shifted_leads (Ok x) bodies more before behind later old new numbers many sound sound_later all are is only = shifted_all bodies more before behind later old new numbers many sound sound_later all are is
shifted_leads (Err e) bodies more before behind later old new numbers many sound sound_later all are is only = inl only

-- ---- and it stays sound

shifted_numbered : (k bodies : ℕ) (numbers : List ℕ) (ms : List Message) → All (λ n. n < k) numbers → All (λ m. m.channel < length numbers) ms → All (λ m. m.channel < k) (map (shifted bodies numbers) ms)
shifted_numbered k bodies numbers [] below few = All-nil (λ m. m.channel < k)
shifted_numbered k bodies numbers (m ∷ ms) below few =
    All-cons (λ m. m.channel < k) (shifted bodies numbers m) (map (shifted bodies numbers) ms) (below m.channel 0 (few 0 m (omega arith))) (shifted_numbered k bodies numbers ms below (λ i d small. few (suc i) d (omega (arith, small))))

shifted_placed : (bodies more : ℕ) (numbers : List ℕ) (ms : List Message) → All (λ m. m.body < more) ms → All (λ m. m.body < bodies + more) (map (shifted bodies numbers) ms)
shifted_placed bodies more numbers [] placed = All-nil (λ m. m.body < bodies + more)
shifted_placed bodies more numbers (m ∷ ms) placed =
    All-cons (λ m. m.body < bodies + more) (shifted bodies numbers m) (map (shifted bodies numbers) ms) (omega (arith, placed 0 m (omega arith))) (shifted_placed bodies more numbers ms (λ i d small. placed (suc i) d (omega (arith, small))))

sound_joined : (bodies more : ℕ) (later old new : Loading) (numbers : List ℕ) → IsSound bodies old → IsSound more later → Grows old.channels new.channels → AreNumbers later.channels.list.items new.channels.list.items numbers
    → new.messages.items ≡ old.messages.items ++ map (shifted bodies numbers) later.messages.items → length old.messages.items + length later.messages.items < 2 ^ 32 → IsSound (bodies + more) new
sound_joined bodies more later old new numbers sound sound_later grows are is room =
    let k = length new.channels.list.items in
    let ms = map (shifted bodies numbers) later.messages.items in
    record {
      small = grows.small;
      tied = grows.tied;
      few = omega (arith, room, ap length is, length-append old.messages.items ms, length-map later.messages.items (shifted bodies numbers));
      numbered = subst (λ (l : List Message). All (λ m. m.channel < k) l) (sym is)
          (All-append (λ m. m.channel < k) old.messages.items ms (λ i d inside. omega (arith, sound.numbered i d inside, grows.grown)) (shifted_numbered k bodies numbers later.messages.items are.below (numbers_in later more numbers sound_later are.many)));
      placed = subst (λ (l : List Message). All (λ m. m.body < bodies + more) l) (sym is)
          (All-append (λ m. m.body < bodies + more) old.messages.items ms (λ i d inside. omega (arith, sound.placed i d inside)) (shifted_placed bodies more numbers later.messages.items sound_later.placed));
    }

pub shifted_sound : (r : Result (Unit {0}) LoadError) (bodies more : ℕ) (later old new : Loading) (numbers : List ℕ) → IsSound bodies old → IsSound more later → Grows old.channels new.channels → AreNumbers later.channels.list.items new.channels.list.items numbers
    → OnOk r (new.messages.items ≡ old.messages.items ++ map (shifted bodies numbers) later.messages.items) → length old.messages.items + length later.messages.items < 2 ^ 32 → OnOk r (IsSound (bodies + more) new)
shifted_sound (Ok x) bodies more later old new numbers sound sound_later grows are is room = sound_joined bodies more later old new numbers sound sound_later grows are is room
shifted_sound (Err e) bodies more later old new numbers sound sound_later grows are is room = tt

-- ---- each message is on a channel

pub on_all : (k : ℕ) (bodies : List (List ℕ)) (ms : List Message) → All (λ m. m.channel < k) ms → (n : ℕ) (x : meaning.Message) → slice_get (map (message_of bodies) ms) n ≡ Some x → x.channel < k
on_all k bodies [] all n x there = absurd (none-some x there)
on_all k bodies (m ∷ ms) all zero x there = subst (λ (y : meaning.Message). y.channel < k) (same_Some (message_of bodies m) x there) (all 0 m (omega arith))
on_all k bodies (m ∷ ms) all (suc n) x there = on_all k bodies ms (λ i d few. all (suc i) d (omega (arith, few))) n x there
