-- What is kept of a body that was met by itself, once it stands behind others.
use Rattle.std.proofs.Common.{◌≡◌, ◌<◌, ◌+◌, ◌^◌, ℕ, zero, suc, List, [], ◌∷◌, ◌++◌, length, length-append, refl, sym, ap, subst, ◌∙◌, All, arith, Result, Ok, Err, Some, ◌⊎◌, inl, inr}
use Rattle.std.specs.Prelude.{map, slice_index_or, OnOk, IsOkUnless, IfSome, MatchOption, Option, None}
use Rattle.std.specs.Option.{option_flatten}
use Rattle.std.proofs.lemmas.List.{length-map}
use Rattle.std.proofs.lemmas.List.Elements.{All-append, All-cons, All-nil}
use Rattle.cy_section.specs.Reading.{messages_of}
use Rattle.cy_wire.specs.Field.{fields_of}
use Rattle.cy_reader.specs.declared.error.LoadError.{LoadError}
use Rattle.cy_reader.specs.declared.error.LoadError.TheVariants.{Memory}
use Rattle.cy_reader.specs.declared.known.Known.{Known}
use Rattle.cy_cut.specs.declared.cutting.Part.{Part}
use Rattle.cy_reader.specs.declared.decoding.Alone.{Alone}
use Rattle.cy_reader.specs.declared.channels.Channels.{Channels}
use Rattle.cy_reader.specs.declared.loading.Loading.{Loading}
use Rattle.cy_reader.specs.declared.loading.Message.{Message}
use Rattle.cy_reader.specs.Record as meaning
use Rattle.cy_reader.specs.Record.{◌>>=◌, Met, number_of, add_body, nothing}
use Rattle.cy_reader.specs.private.Alone.{AreDecoded, all_mentioned, behind, renumbered, moved, met_alone, AreNumbers, IsClosed, IsAlone}
use Rattle.cy_reader.specs.private.Loading.{AreSmall, IsTied, IsNothing, IsSound, Grows, Leads, message_of, met_of}
use Rattle.cy_reader.proofs.Behind.{body_alone}
use Rattle.cy_reader.proofs.Bodies.{all_behind}
use Rattle.cy_reader.proofs.Sound.{last_body}

only_body : (body : List ℕ) (i : ℕ) → i < 1 → slice_index_or (body ∷ []) i [] ≡ body
only_body body zero few = refl
only_body body (suc i) few = absurd (omega arith)

pub map-joined : {A B : Type 0} (f : A → B) (xs ys : List A) → map f (xs ++ ys) ≡ map f xs ++ map f ys
map-joined f [] ys = refl
map-joined f (x ∷ xs) ys = ap (λ l. f x ∷ l) (map-joined f xs ys)

-- its messages are the ones that were met, on channels of other numbers
one_moved : (bodies : ℕ) (before : List (List ℕ)) (body : List ℕ) (from to : List Known) (numbers : List ℕ) (m : Message) → length before ≡ bodies → AreNumbers from to numbers → m.channel < length numbers → m.body < 1
    → message_of (before ++ body ∷ []) (moved bodies numbers m) ≡ renumbered from to (message_of (body ∷ []) m)
one_moved bodies before body from to numbers m many are few placed =
    let last : slice_index_or (before ++ body ∷ []) bodies [] ≡ body = ap (λ (n : ℕ). slice_index_or (before ++ body ∷ []) n []) (sym many) ∙ last_body before body in
    rw (last, only_body body m.body placed, are.each m.channel few) refl

all_moved : (bodies : ℕ) (before : List (List ℕ)) (body : List ℕ) (from to : List Known) (numbers : List ℕ) (ms : List Message) → length before ≡ bodies → AreNumbers from to numbers
    → All (λ m. m.channel < length numbers) ms → All (λ m. m.body < 1) ms
    → map (message_of (before ++ body ∷ [])) (map (moved bodies numbers) ms) ≡ map (renumbered from to) (map (message_of (body ∷ [])) ms)
all_moved bodies before body from to numbers [] many are few placed = refl
all_moved bodies before body from to numbers (m ∷ ms) many are few placed =
    rw (
      one_moved bodies before body from to numbers m many are (few 0 m (omega arith)) (placed 0 m (omega arith)),
      all_moved bodies before body from to numbers ms many are (λ i d small. few (suc i) d (omega arith)) (λ i d small. placed (suc i) d (omega arith)),
    ) refl

abbrev finish : List ℕ → Alone → Met → List Known → Result Met LoadError
finish body a before channels = Ok (record {
  channels = channels;
  messages = before.messages ++ map (renumbered a.channels.items channels) (map (message_of (body ∷ [])) a.messages.items);
})

-- a channel is refused, or there is no memory
pub alone_refused : (body : List ℕ) (a : Alone) (before : Met) (e : LoadError) → (e ≡ Memory) ⊎ (all_mentioned a.channels.items before.channels ≡ Err e) → (e ≡ Memory) ⊎ (behind (met_alone body a) before ≡ Err e)
alone_refused body a before e (inl memory) = inl memory
alone_refused body a before e (inr wrong) = inr (ap (λ (r : Result (List Known) LoadError). r >>= finish body a before) wrong)

pub joined : (bodies : ℕ) (before : List (List ℕ)) (body : List ℕ) (alone : Alone) (old new : Loading) (numbers : List ℕ) → length before ≡ bodies → IsSound bodies old → IsClosed alone
    → all_mentioned alone.channels.items old.channels.list.items ≡ Ok new.channels.list.items → AreNumbers alone.channels.items new.channels.list.items numbers
    → new.messages.items ≡ old.messages.items ++ map (moved bodies numbers) alone.messages.items
    → behind (met_alone body alone) (met_of before old) ≡ Ok (met_of (before ++ body ∷ []) new)
joined bodies before body alone old new numbers many sound closed all are more =
    let from = alone.channels.items in
    let to = new.channels.list.items in
    let few : All (λ m. m.channel < length numbers) alone.messages.items = λ i d small. omega (arith, closed.numbered i d small, are.many) in
    let there : All (λ m. m.body < length before) old.messages.items = λ i d small. omega (arith, sound.placed i d small, many) in
    let messages : map (message_of (before ++ body ∷ [])) new.messages.items ≡ map (message_of before) old.messages.items ++ map (renumbered from to) (map (message_of (body ∷ [])) alone.messages.items)
    = ap (map (message_of (before ++ body ∷ []))) more ∙ map-joined (message_of (before ++ body ∷ [])) old.messages.items (map (moved bodies numbers) alone.messages.items)
    ∙ rw (all_behind before body old.messages.items there, all_moved bodies before body from to numbers alone.messages.items many are few closed.placed) refl in
    ap (λ (r : Result (List Known) LoadError). r >>= finish body alone (met_of before old)) all
    ∙ ap (λ (ms : List meaning.Message). let made : Met = record { channels = to; messages = ms } in let r : Result Met LoadError = Ok made in r) (sym messages)

-- and it stays sound
moved_numbered : (k bodies : ℕ) (numbers : List ℕ) (ms : List Message) → All (λ n. n < k) numbers → All (λ m. m.channel < length numbers) ms → All (λ m. m.channel < k) (map (moved bodies numbers) ms)
moved_numbered k bodies numbers [] below few = All-nil (λ m. m.channel < k)
moved_numbered k bodies numbers (m ∷ ms) below few =
    All-cons (λ m. m.channel < k) (moved bodies numbers m) (map (moved bodies numbers) ms) (below m.channel 0 (few 0 m (omega arith))) (moved_numbered k bodies numbers ms below (λ i d small. few (suc i) d (omega arith)))

moved_placed : (bodies : ℕ) (numbers : List ℕ) (ms : List Message) → All (λ m. m.body < bodies + 1) (map (moved bodies numbers) ms)
moved_placed bodies numbers [] = All-nil (λ m. m.body < bodies + 1)
moved_placed bodies numbers (m ∷ ms) = All-cons (λ m. m.body < bodies + 1) (moved bodies numbers m) (map (moved bodies numbers) ms) (omega arith) (moved_placed bodies numbers ms)

pub sound_joined : (bodies : ℕ) (alone : Alone) (old new : Loading) (numbers : List ℕ) → IsSound bodies old → IsClosed alone → Grows old.channels new.channels → AreNumbers alone.channels.items new.channels.list.items numbers
    → new.messages.items ≡ old.messages.items ++ map (moved bodies numbers) alone.messages.items → length new.messages.items < 2 ^ 32 → IsSound (bodies + 1) new
sound_joined bodies alone old new numbers sound closed grows are more small =
    let k = length new.channels.list.items in
    let few : All (λ m. m.channel < length numbers) alone.messages.items = λ i d inside. omega (arith, closed.numbered i d inside, are.many) in
    record {
      small = grows.small;
      tied = grows.tied;
      few = small;
      numbered = subst (λ (ms : List Message). All (λ m. m.channel < k) ms) (sym more)
          (All-append (λ m. m.channel < k) old.messages.items (map (moved bodies numbers) alone.messages.items) (λ i d inside. omega (arith, sound.numbered i d inside, grows.grown)) (moved_numbered k bodies numbers alone.messages.items are.below few));
      placed = subst (λ (ms : List Message). All (λ m. m.body < bodies + 1) ms) (sym more)
          (All-append (λ m. m.body < bodies + 1) old.messages.items (map (moved bodies numbers) alone.messages.items) (λ i d inside. omega (arith, sound.placed i d inside)) (moved_placed bodies numbers alone.messages.items));
    }

-- all of it, or there is no memory
pub moved_leads : (r : Result (Unit {0}) LoadError) (bodies : ℕ) (before : List (List ℕ)) (body : List ℕ) (alone : Alone) (old new : Loading) (numbers : List ℕ) → length before ≡ bodies → IsSound bodies old → IsClosed alone
    → all_mentioned alone.channels.items old.channels.list.items ≡ Ok new.channels.list.items → AreNumbers alone.channels.items new.channels.list.items numbers
    → OnOk r (new.messages.items ≡ old.messages.items ++ map (moved bodies numbers) alone.messages.items) → IsOkUnless r Memory
    → Leads r (met_of (before ++ body ∷ []) new) (behind (met_alone body alone) (met_of before old))
moved_leads (Ok x) bodies before body alone old new numbers many sound closed all are more only = joined bodies before body alone old new numbers many sound closed all are more
moved_leads (Err e) bodies before body alone old new numbers many sound closed all are more only = inl only

pub moved_sound : (r : Result (Unit {0}) LoadError) (bodies : ℕ) (alone : Alone) (old new : Loading) (numbers : List ℕ) → IsSound bodies old → IsClosed alone → Grows old.channels new.channels → AreNumbers alone.channels.items new.channels.list.items numbers
    → OnOk r (new.messages.items ≡ old.messages.items ++ map (moved bodies numbers) alone.messages.items) → length old.messages.items + length alone.messages.items < 2 ^ 32 → OnOk r (IsSound (bodies + 1) new)
moved_sound (Ok x) bodies alone old new numbers sound closed grows are more room =
    let few : length new.messages.items < 2 ^ 32 = omega (arith, room, ap length more, length-append old.messages.items (map (moved bodies numbers) alone.messages.items), length-map alone.messages.items (moved bodies numbers)) in
    sound_joined bodies alone old new numbers sound closed grows are more few
moved_sound (Err e) bodies alone old new numbers sound closed grows are more room = tt

-- what a chunk comes to by itself is what it comes to behind others
pub alone_leads : (r : Result (Unit {0}) LoadError) (p : Part) (alone : Alone) (before : List (List ℕ)) (old new : Loading) → IsAlone p alone
    → Leads r (met_of (before ++ p.body ∷ []) new) (behind (met_alone p.body alone) (met_of before old))
    → (let all = messages_of (fields_of p.body_at p.body) in Leads r (met_of (before ++ p.body ∷ []) new) (add_body all.fault all.messages (met_of before old)))
alone_leads r p alone before old new is leads =
    let all = messages_of (fields_of p.body_at p.body) in
    subst (λ (m : Result Met LoadError). Leads r (met_of (before ++ p.body ∷ []) new) m) (sym (body_alone (met_of before old) all.fault all.messages (met_alone p.body alone) is.met)) leads

-- a body by itself, where nothing was met before it
-- what is kept is told by the channels and by the messages alone
pub sound_same : (bodies : ℕ) (l m : Loading) → l.channels ≡ m.channels → m.messages.items ≡ l.messages.items → IsSound bodies l → IsSound bodies m
sound_same bodies l m channels messages sound = record {
  small = subst (λ (c : Channels). AreSmall c.list.items) channels sound.small;
  tied = subst IsTied channels sound.tied;
  few = rw messages sound.few;
  numbered = rw messages (subst (λ (c : Channels). All (λ (x : Message). x.channel < length c.list.items) l.messages.items) channels sound.numbered);
  placed = rw messages sound.placed;
}

pub met_same : (bodies : List (List ℕ)) (l m : Loading) → l.channels ≡ m.channels → m.messages.items ≡ l.messages.items → met_of bodies l ≡ met_of bodies m
met_same bodies l m channels messages = rw (messages, channels) refl

pub nothing_sound : (bodies : ℕ) (l : Loading) → IsNothing l → IsSound bodies l
nothing_sound bodies l is = record {
  small = rw is.channels (record { few = omega arith; small = omega arith });
  tied = is.tied;
  few = rw is.messages (omega arith);
  numbered = rw is.messages (All-nil _);
  placed = rw is.messages (All-nil _);
}

pub met_nothing : (bodies : List (List ℕ)) (l : Loading) → IsNothing l → met_of bodies l ≡ nothing
met_nothing bodies l is = rw (is.channels, is.messages) refl

pub alone_made : (p : Part) (a : Alone) (old new : Loading) → IsNothing old
    → (let all = messages_of (fields_of p.body_at p.body) in add_body all.fault all.messages (met_of [] old) ≡ Ok (met_of (p.body ∷ []) new))
    → a.channels ≡ new.channels.list → a.messages ≡ new.messages → IsSound 1 new → IsAlone p a
alone_made p a old new is met channels messages sound = record {
  met = let all = messages_of (fields_of p.body_at p.body) in
      ap (add_body all.fault all.messages) (sym (met_nothing [] old is)) ∙ met ∙ rw (channels, messages) refl;
  closed = record { numbered = rw (channels, messages) sound.numbered; placed = rw messages sound.placed };
}

-- one more of what was decoded stands beside one more section
pub one_decoded : (p : Part) (left rest : List Part) (all more : List (Option Alone)) (n m : ℕ) (o : Option (Option Alone)) → left ≡ p ∷ rest
    → MatchOption o ((n ≡ 0) × (m ≡ 0)) (λ a. (all ≡ a ∷ more) × (m + 1 ≡ n)) → n ≡ length all → AreDecoded left all
    → IfSome (option_flatten o) (IsAlone p) × AreDecoded rest more × (m ≡ length more)
one_decoded p left rest [] more n m None is none known dec = absurd (subst (λ (ps : List Part). AreDecoded ps []) is dec)
one_decoded p left rest (a ∷ all) more n m None is none known dec = absurd (omega (arith, none.0, known))
one_decoded p left rest all more n m (Some a) is next known dec =
    let both = subst (λ (l : List (Option Alone)). AreDecoded (p ∷ rest) l) next.0 (subst (λ (ps : List Part). AreDecoded ps all) is dec) in
    let long : m ≡ length more = omega (arith, next.1, known, ap length next.0) in
    (both.0, both.1, long)
