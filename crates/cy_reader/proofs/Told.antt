-- The messages that are met are those of the sections, each on the channel of its name.
use Rattle.std.proofs.Common.{◌≡◌, ◌<◌, ◌≤◌, ◌+◌, ℕ, zero, suc, List, [], ◌∷◌, ◌++◌, length, set, get_or, refl, sym, ap, subst, ◌∙◌, append_assoc, append-nil, arith, Bool, true, false, Option, Some, None, Result, Ok, Err, ◌⊎◌, inl, inr, slice_get, length-append, ltb-false}
use Rattle.std.specs.Prelude.{map, not, nat_lt, unwrap_or, sum_by}
use Rattle.std.specs.List.{AllByRecursion, flat_map, position, position_or_len}
use Rattle.std.specs.Str.{bytes_eq}
use Rattle.std.proofs.lemmas.List.{length-map, map-append, get_or-map, get_or_append_left}
use Rattle.std.proofs.lemmas.List.Quantifiers.{position-Some}
use Rattle.std.proofs.lemmas.List.Sums.{prefix_len_passes}
use Rattle.std.proofs.lemmas.Option.{same_Some, none-some, slice_get-get_or, slice_get_within, get_or_from_slice_get}
use Rattle.std.proofs.lemmas.Slice.Eq.{bytes_eq-Decides}
use Rattle.cy_wire.specs.Field.{fields_of}
use Rattle.cy_msg.specs.Once.{IsOnce}
use Rattle.cy_section.specs.declared.error.SectionError.{SectionError}
use Rattle.cy_section.specs.declared.types.BodyMessage.{BodyMessage}
use Rattle.cy_section.specs.declared.types.Channel.{Channel}
use Rattle.cy_section.specs.declared.types.Header.{Header}
use Rattle.cy_section.specs.declared.types.SectionKind.{SectionKind}
use Rattle.cy_section.specs.declared.types.SectionKind.TheVariants as kind
use Rattle.cy_section.specs.Reading.{PlacedMessage, chunk_header_at, channel_at, messages_of}
use Rattle.cy_reader.specs.declared.error.LoadError.{LoadError}
use Rattle.cy_reader.specs.declared.error.LoadError.TheVariants.{NameTooLong, ContentTooLarge, TooManyChannels, ChannelsTooLarge}
use Rattle.cy_reader.specs.declared.known.Known.{Known}
use Rattle.cy_cut.specs.Sections.{WholeSection, sections_from, header_end}
use Rattle.cy_reader.specs.Record.{◌>>=◌, Met, Message, Contents, shown, source_of, file_header, parts_of, record_of, fault_of, of_section, size_of, number_of, within_limits, named_only, with_section, name_fits, mentioned, given_at, given, channel_given, name_mentioned, channel_met, content_fits, numbered, add_message, messages_met, add_body, section_of, add_section, add_sections, nothing, most_channels, largest_channels, longest_name, longest_content}
use Rattle.cy_reader.specs.Named.{name_in, with_name, named_messages}
use Rattle.cy_cut.specs.declared.cutting.CutFile.{CutFile}
use Rattle.cy_reader.specs.declared.front.Front.{Front}
use Rattle.cy_cut.specs.Cutting.{seen_part, fault_in}
use Rattle.cy_reader.specs.private.Front.{cut_record, cut_source}
use Rattle.cy_reader.specs.Said.{messages_under, section_messages, names_of, StandOnChannels, IsSaid}
use Rattle.cy_reader.proofs.Bodies.{then_fault, before_fault}
use Rattle.cy_reader.proofs.Sums.{position-added}

-- ---- answers

pub ok_is : {A : Type 0} (x y : A) → (let r : Result A LoadError = Ok x in r ≡ Ok y) → x ≡ y
ok_is x y h = cc

not_ok : {A : Type 0} (e : LoadError) (y : A) → (let r : Result A LoadError = Err e in r ≡ Ok y) → ⊥
not_ok e y h = cc

pub bind_ok : {A B : Type 0} (r : Result A LoadError) (f : A → Result B LoadError) (y : B) → r >>= f ≡ Ok y → (x : A) × ((r ≡ Ok x) × (f x ≡ Ok y))
bind_ok (Ok x) f y h = (x, (refl, h))
bind_ok (Err e) f y h = absurd (not_ok e y h)

name_fits_ok : {A : Type 0} (name : List ℕ) (r : Result A LoadError) (y : A) → name_fits name r ≡ Ok y → r ≡ Ok y
name_fits_ok {A = A} name r y = by (nat_lt longest_name (length name)) refl
  where
    by : (b : Bool) → nat_lt longest_name (length name) ≡ b → name_fits name r ≡ Ok y → r ≡ Ok y
    by true e h = absurd (not_ok (NameTooLong (length name)) y (rw e at h))
    by false e h = rw e at h

content_fits_ok : {A : Type 0} (content : List ℕ) (r : Result A LoadError) (y : A) → content_fits content r ≡ Ok y → r ≡ Ok y
content_fits_ok {A = A} content r y = by (nat_lt longest_content (length content)) refl
  where
    by : (b : Bool) → nat_lt longest_content (length content) ≡ b → content_fits content r ≡ Ok y → r ≡ Ok y
    by true e h = absurd (not_ok (ContentTooLarge (length content)) y (rw e at h))
    by false e h = rw e at h

pub within_ok : (cs ds : List Known) → within_limits cs ≡ Ok ds → cs ≡ ds
within_ok cs ds = by (nat_lt most_channels (length cs)) refl (nat_lt largest_channels (sum_by size_of cs)) refl
  where
    by : (b : Bool) → nat_lt most_channels (length cs) ≡ b → (d : Bool) → nat_lt largest_channels (sum_by size_of cs) ≡ d → within_limits cs ≡ Ok ds → cs ≡ ds
    by true e d f h = absurd (not_ok TooManyChannels ds (rw e at h))
    by false e true f h = absurd (not_ok (ChannelsTooLarge (sum_by size_of cs)) ds (rw (e, f) at h))
    by false e false f h = ok_is cs ds (rw (e, f) at h)

-- ---- names, each once

pushed : (xs : List (List ℕ)) (y x : List ℕ) (m : ℕ) → slice_get (xs ++ y ∷ []) m ≡ Some x → (slice_get xs m ≡ Some x) ⊎ ((m ≡ length xs) × (y ≡ x))
pushed [] y x zero there = inr (refl, same_Some y x there)
pushed [] y x (suc m) there = absurd (none-some x there)
pushed (z ∷ xs) y x zero there = inl there
pushed (z ∷ xs) y x (suc m) there = by (pushed xs y x m there)
  where
    by : (slice_get xs m ≡ Some x) ⊎ ((m ≡ length xs) × (y ≡ x)) → (slice_get xs m ≡ Some x) ⊎ ((suc m ≡ suc (length xs)) × (y ≡ x))
    by (inl here) = inl here
    by (inr last) = inr (ap suc last.0, last.1)

once_more : (xs : List (List ℕ)) (y : List ℕ) → IsOnce xs → ((i : ℕ) → slice_get xs i ≡ Some y → ⊥) → IsOnce (xs ++ y ∷ [])
once_more xs y once new m n x at_m at_n = by (pushed xs y x m at_m) (pushed xs y x n at_n)
  where
    by : (slice_get xs m ≡ Some x) ⊎ ((m ≡ length xs) × (y ≡ x)) → (slice_get xs n ≡ Some x) ⊎ ((n ≡ length xs) × (y ≡ x)) → m ≡ n
    by (inl a) (inl b) = once m n x a b
    by (inl a) (inr b) = absurd (new m (a ∙ ap (λ (z : List ℕ). Some z) (sym b.1)))
    by (inr a) (inl b) = absurd (new n (b ∙ ap (λ (z : List ℕ). Some z) (sym a.1)))
    by (inr a) (inr b) = a.0 ∙ sym b.0

-- a name that has no number is new
fails_at : (p : Known → Bool) (cs : List Known) (i : ℕ) (d : Known) → position p cs ≡ None → i < length cs → not (p (get_or cs i d)) ≡ true
fails_at p cs i d none low = by (nat_lt (position_or_len p cs) (length cs)) refl
  where
    by : (b : Bool) → nat_lt (position_or_len p cs) (length cs) ≡ b → not (p (get_or cs i d)) ≡ true
    by true e = absurd (none-some (position_or_len p cs) (sym none ∙ rw e refl))
    by false e = prefix_len_passes (λ k. not (p k)) cs i d (omega (arith, low, ltb-false (position_or_len p cs) (length cs) e))

at_name : (cs : List Known) (i : ℕ) → i < length cs → slice_get (names_of cs) i ≡ Some (name_in cs i)
at_name cs i low =
    slice_get-get_or (names_of cs) i [] (omega (arith, low, length-map cs (λ (k : Known). k.channel.name)))
    ∙ ap (λ (n : List ℕ). Some n) (get_or-map (λ (k : Known). k.channel.name) cs i (named_only []) [] low)

new_name : (name : List ℕ) (cs : List Known) → number_of name cs ≡ None → (i : ℕ) → slice_get (names_of cs) i ≡ Some name → ⊥
new_name name cs none i there =
    let low : i < length cs = omega (arith, slice_get_within (names_of cs) i name there, length-map cs (λ (k : Known). k.channel.name)) in
    let is : name_in cs i ≡ name = same_Some (name_in cs i) name (sym (at_name cs i low) ∙ there) in
    let passes : bytes_eq (name_in cs i) name ≡ true = (bytes_eq-Decides (name_in cs i) name).1 is in
    let fails : not (bytes_eq (name_in cs i) name) ≡ true = fails_at (λ k. bytes_eq k.channel.name name) cs i (named_only []) none low in
    let no : false ≡ true = sym (ap not passes) ∙ fails in
    cc

-- a name that has a number stands there
record IsAt (name : List ℕ) (cs : List Known) (n : ℕ) : Type 0 where
  low : n < length cs
  same : name_in cs n ≡ name

number_there : (name : List ℕ) (cs : List Known) (n : ℕ) → number_of name cs ≡ Some n → IsAt name cs n
number_there name cs n is =
    let found = position-Some (λ k. bytes_eq k.channel.name name) cs n (named_only []) is in
    record { low = found.0; same = (bytes_eq-Decides (name_in cs n) name).0 found.1 }

-- ---- channels

-- channels behind others: their names are those of the others and more, each once
pub record Grown (cs ds : List Known) : Type 0 where
  pub more : List (List ℕ)
  pub names : names_of ds ≡ names_of cs ++ more
  pub once : IsOnce (names_of ds)

same_channels : (cs ds : List Known) → cs ≡ ds → IsOnce (names_of cs) → Grown cs ds
same_channels cs ds is once = record {
  more = [];
  names = ap names_of (sym is) ∙ sym (append-nil (names_of cs));
  once = subst (λ (l : List Known). IsOnce (names_of l)) is once;
}

pub one_more : (cs ds : List Known) (k : Known) → cs ++ k ∷ [] ≡ ds → IsOnce (names_of cs) → number_of k.channel.name cs ≡ None → Grown cs ds
one_more cs ds k is once none =
    let names : names_of (cs ++ k ∷ []) ≡ names_of cs ++ k.channel.name ∷ [] = map-append (λ (k : Known). k.channel.name) cs (k ∷ []) in
    record {
      more = k.channel.name ∷ [];
      names = ap names_of (sym is) ∙ names;
      once = subst IsOnce (sym (ap names_of (sym is) ∙ names)) (once_more (names_of cs) k.channel.name once (new_name k.channel.name cs none));
    }

names_replaced : (cs : List Known) (n : ℕ) (k old : Known) → slice_get cs n ≡ Some old → old.channel.name ≡ k.channel.name → names_of (set cs n k) ≡ names_of cs
names_replaced [] n k old there same = absurd (none-some old there)
names_replaced (x ∷ cs) zero k old there same =
    ap (λ (name : List ℕ). name ∷ names_of cs) (sym same ∙ ap (λ (y : Known). y.channel.name) (sym (same_Some x old there)))
names_replaced (x ∷ cs) (suc n) k old there same = ap (λ (l : List (List ℕ)). x.channel.name ∷ l) (names_replaced cs n k old there same)

pub replaced : (cs ds : List Known) (n : ℕ) (k old : Known) → set cs n k ≡ ds → slice_get cs n ≡ Some old → number_of k.channel.name cs ≡ Some n → IsOnce (names_of cs) → Grown cs ds
replaced cs ds n k old is there number once =
    let at = number_there k.channel.name cs n number in
    let same : old.channel.name ≡ k.channel.name = ap (λ (y : Known). y.channel.name) (sym (get_or_from_slice_get cs n old (named_only []) there)) ∙ at.same in
    let names : names_of ds ≡ names_of cs = ap names_of (sym is) ∙ names_replaced cs n k old there same in
    record {
      more = [];
      names = names ∙ sym (append-nil (names_of cs));
      once = subst IsOnce (sym names) once;
    }

-- a message named one
record Named (name : List ℕ) (cs ds : List Known) : Type 0 where
  grown : Grown cs ds
  number : ℕ
  is : number_of name ds ≡ Some number

mention_step : (name : List ℕ) (cs ds : List Known) → name_mentioned name cs ≡ Ok ds → IsOnce (names_of cs) → Named name cs ds
unfolding name_mentioned
mention_step name cs ds h once = by (number_of name cs) refl (name_fits_ok name (mentioned name cs (number_of name cs)) ds h)
  where
    by : (o : Option ℕ) → number_of name cs ≡ o → mentioned name cs (number_of name cs) ≡ Ok ds → Named name cs ds
    by (Some n) e met =
        let same : cs ≡ ds = ok_is cs ds (rw e at met) in
        record { grown = same_channels cs ds same once; number = n; is = ap (number_of name) (sym same) ∙ e }
    by None e met =
        let same : cs ++ named_only name ∷ [] ≡ ds = within_ok (cs ++ named_only name ∷ []) ds (rw e at met) in
        record {
          grown = one_more cs ds (named_only name) same once e;
          number = length cs;
          is = ap (number_of name) (sym same) ∙ position-added (λ k. bytes_eq k.channel.name name) cs (named_only name) e ((bytes_eq-Decides name name).1 refl);
        }

-- a section gave one
give_step : (c : Channel) (cs ds : List Known) → channel_given c cs ≡ Ok ds → IsOnce (names_of cs) → Grown cs ds
unfolding channel_given
give_step c cs ds h once = by (number_of c.name cs) refl (name_fits_ok c.name (given c cs (number_of c.name cs)) ds h)
  where
    by_known : (n : ℕ) → number_of c.name cs ≡ Some n → (o : Option Known) → slice_get cs n ≡ o → given_at c cs n o ≡ Ok ds → Grown cs ds
    by_known n e None there met = same_channels cs ds (ok_is cs ds met) once
    by_known n e (Some old) there met = by_section old.has_section refl
      where
        by_section : (b : Bool) → old.has_section ≡ b → Grown cs ds
        by_section true is = same_channels cs ds (ok_is cs ds (rw is at met)) once
        by_section false is = replaced cs ds n (with_section c) old (within_ok (set cs n (with_section c)) ds (rw is at met)) there e once

    by : (o : Option ℕ) → number_of c.name cs ≡ o → given c cs (number_of c.name cs) ≡ Ok ds → Grown cs ds
    by (Some n) e met = by_known n e (slice_get cs n) refl (rw e at met)
    by None e met = one_more cs ds (with_section c) (within_ok (cs ++ with_section c ∷ []) ds (rw e at met)) once e

-- ---- messages

-- the names of channels stay
name_stays : (cs ds : List Known) (i : ℕ) → Grown cs ds → i < length cs → name_in ds i ≡ name_in cs i
name_stays cs ds i g low =
    let all : length (names_of cs) ≡ length cs = length-map cs (λ (k : Known). k.channel.name) in
    let more : length (names_of ds) ≡ length ds = length-map ds (λ (k : Known). k.channel.name) in
    let longer : length (names_of ds) ≡ length (names_of cs) + length g.more = ap length g.names ∙ length-append (names_of cs) g.more in
    sym (get_or-map (λ (k : Known). k.channel.name) ds i (named_only []) [] (omega (arith, low, all, more, longer)))
    ∙ ap (λ (l : List (List ℕ)). get_or l i []) g.names ∙ get_or_append_left (names_of cs) g.more [] i (omega (arith, low, all))
    ∙ get_or-map (λ (k : Known). k.channel.name) cs i (named_only []) [] low

longer_channels : (cs ds : List Known) → Grown cs ds → length cs ≤ length ds
longer_channels cs ds g =
    let all : length (names_of cs) ≡ length cs = length-map cs (λ (k : Known). k.channel.name) in
    let more : length (names_of ds) ≡ length ds = length-map ds (λ (k : Known). k.channel.name) in
    omega (arith, all, more, ap length g.names, length-append (names_of cs) g.more)

abbrev AreBelow : ℕ → List Message → Type 0
AreBelow n ms = AllByRecursion (λ (m : Message). m.channel < n) ms

still_below : (n k : ℕ) (ms : List Message) → n ≤ k → AreBelow n ms → AreBelow k ms
still_below n k [] le all = tt
still_below n k (m ∷ ms) le all = (omega (arith, le, all.0), still_below n k ms le all.1)

one_below : (n : ℕ) (ms : List Message) (m : Message) → AreBelow n ms → m.channel < n → AreBelow n (ms ++ m ∷ [])
one_below n [] m all low = (low, tt)
one_below n (x ∷ ms) m all low = (all.0, one_below n ms m all.1 low)

names_stay : (cs ds : List Known) (ms : List Message) → Grown cs ds → AreBelow (length cs) ms → map (with_name ds) ms ≡ map (with_name cs) ms
names_stay cs ds [] g all = refl
names_stay cs ds (m ∷ ms) g all =
    let first : with_name ds m ≡ with_name cs m = ap (λ (n : List ℕ). let b : BodyMessage = record { channel_name = n; time = m.time; content = m.content } in b) (name_stays cs ds m.channel g all.0) in
    let later = names_stay cs ds ms g all.1 in
    (λ i. first i ∷ later i)

-- what was met so far
record Fine (c : Met) : Type 0 where
  once : IsOnce (names_of c.channels)
  below : AreBelow (length c.channels) c.messages

record Steps (c d : Met) (ms : List BodyMessage) : Type 0 where
  fine : Fine d
  messages : named_messages d ≡ named_messages c ++ ms

no_step : (c d : Met) → Fine c → c ≡ d → Steps c d []
no_step c d fine is = record {
  fine = subst Fine is fine;
  messages = ap named_messages (sym is) ∙ sym (append-nil (named_messages c));
}

then_steps : (c d e : Met) (ms rest : List BodyMessage) → Steps c d ms → Steps d e rest → Steps c e (ms ++ rest)
then_steps c d e ms rest one more = record {
  fine = more.fine;
  messages = more.messages ∙ ap (λ (l : List BodyMessage). l ++ rest) one.messages ∙ append_assoc (named_messages c) ms rest;
}

message_step : (m : PlacedMessage) (c d : Met) → add_message m c ≡ Ok d → Fine c → Steps c d (m.message ∷ [])
unfolding add_message
message_step m c d h fine =
    let added : List Known → Met = λ ds. record { channels = ds; messages = c.messages ++ numbered m ds ∷ [] } in
    let b = bind_ok (name_mentioned m.message.channel_name c.channels) (λ ds. content_fits m.message.content (Ok (added ds))) d h in
    let ds = b.0 in
    let x = numbered m ds in
    let step = mention_step m.message.channel_name c.channels ds b.1.0 fine.once in
    let is : added ds ≡ d = ok_is (added ds) d (content_fits_ok m.message.content (Ok (added ds)) d b.1.1) in
    let number : x.channel ≡ step.number = ap (λ (o : Option ℕ). unwrap_or o 0) step.is in
    let at = number_there m.message.channel_name ds step.number step.is in
    let name : with_name ds x ≡ m.message = ap (λ (n : List ℕ). let b : BodyMessage = record { channel_name = n; time = m.message.time; content = m.message.content } in b) (ap (name_in ds) number ∙ at.same) in
    let all = still_below (length c.channels) (length ds) c.messages (longer_channels c.channels ds step.grown) fine.below in
    let one : Steps c (added ds) (m.message ∷ []) = record {
      fine = record { once = step.grown.once; below = one_below (length ds) c.messages x all (omega (arith, number, at.low)) };
      messages = map-append (with_name ds) c.messages (x ∷ [])
          ∙ ap (λ (l : List BodyMessage). l ++ with_name ds x ∷ []) (names_stay c.channels ds c.messages step.grown fine.below)
          ∙ ap (λ (y : BodyMessage). map (with_name c.channels) c.messages ++ y ∷ []) name;
    } in
    subst (λ (e : Met). Steps c e (m.message ∷ [])) is one

messages_step : (ms : List PlacedMessage) (c d : Met) → messages_met ms c ≡ Ok d → Fine c → Steps c d (map (λ m. m.message) ms)
messages_step [] c d h fine = no_step c d fine (ok_is c d h)
messages_step (m ∷ ms) c d h fine =
    let b = bind_ok (add_message m c) (messages_met ms) d h in
    let one = message_step m c b.0 b.1.0 fine in
    then_steps c b.0 d (m.message ∷ []) (map (λ m. m.message) ms) one (messages_step ms b.0 d b.1.1 one.fine)

channel_step : (ch : Channel) (c d : Met) → channel_met ch c ≡ Ok d → Fine c → Steps c d []
unfolding channel_met
channel_step ch c d h fine =
    let added : List Known → Met = λ ds. record { channels = ds; messages = c.messages } in
    let b = bind_ok (channel_given ch c.channels) (λ ds. Ok (added ds)) d h in
    let ds = b.0 in
    let grown = give_step ch c.channels ds b.1.0 fine.once in
    let is : added ds ≡ d = ok_is (added ds) d b.1.1 in
    let one : Steps c (added ds) [] = record {
      fine = record { once = grown.once; below = still_below (length c.channels) (length ds) c.messages (longer_channels c.channels ds grown) fine.below };
      messages = names_stay c.channels ds c.messages grown fine.below ∙ sym (append-nil (map (with_name c.channels) c.messages));
    } in
    subst (λ (e : Met). Steps c e []) is one

-- ---- sections

body_step : (fault : Option SectionError) (ms : List PlacedMessage) (c d : Met) → add_body fault ms c ≡ Ok d → Fine c → Steps c d (map (λ m. m.message) ms)
body_step None ms c d h fine = messages_step ms c d h fine
body_step (Some fault) ms c d h fine = absurd (not_ok (fault_of fault) d h)

section_step : (k : SectionKind) (at : ℕ) (body : List ℕ) (c d : Met) → section_of k at body c ≡ Ok d → Fine c → Steps c d (messages_under k at body)
section_step kind.Header at body c d h fine = no_step c d fine (ok_is c d h)
section_step kind.ChunkHeader at body c d h fine =
    let b = bind_ok (of_section (chunk_header_at at body)) (λ _. Ok c) d h in
    no_step c d fine (ok_is c d b.1.1)
section_step kind.ChunkBody at body c d h fine = body_step (messages_of (fields_of at body)).fault (messages_of (fields_of at body)).messages c d h fine
section_step kind.Index at body c d h fine = no_step c d fine (ok_is c d h)
section_step kind.Channel at body c d h fine =
    let b = bind_ok (of_section (channel_at at body)) (λ (ch : Channel). channel_met ch c) d h in
    channel_step b.0 c d b.1.1 fine

one_section : (s : WholeSection) (c d : Met) → add_section s c ≡ Ok d → Fine c → Steps c d (section_messages s)
unfolding add_section section_messages
one_section s c d h fine = section_step s.kind s.body_at s.body c d h fine

all_sections : (ss : List WholeSection) (c d : Met) → add_sections ss None c ≡ Ok d → Fine c → Steps c d (flat_map section_messages ss)
all_sections [] c d h fine = no_step c d fine (ok_is c d h)
all_sections (s ∷ ss) c d h fine =
    let b = bind_ok (add_section s c) (add_sections ss None) d h in
    let one = one_section s c b.0 b.1.0 fine in
    then_steps c b.0 d (section_messages s) (flat_map section_messages ss) one (all_sections ss b.0 d b.1.1 one.fine)

pub told_as_said : (sections : List WholeSection) (met : Met) → add_sections sections None nothing ≡ Ok met → IsSaid sections met
told_as_said sections met h =
    let all = all_sections sections nothing met h (record { once = λ m n x there other. absurd (none-some x there); below = tt }) in
    record { messages = all.messages; once = all.fine.once }

-- ---- the names of a record

no_fault : (ss : List WholeSection) (fault : Option SectionError) (met : Met) → add_sections ss fault nothing ≡ Ok met → add_sections ss None nothing ≡ Ok met
no_fault ss None met h = h
no_fault ss (Some fault) met h = by (add_sections ss None nothing) refl
  where
    by : (r : Result Met LoadError) → add_sections ss None nothing ≡ r → add_sections ss None nothing ≡ Ok met
    by (Ok m) e = absurd (not_ok (fault_of fault) met (sym (then_fault ss nothing m fault e) ∙ h))
    by (Err x) e = absurd (not_ok x met (sym (before_fault ss nothing (Some fault) x e) ∙ h))

-- what was met is named
below_at : (n : ℕ) (ms : List Message) → AreBelow n ms → (i : ℕ) (m : Message) → slice_get ms i ≡ Some m → m.channel < n
below_at n [] all i m there = absurd (none-some m there)
below_at n (x ∷ ms) all zero m there = subst (λ (y : Message). y.channel < n) (same_Some x m there) all.0
below_at n (x ∷ ms) all (suc i) m there = below_at n ms all.1 i m there

pub met_named : (ss : List WholeSection) (fault : Option SectionError) (met : Met) → add_sections ss fault nothing ≡ Ok met → StandOnChannels met.channels met.messages
met_named ss fault met h =
    let all = all_sections ss nothing met (no_fault ss fault met h) (record { once = λ m n x there other. absurd (none-some x there); below = tt }) in
    record { once = all.fine.once; on_channels = below_at (length met.channels) met.messages all.fine.below }

parts_named : (file : List ℕ) (p : Header × Met) → parts_of file ≡ Ok p → StandOnChannels p.1.channels p.1.messages
unfolding parts_of
parts_named file p h =
    let all = sections_from file header_end in
    let pair : Header → Met → Header × Met = λ header met. (header, met) in
    let a = bind_ok (file_header file) (λ header. add_sections all.sections all.fault nothing >>= λ met. Ok (pair header met)) p h in
    let b = bind_ok (add_sections all.sections all.fault nothing) (λ met. Ok (pair a.0 met)) p a.1.1 in
    let is : pair a.0 b.0 ≡ p = ok_is (pair a.0 b.0) p b.1.1 in
    subst (λ (q : Header × Met). StandOnChannels q.1.channels q.1.messages) is (met_named all.sections all.fault b.0 b.1.0)

pub record_named : (name file : List ℕ) (c : Contents) → record_of name file ≡ Ok c → StandOnChannels c.channels c.messages
unfolding record_of
record_named name file c h =
    let made : Header × Met → Contents = λ parts. shown (source_of name file parts.0) parts.1 in
    let a = bind_ok (parts_of file) (λ parts. Ok (made parts)) c h in
    subst (λ (d : Contents). StandOnChannels d.channels d.messages) (ok_is (made a.0) c a.1.1) (parts_named file a.0 a.1.0)

pub record_once : (name file : List ℕ) (c : Contents) → record_of name file ≡ Ok c → IsOnce (names_of c.channels)
record_once name file c h = (record_named name file c h).once

pub cut_named : (name : List ℕ) (f : Front) (c : CutFile) (r : Contents) → cut_record name f c ≡ Ok r → StandOnChannels r.channels r.messages
unfolding cut_record
cut_named name f c r h =
    let made : Met → Contents = shown (cut_source name f c) in
    let a = bind_ok (add_sections (map seen_part c.parts.items) (fault_in c.end) nothing) (λ met. Ok (made met)) r h in
    subst (λ (d : Contents). StandOnChannels d.channels d.messages) (ok_is (made a.0) r a.1.1) (met_named (map seen_part c.parts.items) (fault_in c.end) a.0 a.1.0)
