-- The messages of a record that are kept, found one after another.
use Rattle.std.proofs.Common.{◌≡◌, ◌≤◌, ◌<◌, ◌+◌, ◌^◌, ℕ, suc, List, [], ◌∷◌, ◌++◌, length, map, take, drop, get_or, refl, ap, sym, ◌∙◌, subst, arith, Some, None, Bool, true, false, IfSome, slice_get}
use Rattle.std.specs.Prelude.{filter, slice_index_or, ◌&&◌}
use Rattle.std.proofs.lemmas.List.{take_more, take_all, drop_more, drop_all, map-append, get_or-map, length-map}
use Rattle.std.proofs.lemmas.Option.{slice_get-get_or}
use Rattle.cy_msg.specs.declared.filter.Filter.{Filter}
use Rattle.cy_msg.specs.Filter.{lets_channel, lets_time}
use Rattle.cy_section.specs.declared.types.Channel.{Channel}
use Rattle.cy_reader.specs.declared.known.Known.{Known}
use Rattle.cy_reader.specs.Record.{Message, named_only}
use Rattle.cy_writer.specs.Order.{with_number, numbers_after}
use Rattle.cy_tools.specs.declared.kept.Lets.{Lets}
use Rattle.cy_tools.specs.declared.kept.Kept.{Kept}
use Rattle.cy_tools.specs.declared.kept.Found.{Found}
use Rattle.cy_tools.specs.Kept.{numbers_of}
use Rattle.cy_tools.specs.declared.numbering.Numbering.{Numbering}
use Rattle.cy_tools.specs.private.Giving.{LooksAt, numbers_from}
use Rattle.cy_tools.specs.private.Keeping.{IsTable, IsReady, IsFound, choice_of, keeps, kept_of, all_kept, kept_from}

-- what is told of the entry at a place
told_at : {A : Type 0} (P : A → Type 0) (xs : List A) (n : ℕ) (d : A) → n < length xs → IfSome (slice_get xs n) P → P (get_or xs n d)
told_at P xs n d low is = subst (λ o. IfSome o P) (slice_get-get_or xs n d low) is

-- ---- the table of a filter

abbrev lets_by : Filter → Known → Bool
lets_by f k = lets_channel f k.channel.name

pub table_more : (f : Filter) (channels : List Known) (items pushed : List Bool) (n : ℕ) (c : Channel) (name : List ℕ) (b : Bool) → n < length channels → items ≡ map (lets_by f) (take n channels)
    → IfSome (slice_get channels n) (λ (known : Known). c ≡ known.channel) → name ≡ c.name → b ≡ lets_channel f name → pushed ≡ items ++ b ∷ [] → pushed ≡ map (lets_by f) (take (n + 1) channels)
table_more f channels items pushed n c name b low so_far told called is push =
    let known = get_or channels n (named_only []) in
    let here : c ≡ known.channel = told_at (λ (k : Known). c ≡ k.channel) channels n (named_only []) low told in
    let value : b ≡ lets_by f known = is ∙ ap (lets_channel f) called ∙ ap (λ (x : Channel). lets_channel f x.name) here in
    push
    ∙ ap (λ (l : List Bool). l ++ b ∷ []) so_far
    ∙ ap (λ (x : Bool). map (lets_by f) (take n channels) ++ x ∷ []) value
    ∙ sym (map-append (lets_by f) (take n channels) (known ∷ []))
    ∙ sym (ap (map (lets_by f)) (take_more channels n (named_only []) low))

pub table_all : (f : Filter) (channels : List Known) (items : List Bool) (n count : ℕ) → count ≡ length channels → count ≤ n → items ≡ map (lets_by f) (take n channels) → items ≡ map (lets_by f) channels
table_all f channels items n count all end so_far = so_far ∙ ap (map (lets_by f)) (take_all n channels (omega (arith, all, end)))

-- ---- whether a message is kept

pub kept_without : (k : Kept) (channel time : ℕ) → k.lets ≡ None → true ≡ keeps (choice_of k) k.loaded.channels channel time
kept_without k channel time none = rw none refl

pub in_table : (k : Kept) (l : Lets) (channel : ℕ) → k.lets ≡ Some l → IsReady k → channel < length k.loaded.channels → channel < length l.channels.items
in_table k l channel some ready low =
    let table : IsTable k.loaded.channels l = subst (λ o. IfSome o (IsTable k.loaded.channels)) some ready.table in
    let all : length l.channels.items ≡ length k.loaded.channels = ap length table ∙ length-map k.loaded.channels (lets_by l.filter.now) in
    omega (arith, low, all)

pub kept_by_table : (k : Kept) (l : Lets) (channel time : ℕ) (b : Bool) → k.lets ≡ Some l → IsReady k → channel < length k.loaded.channels
    → b ≡ (slice_index_or l.channels.items channel false && lets_time l.filter.now time) → b ≡ keeps (choice_of k) k.loaded.channels channel time
kept_by_table k l channel time b some ready low is =
    let table : IsTable k.loaded.channels l = subst (λ o. IfSome o (IsTable k.loaded.channels)) some ready.table in
    let f = l.filter.now in
    let entry : slice_index_or l.channels.items channel false ≡ lets_by f (get_or k.loaded.channels channel (named_only [])) =
    ap (λ (items : List Bool). get_or items channel false) table ∙ get_or-map (lets_by f) k.loaded.channels channel (named_only []) false low in
    rw some (is ∙ ap (λ (x : Bool). x && lets_time f time) entry)

-- ---- the message at a place

filter_yes : {X : Type 0} (p : X → Bool) (x : X) (xs : List X) → p x ≡ true → filter p (x ∷ xs) ≡ x ∷ filter p xs
filter_yes p x xs e = rw e refl

filter_no : {X : Type 0} (p : X → Bool) (x : X) (xs : List X) → p x ≡ false → filter p (x ∷ xs) ≡ filter p xs
filter_no p x xs e = rw e refl

abbrev no_message : Message
no_message = record { channel = 0; time = 0; content = [] }

abbrev is_kept : Kept → Message → Bool
is_kept k m = keeps (choice_of k) k.loaded.channels m.channel m.time

abbrev message_at : Kept → ℕ → Message
message_at k place = get_or k.loaded.messages place no_message

from_place : (k : Kept) (place : ℕ) → place < length k.loaded.messages → kept_from k place ≡ kept_of k (message_at k place ∷ drop (place + 1) k.loaded.messages)
from_place k place low = ap (kept_of k) (drop_more k.loaded.messages place no_message low)

pub missed : (k : Kept) (place channel time : ℕ) → place < length k.loaded.messages → IfSome (slice_get k.loaded.messages place) (λ (m : Message). (channel ≡ m.channel) × (time ≡ m.time))
    → keeps (choice_of k) k.loaded.channels channel time ≡ false → kept_from k place ≡ kept_from k (place + 1)
missed k place channel time low told fails =
    let m = message_at k place in
    let here = told_at (λ (m : Message). (channel ≡ m.channel) × (time ≡ m.time)) k.loaded.messages place no_message low told in
    let not_kept : is_kept k m ≡ false = sym (λ i. keeps (choice_of k) k.loaded.channels (here.0 i) (here.1 i)) ∙ fails in
    from_place k place low ∙ filter_no (is_kept k) m (drop (place + 1) k.loaded.messages) not_kept

pub found : (k : Kept) (place channel time : ℕ) → place < length k.loaded.messages → place + 1 < 2 ^ 32 → IfSome (slice_get k.loaded.messages place) (λ (m : Message). (channel ≡ m.channel) × (time ≡ m.time))
    → channel < length k.loaded.channels → keeps (choice_of k) k.loaded.channels channel time ≡ true → IsFound k place (record { place = place; channel = channel; time = time })
found k place channel time low few told below passes =
    let m = message_at k place in
    let here = told_at (λ (m : Message). (channel ≡ m.channel) × (time ≡ m.time)) k.loaded.messages place no_message low told in
    let kept : is_kept k m ≡ true = sym (λ i. keeps (choice_of k) k.loaded.channels (here.0 i) (here.1 i)) ∙ passes in
    record {
      message = m;
      there = slice_get-get_or k.loaded.messages place no_message low;
      channel = here.0;
      time = here.1;
      below = below;
      countable = few;
      first = from_place k place low ∙ filter_yes (is_kept k) m (drop (place + 1) k.loaded.messages) kept;
    }

-- ---- the first one from a place on

pub found_from : (k : Kept) (first place : ℕ) (f : Found) → kept_from k first ≡ kept_from k place → IsFound k place f → IsFound k first f
found_from k first place f none is = record {
  message = is.message;
  there = is.there;
  channel = is.channel;
  time = is.time;
  below = is.below;
  countable = is.countable;
  first = none ∙ is.first;
}

pub none_from : (k : Kept) (first place count : ℕ) → count ≡ length k.loaded.messages → count ≤ place → kept_from k first ≡ kept_from k place → kept_from k first ≡ []
none_from k first place count all end none = none ∙ ap (kept_of k) (drop_all place k.loaded.messages (omega (arith, all, end)))

-- ---- all of them, counted, with the numbers of their channels

drop_none : {X : Type 0} (xs : List X) → drop 0 xs ≡ xs
drop_none [] = refl
drop_none (x ∷ xs) = refl

pub from_start : (k : Kept) → kept_from k 0 ≡ all_kept k
from_start k = ap (kept_of k) (drop_none k.loaded.messages)

next_kept : (k : Kept) (place : ℕ) (f : Found) → f.place ≡ place → (is : IsFound k place f) → kept_from k place ≡ is.message ∷ kept_from k (place + 1)
next_kept k place f same is = is.first ∙ ap (λ (n : ℕ). is.message ∷ kept_from k (n + 1)) same

-- the one at a place is looked at: it is noted
pub noted : (k : Kept) (place : ℕ) (f : Found) (before after : Numbering) → f.place ≡ place → IsFound k place f → after.order.numbers ≡ with_number before.order.numbers f.channel
    → after.order.all ≡ before.order.all → after.count ≡ before.count + 1 → LooksAt k place before after
noted k place f before after same is numbers all counted =
    let next = next_kept k place f same is in
    let one : length (kept_from k place) ≡ suc (length (kept_from k (place + 1))) = ap length next in
    record {
      numbers = ap (λ (l : List ℕ). numbers_from k l (place + 1)) (numbers ∙ ap (with_number before.order.numbers) is.channel)
          ∙ sym (ap (λ (ms : List Message). numbers_after before.order.numbers (map (λ (m : Message). m.channel) ms)) next);
      all = all;
      count = omega (arith, one, counted);
      few = omega (arith, counted);
    }

-- or not kept
pub passed_over : (k : Kept) (place : ℕ) (n : Numbering) → kept_from k place ≡ kept_from k (place + 1) → LooksAt k place n n
passed_over k place n missed = record {
  numbers = sym (ap (λ (ms : List Message). numbers_after n.order.numbers (map (λ (m : Message). m.channel) ms)) missed);
  all = refl;
  count = sym (ap (λ (ms : List Message). n.count + length ms) missed);
  few = omega arith;
}

pub all_noted : (k : Kept) (numbers all : List ℕ) (place count : ℕ) → count ≡ length k.loaded.messages → count ≤ place → numbers_from k numbers place ≡ all → numbers ≡ all
all_noted k numbers all place count end past so_far =
    sym (ap (λ (ms : List Message). numbers_after numbers (map (λ (m : Message). m.channel) ms)) (none_from k place place count end past refl)) ∙ so_far

pub all_counted : (k : Kept) (n all : ℕ) (place count : ℕ) → count ≡ length k.loaded.messages → count ≤ place → n + length (kept_from k place) ≡ all → n ≡ all
all_counted k n all place count end past so_far =
    let none : length (kept_from k place) ≡ 0 = ap length (none_from k place place count end past refl) in
    omega (arith, none, so_far)

pub begun : (k : Kept) → numbers_from k [] 0 ≡ numbers_of (all_kept k)
begun k = ap (λ (ms : List Message). numbers_after [] (map (λ (m : Message). m.channel) ms)) (from_start k)

-- the content of the message at a place
pub content_is : (ms : List Message) (place : ℕ) (m : Message) (content : List ℕ) → slice_get ms place ≡ Some m → IfSome (slice_get ms place) (λ (x : Message). content ≡ x.content) → content ≡ m.content
content_is ms place m content there told = subst (λ o. IfSome o (λ (x : Message). content ≡ x.content)) there told
