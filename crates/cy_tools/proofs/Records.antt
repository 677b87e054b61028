-- The channels and messages that are written of those that are kept.
use Rattle.std.proofs.Common.{◌≡◌, ◌<◌, ℕ, zero, suc, List, [], ◌∷◌, length, map, Bool, true, false, refl, sym, ap, subst, ◌∙◌, arith, Some, None, Option, Result, slice_get}
use Rattle.std.specs.Option.{option_map, unwrap_or}
use Rattle.std.specs.Prelude.{◌==◌, filter}
use Rattle.std.specs.List.{list_any, position}
use Rattle.std.proofs.lemmas.List.{length-map}
use Rattle.std.proofs.lemmas.Option.{slice_get-map, slice_get_within, same_Some, none-some}
use Rattle.cy_msg.specs.Once.{IsOnce}
use Rattle.cy_store.specs.Store.{StoreView}
use Rattle.cy_section.specs.declared.types.Channel.{Channel}
use Rattle.cy_section.specs.declared.types.BodyMessage.{BodyMessage}
use Rattle.cy_reader.specs.declared.known.Known.{Known}
use Rattle.cy_reader.specs.Record.{Met, Message}
use Rattle.cy_reader.specs.Named.{with_name}
use Rattle.cy_reader.specs.Said.{StandOnChannels, names_of}
use Rattle.cy_writer.specs.Given.{message_on}
use Rattle.cy_writer.specs.Messages as given
use Rattle.cy_writer.specs.Record.{numbered, messages_on, HaveChannels, WritesRecord}
use Rattle.cy_writer.specs.RecordWrites.{file_writes, record_puts, chunks_given}
use Rattle.cy_writer.specs.Stands.{HaveOwnNames}
use Rattle.cy_writer.specs.Writes.{Makes}
use Rattle.cy_writer.specs.declared.error.WriteError.{WriteError}
use Rattle.cy_tools.specs.declared.kept.Kept.{Kept}
use Rattle.cy_tools.specs.Kept.{channel_at, numbers_of, channels_with, messages_with, kept_writes}
use Rattle.cy_tools.specs.private.Keeping.{IsReady, all_kept}
use Rattle.cy_tools.specs.private.Giving.{ArePlaced, given_of}
use Rattle.cy_writer.proofs.FirstPlaces.{place_of}
use Rattle.cy_writer.proofs.OrderNumbers.{numbers_after-all, numbers_after-has, numbers_once}
use Rattle.cy_tools.proofs.Texts.{one_channel}

-- ---- lists

-- what stands at a place of a mapped list
mapped : {A B : Type 0} (f : A → B) (xs : List A) (n : ℕ) (y : B) → slice_get (map f xs) n ≡ Some y → (x : A) × ((slice_get xs n ≡ Some x) × (f x ≡ y))
mapped {A = A} {B = B} f xs n y here = by (slice_get xs n) refl
  where
    by : (o : Option A) → slice_get xs n ≡ o → (x : A) × ((slice_get xs n ≡ Some x) × (f x ≡ y))
    by (Some x) e = (x, (e, same_Some (f x) y (sym (ap (option_map f) e) ∙ sym (slice_get-map f xs n) ∙ here)))
    by None e = absurd (none-some y (sym (ap (option_map f) e) ∙ sym (slice_get-map f xs n) ∙ here))

-- what holds of all messages holds of those that are kept
kept_all : (P : Message → Type 0) (p : Message → Bool) (xs : List Message) → ((n : ℕ) (m : Message) → slice_get xs n ≡ Some m → P m) → (n : ℕ) (m : Message) → slice_get (filter p xs) n ≡ Some m → P m
kept_all P p [] all n m there = absurd (none-some m there)
kept_all P p (x ∷ xs) all n m there = by (p x) refl (kept_all P p xs (λ i y here. all (suc i) y here)) n m there
  where
    by : (b : Bool) → p x ≡ b → ((n : ℕ) (m : Message) → slice_get (filter p xs) n ≡ Some m → P m) → (n : ℕ) (m : Message) → slice_get (filter p (x ∷ xs)) n ≡ Some m → P m
    by false e later n m there = later n m (rw e at there)
    by true e later zero m there = subst P (same_Some x m (rw e at there)) (all 0 x refl)
    by true e later (suc n) m there = later n m (rw e at there)

-- ---- what is kept

pub stand_filtered : (channels : List Known) (p : Message → Bool) (messages : List Message) → StandOnChannels channels messages → StandOnChannels channels (filter p messages)
stand_filtered channels p messages stand = record {
  once = stand.once;
  on_channels = kept_all (λ (m : Message). m.channel < length channels) p messages stand.on_channels;
}

pub kept_stand : (k : Kept) → IsReady k → StandOnChannels k.loaded.channels (all_kept k)
kept_stand k ready = stand_filtered k.loaded.channels _ k.loaded.messages ready.stand

pub all_placed : (kept : List Message) → ArePlaced (numbers_of kept) kept
all_placed kept n m there =
    numbers_after-has [] (map (λ (m : Message). m.channel) kept) n m.channel (slice_get-map (λ (m : Message). m.channel) kept n ∙ ap (option_map (λ (m : Message). m.channel)) there)

pub numbers_below : (channels : List Known) (kept : List Message) → StandOnChannels channels kept → (n c : ℕ) → slice_get (numbers_of kept) n ≡ Some c → c < length channels
numbers_below channels kept stand =
    numbers_after-all (λ c. c < length channels) [] (map (λ (m : Message). m.channel) kept) (λ m d there. absurd (none-some d there))
    (λ n c there.
    let at = mapped (λ (m : Message). m.channel) kept n c there in
    subst (λ (d : ℕ). d < length channels) at.1.1 (stand.on_channels n at.0 at.1.0))

-- ---- what is written

-- no two channels of an order have one name
own_names : (channels : List Known) (order : List ℕ) → IsOnce (names_of channels) → IsOnce order → ((m d : ℕ) → slice_get order m ≡ Some d → d < length channels)
    → HaveOwnNames (map (channel_at channels) order)
own_names channels order own once low i j c d at_i at_j same =
    let x = mapped (channel_at channels) order i c at_i in
    let y = mapped (channel_at channels) order j d at_j in
    let alike : x.0 ≡ y.0 = one_channel channels x.0 y.0 own (low i x.0 x.1.0) (low j y.0 y.1.0)
    (ap (λ (e : Channel). e.name) x.1.1 ∙ same ∙ sym (ap (λ (e : Channel). e.name) y.1.1)) in
    once i j y.0 (x.1.0 ∙ ap (λ (k : ℕ). Some k) alike) y.1.0

pub kept_names : (met : Met) (kept : List Message) → StandOnChannels met.channels kept → HaveOwnNames (channels_with met kept)
kept_names met kept stand =
    own_names met.channels (numbers_of kept) stand.once (numbers_once (map (λ (m : Message). m.channel) kept)) (numbers_below met.channels kept stand)

-- a message that is given is the one that is kept
given_is : (channels : List Known) (order : List ℕ) (m : Message) → list_any (λ other. m.channel == other) order ≡ true
    → (let g = given_of order m in message_on (numbered (map (channel_at channels) order) g.channel) g.time g.content) ≡ with_name channels m
given_is channels order m any =
    let n = (given_of order m).channel in
    let here : slice_get (map (channel_at channels) order) n ≡ Some (channel_at channels m.channel) =
    slice_get-map (channel_at channels) order n ∙ ap (option_map (channel_at channels)) (place_of order m.channel any) in
    ap (λ (o : Option Channel). message_on (unwrap_or o (record { name = []; message_type = []; proto_desc = [] })) m.time m.content) here

all_are : (channels : List Known) (order : List ℕ) (kept : List Message) → ArePlaced order kept
    → messages_on (map (channel_at channels) order) (map (given_of order) kept) ≡ map (with_name channels) kept
all_are channels order [] placed = refl
all_are channels order (m ∷ rest) placed =
    let first = given_is channels order m (placed 0 m refl) in
    let later = all_are channels order rest (λ n u there. placed (suc n) u there) in
    (λ i. first i ∷ later i)

-- and each has the number of a channel
pub have_channels : (channels : List Known) (order : List ℕ) (kept : List Message) → ArePlaced order kept
    → HaveChannels (map (channel_at channels) order) (map (given_of order) kept)
have_channels channels order kept placed n g here =
    let met = mapped (given_of order) kept n g here in
    let m = met.0 in
    let within = slice_get_within order (given_of order m).channel m.channel (place_of order m.channel (placed n m met.1.0)) in
    let low : (given_of order m).channel < length (map (channel_at channels) order) = omega (arith, within, length-map order (channel_at channels)) in
    subst (λ (x : given.Message). x.channel < length (map (channel_at channels) order)) met.1.1 low

-- so their record is written
pub recorded : {T : Type 0} (r : Result T WriteError) (name : List ℕ) (met : Met) (kept : List Message) (order : List ℕ) (channels : List Channel) (messages : List given.Message) (old new : StoreView)
    → order ≡ numbers_of kept → channels ≡ map (channel_at met.channels) order → messages ≡ map (given_of order) kept → WritesRecord name channels messages old new r
    → Makes (kept_writes name met kept) old new r
recorded r name met kept order channels messages old new is_order is_channels is_messages writes =
    let placed = subst (λ (l : List ℕ). ArePlaced l kept) (sym is_order) (all_placed kept) in
    let cs : channels ≡ channels_with met kept = is_channels ∙ ap (map (channel_at met.channels)) is_order in
    let ms : messages_on channels messages ≡ messages_with met kept =
    ap (λ (l : List Channel). messages_on l messages) is_channels
    ∙ ap (messages_on (map (channel_at met.channels) order)) is_messages
    ∙ all_are met.channels order kept placed in
    let puts : record_puts channels (chunks_given name channels (messages_on channels messages)) ≡ record_puts (channels_with met kept) (chunks_given name (channels_with met kept) (messages_with met kept)) =
    ap (λ (l : List BodyMessage). record_puts channels (chunks_given name channels l)) ms
    ∙ ap (λ (l : List Channel). record_puts l (chunks_given name l (messages_with met kept))) cs in
    subst (λ (ps : List (ℕ × List ℕ)). Makes (file_writes name ps) old new r) puts writes.makes

-- ---- given one after another

pub rest_placed : (order : List ℕ) (kept rest : List Message) (m : Message) → kept ≡ m ∷ rest → ArePlaced order kept → ArePlaced order rest
rest_placed order kept rest m e placed = λ n u there. placed (suc n) u (ap (λ (l : List Message). slice_get l (suc n)) e ∙ there)

pub first_placed : (order : List ℕ) (kept rest : List Message) (m : Message) (c : ℕ) → kept ≡ m ∷ rest → c ≡ m.channel → ArePlaced order kept → list_any (λ other. c == other) order ≡ true
first_placed order kept rest m c e same placed =
    subst (λ (n : ℕ). list_any (λ other. n == other) order ≡ true) (sym same) (placed 0 m (ap (λ (l : List Message). slice_get l 0) e))

pub first_given : (order : List ℕ) (kept rest : List Message) (m : Message) (c time place : ℕ) (content : List ℕ) → kept ≡ m ∷ rest → c ≡ m.channel → time ≡ m.time → content ≡ m.content
    → position (λ other. c == other) order ≡ Some place
    → map (given_of order) kept ≡ (let g : given.Message = record { channel = place; time = time; content = content } in g) ∷ map (given_of order) rest
first_given order kept rest m c time place content e same when lent at =
    let number : (given_of order m).channel ≡ place =
    ap (λ (n : ℕ). unwrap_or (position (λ other. n == other) order) 0) (sym same) ∙ ap (λ (o : Option ℕ). unwrap_or o 0) at in
    ap (map (given_of order)) e
    ∙ (λ i. (let g : given.Message = record { channel = number i; time = sym when i; content = sym lent i } in g) ∷ map (given_of order) rest)
