-- The channels and messages of a tape, one by one.
use Rattle.std.proofs.Common.{◌≡◌, ◌<◌, ℕ, suc, List, [], ◌∷◌, length, map, Bool, true, false, refl, sym, ap, subst, ◌∙◌, arith, Some, None, Option, Result, slice_get}
use Rattle.std.specs.Option.{option_map, unwrap_or}
use Rattle.std.specs.Prelude.{◌==◌}
use Rattle.std.specs.List.{find, list_any}
use Rattle.std.proofs.lemmas.List.{length-map}
use Rattle.std.proofs.lemmas.Option.{slice_get-map, slice_get-get_or, slice_get_within, same_Some, none-some}
use Rattle.cy_msg.specs.Names.{channel_name}
use Rattle.cy_msg.specs.Once.{IsOnce}
use Rattle.cy_msg.specs.Tokens.{most_played}
use Rattle.cy_msg.specs.declared.token.Token.{Token}
use Rattle.cy_store.specs.Store.{StoreView}
use Rattle.cy_section.specs.declared.types.Channel.{Channel}
use Rattle.cy_section.specs.declared.types.BodyMessage.{BodyMessage}
use Rattle.cy_comp.specs.declared.plan.Plan.{Plan}
use Rattle.cy_reader.specs.declared.known.Known.{Known}
use Rattle.cy_writer.specs.Given.{message_on}
use Rattle.cy_writer.specs.Messages.{Message}
use Rattle.cy_writer.specs.Record.{numbered, messages_on, HaveChannels, WritesRecord}
use Rattle.cy_writer.specs.RecordWrites.{file_writes, record_puts, chunks_given}
use Rattle.cy_writer.specs.Stands.{HaveOwnNames}
use Rattle.cy_writer.specs.Writes.{Makes}
use Rattle.cy_writer.specs.declared.error.WriteError.{WriteError}
use Rattle.cy_reader.specs.Named.{as_read, known_as}
use Rattle.cy_recording.specs.Recording.{Source, IsWritable, channel_of, as_written, content_of, has_ticks, message_of, numbers_on, channels_of_tape, messages_of_tape, chunks_of_tape}
use Rattle.cy_recording.specs.private.RecordSteps.{ArePlaced, given_of, all_given}
use Rattle.cy_writer.proofs.FirstPlaces.{place_of}
use Rattle.cy_writer.proofs.OrderNumbers.{numbers_after-all, numbers_after-has, numbers_once}

-- a channel has its name
pub named : (s : Source) (c : ℕ) → (channel_of s c).name ≡ channel_name s.names c
named s c = by (has_ticks s.plans c) (find (λ (plan : Plan). plan.out == c) s.plans)
  where
    by_known : (o : Option Known) → (as_read (channel_name s.names c) o).name ≡ channel_name s.names c
    by_known (Some known) = refl
    by_known None = refl

    by : (ticks : Bool) (o : Option Plan) → (as_written (channel_name s.names c) s.whole.channels ticks o).name ≡ channel_name s.names c
    by ticks (Some plan) = refl
    by true None = refl
    by false None = by_known (known_as (channel_name s.names c) s.whole.channels)

name_there : (names : List (List ℕ)) (c : ℕ) → c < length names → slice_get names c ≡ Some (channel_name names c)
name_there names c low =
    let there = slice_get-get_or names c [] low in
    there ∙ ap (λ (n : List ℕ). Some n) (sym (ap (λ (o : Option (List ℕ)). unwrap_or o []) there))

-- two channels of one name are one
pub one_channel : (names : List (List ℕ)) (c d : ℕ) → IsOnce names → c < length names → d < length names → channel_name names c ≡ channel_name names d → c ≡ d
one_channel names c d once low_c low_d same =
    once c d (channel_name names d) (name_there names c low_c ∙ ap (λ (n : List ℕ). Some n) same) (name_there names d low_d)

-- what stands at a place of a mapped list
pub mapped : {A B : Type 0} (f : A → B) (xs : List A) (n : ℕ) (y : B) → slice_get (map f xs) n ≡ Some y → (x : A) × ((slice_get xs n ≡ Some x) × (f x ≡ y))
mapped {A = A} {B = B} f xs n y here = by (slice_get xs n) refl
  where
    by : (o : Option A) → slice_get xs n ≡ o → (x : A) × ((slice_get xs n ≡ Some x) × (f x ≡ y))
    by (Some x) e = (x, (e, same_Some (f x) y (sym (ap (option_map f) e) ∙ sym (slice_get-map f xs n) ∙ here)))
    by None e = absurd (none-some y (sym (ap (option_map f) e) ∙ sym (slice_get-map f xs n) ∙ here))

-- no two channels of an order have one name
pub own_names : (s : Source) (order : List ℕ) → IsOnce s.names → IsOnce order → ((m d : ℕ) → slice_get order m ≡ Some d → d < length s.names)
    → HaveOwnNames (map (channel_of s) order)
own_names s order own once low i j c d at_i at_j same =
    let x = mapped (channel_of s) order i c at_i in
    let y = mapped (channel_of s) order j d at_j in
    let alike : x.0 ≡ y.0 = one_channel s.names x.0 y.0 own (low i x.0 x.1.0) (low j y.0 y.1.0)
    (sym (named s x.0) ∙ ap (λ (e : Channel). e.name) x.1.1 ∙ same ∙ sym (ap (λ (e : Channel). e.name) y.1.1) ∙ named s y.0) in
    once i j y.0 (x.1.0 ∙ ap (λ (k : ℕ). Some k) alike) y.1.0

-- what holds of each message's channel holds of all these numbers
pub channels_each : (P : ℕ → Type 0) (tape : List Token) → ((n : ℕ) (t : Token) → slice_get tape n ≡ Some t → P t.channel) → (n c : ℕ) → slice_get (map (λ (t : Token). t.channel) tape) n ≡ Some c → P c
channels_each P tape each n c here = let t = mapped (λ (t : Token). t.channel) tape n c here in subst P t.1.1 (each n t.0 t.1.0)

numbers_each : (P : ℕ → Type 0) (tape : List Token) → ((n : ℕ) (t : Token) → slice_get tape n ≡ Some t → P t.channel) → (n c : ℕ) → slice_get (numbers_on tape) n ≡ Some c → P c
numbers_each P tape each = numbers_after-all P [] (map (λ (t : Token). t.channel) tape) (λ m d h. absurd (none-some d h)) (channels_each P tape each)

-- and each of these channels stands there
pub channel_at : (tape : List Token) (n : ℕ) (t : Token) → slice_get tape n ≡ Some t → slice_get (map (λ (t : Token). t.channel) tape) n ≡ Some t.channel
channel_at tape n t here = slice_get-map (λ (t : Token). t.channel) tape n ∙ ap (option_map (λ (t : Token). t.channel)) here

-- what a place has that is not there
abbrev pub no_token : Token
no_token = record { channel = 0; seq = 0; time = 0; whole = None; origin = None }

all_placed : (tape : List Token) → ArePlaced (numbers_on tape) tape
all_placed tape n t here = numbers_after-has [] (map (λ (t : Token). t.channel) tape) n t.channel (channel_at tape n t here)

-- So an order of the channels of a tape has what writing on them needs.
pub record IsOrder (s : Source) (order : List ℕ) (tape : List Token) : Type 0 where
  pub placed : ArePlaced order tape
  pub once : IsOnce order
  pub low : (n c : ℕ) → slice_get order n ≡ Some c → c < length s.names

pub order_is : (s : Source) (order : List ℕ) (tape : List Token) → order ≡ numbers_on tape → IsWritable s tape → IsOrder s order tape
order_is s order tape is writable = subst (λ (l : List ℕ). IsOrder s l tape) (sym is) record {
  placed = all_placed tape;
  once = numbers_once (map (λ (t : Token). t.channel) tape);
  low = numbers_each (λ d. d < length s.names) tape writable.channels;
}

-- The messages of a tape, as they are given.

-- a message on its channel is the one of the tape
message_is : (s : Source) (t : Token) → message_on (channel_of s t.channel) t.time (content_of s t) ≡ message_of s t
message_is s t = ap (λ (n : List ℕ). message_made n t.time (content_of s t)) (named s t.channel)
  where
    message_made : List ℕ → ℕ → List ℕ → BodyMessage
    message_made n time content = record { channel_name = n; time = time; content = content }

-- so is one that is given
given_is : (s : Source) (order : List ℕ) (t : Token) → list_any (λ other. t.channel == other) order ≡ true
    → (let m = given_of s order t in message_on (numbered (map (channel_of s) order) m.channel) m.time m.content) ≡ message_of s t
given_is s order t any =
    let n = (given_of s order t).channel in
    let here : slice_get (map (channel_of s) order) n ≡ Some (channel_of s t.channel) =
    slice_get-map (channel_of s) order n ∙ ap (option_map (channel_of s)) (place_of order t.channel any) in
    ap (λ (o : Option Channel). message_on (unwrap_or o (record { name = []; message_type = []; proto_desc = [] })) t.time (content_of s t)) here
    ∙ message_is s t

pub all_are : (s : Source) (order : List ℕ) (tape : List Token) → ArePlaced order tape
    → messages_on (map (channel_of s) order) (all_given s order tape) ≡ messages_of_tape s tape
all_are s order [] placed = refl
all_are s order (t ∷ rest) placed =
    let first = given_is s order t (placed 0 t refl) in
    let later = all_are s order rest (λ n u there. placed (suc n) u there) in
    (λ i. first i ∷ later i)

-- and each has the number of a channel
pub have_channels : (s : Source) (order : List ℕ) (tape : List Token) → ArePlaced order tape
    → HaveChannels (map (channel_of s) order) (all_given s order tape)
have_channels s order tape placed n m here =
    let met = mapped (given_of s order) tape n m here in
    let t = met.0 in
    let within = slice_get_within order (given_of s order t).channel t.channel (place_of order t.channel (placed n t met.1.0)) in
    let low : (given_of s order t).channel < length (map (channel_of s) order) = omega (arith, within, length-map order (channel_of s)) in
    subst (λ (x : Message). x.channel < length (map (channel_of s) order)) met.1.1 low

-- so the record that is written of them is the tape's
pub recorded : {T : Type 0} (r : Result T WriteError) (name : List ℕ) (s : Source) (order : List ℕ) (tape : List Token) (channels : List Channel) (messages : List Message) (old new : StoreView)
    → order ≡ numbers_on tape → channels ≡ map (channel_of s) order → messages ≡ all_given s order tape → ArePlaced order tape
    → WritesRecord name channels messages old new r
    → Makes (file_writes name (record_puts (channels_of_tape s tape) (chunks_of_tape name s tape))) old new r
recorded r name s order tape channels messages old new is_order is_channels is_messages placed writes =
    let cs : channels ≡ channels_of_tape s tape = is_channels ∙ ap (map (channel_of s)) is_order in
    let ms : messages_on channels messages ≡ messages_of_tape s tape =
    ap (λ (l : List Channel). messages_on l messages) is_channels
    ∙ ap (messages_on (map (channel_of s) order)) is_messages
    ∙ all_are s order tape placed in
    let puts : record_puts channels (chunks_given name channels (messages_on channels messages)) ≡ record_puts (channels_of_tape s tape) (chunks_of_tape name s tape) =
    ap (λ (l : List BodyMessage). record_puts channels (chunks_given name channels l)) ms
    ∙ ap (λ (l : List Channel). record_puts l (chunks_given name l (messages_of_tape s tape))) cs in
    subst (λ (ps : List (ℕ × List ℕ)). Makes (file_writes name ps) old new r) puts writes.makes

-- The messages behind the first one can be given, where all can.

pub first_placed : (order : List ℕ) (tape rest : List Token) (t : Token) → tape ≡ t ∷ rest → ArePlaced order tape → list_any (λ other. t.channel == other) order ≡ true
first_placed order tape rest t e placed = placed 0 t (ap (λ (l : List Token). slice_get l 0) e)

pub first_origin : (s : Source) (tape rest : List Token) (t : Token) → tape ≡ t ∷ rest → IsWritable s tape → (o : ℕ) → t.origin ≡ Some o → o < most_played → o < length s.places
first_origin s tape rest t e writable o from low = writable.origins 0 o t (ap (λ (l : List Token). slice_get l 0) e) from low

pub rest_placed : (order : List ℕ) (tape rest : List Token) (t : Token) → tape ≡ t ∷ rest → ArePlaced order tape → ArePlaced order rest
rest_placed order tape rest t e placed = λ n u there. placed (suc n) u (ap (λ (l : List Token). slice_get l (suc n)) e ∙ there)

pub rest_writable : (s : Source) (tape rest : List Token) (t : Token) → tape ≡ t ∷ rest → IsWritable s tape → IsWritable s rest
rest_writable s tape rest t e writable = record {
  channels = λ n u there. writable.channels (suc n) u (ap (λ (l : List Token). slice_get l (suc n)) e ∙ there);
  origins = λ n o u there from low. writable.origins (suc n) o u (ap (λ (l : List Token). slice_get l (suc n)) e ∙ there) from low;
  places = writable.places;
}
