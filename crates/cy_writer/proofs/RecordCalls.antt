-- A record while it is written, and how its writing ends.
use Rattle.std.proofs.Common.{◌≡◌, ℕ, ◌<◌, List, [], ◌∷◌, ◌++◌, length, Option, Some, Result, IsErrOf, IfSome, sym, ap, subst, ◌∙◌, arith, append_assoc, append-nil}
use Rattle.std.specs.Prelude.{slice_get, OnOk}
use Rattle.std.specs.Option.{option_map}
use Rattle.std.proofs.lemmas.List.{map-append}
use Rattle.std.proofs.lemmas.Option.{none-some, slice_get_within}
use Rattle.cy_store.specs.Write.{Write, Create, after_writes}
use Rattle.cy_store.specs.Store.{StoreView, SameCounts, HasWriteCauses}
use Rattle.cy_section.specs.declared.types.Channel.{Channel}
use Rattle.cy_section.specs.declared.types.BodyMessage.{BodyMessage}
use Rattle.cy_writer.specs.declared.error.WriteError.{WriteError}
use Rattle.cy_writer.specs.declared.error.WriteError.TheVariants as write_error
use Rattle.cy_writer.specs.declared.writer.RecordWriter.{RecordWriter}
use Rattle.cy_writer.specs.declared.writing.Writing.{Writing}
use Rattle.cy_writer.specs.Given.{Given, nothing_given, with_channel, with_message, start_puts, channel_puts, message_puts, close_puts, chunks_of, messages_of}
use Rattle.cy_writer.specs.Stands.{Stands, StandsFor, IsBroken, HasChannel, IsThere}
use Rattle.cy_writer.specs.Writes.{puts_into, Makes}
use Rattle.cy_writer.proofs.Puts.{put_of, held_some, map-after_writes, makes_first, makes_then, makes_none, causes_then, untold_map}
use Rattle.cy_writer.proofs.Closing.{length-kept_channels}
use Rattle.cy_writer.specs.RecordWrites.{file_writes, record_puts, given_channels, with_messages, chunks_given, front_puts}
use Rattle.cy_writer.proofs.FrontPuts.{front-channel, front-message, closing, rest_of, same_given, same_name, same_channels, with_messages-append}

-- What a writer stands for tells of it.

is_there : (o : Option Writing) (x : Writing) (P : Writing → Type 0) → o ≡ Some x → P x → IfSome o P
is_there o x P e h = subst (λ (p : Option Writing). IfSome p P) (sym e) h

pub unbroken : (w : RecordWriter) (g : Given) → Stands w g → IsBroken w → ⊥
unbroken w g stands broken = let found = held_some w.writing (λ o. StandsFor o g) stands in none-some found.0 (sym broken ∙ found.1.0)

pub has_channel : (w : RecordWriter) (g : Given) (n : ℕ) (c : Channel) → Stands w g → slice_get g.channels n ≡ Some c → HasChannel w n
has_channel w g n c stands here =
    let found = held_some w.writing (λ o. StandsFor o g) stands in
    let within = slice_get_within g.channels n c here in
    let count = ap length found.1.1.channels ∙ length-kept_channels 2064 (messages_of g) g.channels in
    is_there w.writing found.0 (λ (o : Writing). n < length o.channels.items) found.1.0 (omega (arith, within, count))

-- the counts are as they were after a call that left them so
pub counts_then : (old mid new : StoreView) → SameCounts old mid → SameCounts mid new → SameCounts old new
counts_then old mid new first second = record { faults = second.faults ∙ first.faults; misses = second.misses ∙ first.misses }

-- the causes of a call behind others that made writes
pub causes_later : {F : Type 0} (writes : List Write) (old mid new : StoreView) → mid.files ≡ option_map (after_writes writes) old.files
    → SameCounts old mid → HasWriteCauses F mid new → HasWriteCauses F old new
causes_later writes old mid new files counts causes =
    causes_then old mid new counts (untold_map (after_writes writes) old.files mid.files files) causes

-- The writes.

pub writes_more : (name : List ℕ) (xs ys : List (ℕ × List ℕ)) → file_writes name xs ++ puts_into name ys ≡ file_writes name (xs ++ ys)
writes_more name xs ys = ap (λ (l : List Write). Create name ∷ l) (sym (map-append (put_of name) xs ys))

abbrev pub given : List ℕ → List Channel → List BodyMessage → Given
given name channels messages = with_messages (given_channels name channels) messages

-- the writes before the record is closed, and all of them
abbrev pub front_writes : List ℕ → List Channel → List BodyMessage → List Write
front_writes name channels messages = file_writes name (front_puts channels (given name channels messages).closed)

abbrev pub record_writes : List ℕ → List Channel → List BodyMessage → List Write
record_writes name channels messages = file_writes name (record_puts channels (chunks_given name channels messages))

rest_writes : (name : List ℕ) (channels : List Channel) (messages later : List BodyMessage)
    → (more : List Write) × (front_writes name channels messages ++ more ≡ record_writes name channels (messages ++ later))
rest_writes name channels messages later =
    let g = given name channels messages in
    let all = given name channels (messages ++ later) in
    let rest = rest_of g later in
    let whole : front_puts channels g.closed ++ rest.0 ≡ record_puts channels (chunks_of all) =
    ap (λ (cs : List Channel). front_puts cs g.closed ++ rest.0) (sym (same_channels (given_channels name channels) messages))
    ∙ rest.1
    ∙ ap (λ (h : Given). record_puts h.channels (chunks_of h)) (sym (with_messages-append (given_channels name channels) messages later))
    ∙ ap (λ (cs : List Channel). record_puts cs (chunks_of all)) (same_channels (given_channels name channels) (messages ++ later)) in
    (puts_into name rest.0, writes_more name (front_puts channels g.closed) rest.0 ∙ ap (file_writes name) whole)

step_writes : (name : List ℕ) (channels : List Channel) (messages : List BodyMessage) (m : BodyMessage)
    → front_writes name channels messages ++ puts_into (given name channels messages).name (message_puts (given name channels messages) m)
    ≡ front_writes name channels (messages ++ m ∷ [])
step_writes name channels messages m =
    let start = given_channels name channels in
    let g = given name channels messages in
    let front = front_puts channels g.closed in
    let whole : front ++ message_puts g m ≡ front_puts channels (with_message g m).closed =
    ap (λ (cs : List Channel). front_puts cs g.closed ++ message_puts g m) (sym (same_channels start messages))
    ∙ sym (front-message g m)
    ∙ ap (λ (cs : List Channel). front_puts cs (with_message g m).closed) ((same_given g m).1 ∙ same_channels start messages) in
    ap (λ (n : List ℕ). file_writes name front ++ puts_into n (message_puts g m)) (same_name start messages)
    ∙ writes_more name front (message_puts g m)
    ∙ ap (file_writes name) (whole ∙ ap (λ (h : Given). front_puts channels h.closed) (sym (with_messages-append start messages (m ∷ []))))

close_writes : (name : List ℕ) (channels : List Channel) (messages : List BodyMessage)
    → front_writes name channels messages ++ puts_into (given name channels messages).name (close_puts (given name channels messages))
    ≡ record_writes name channels messages
close_writes name channels messages =
    let start = given_channels name channels in
    let g = given name channels messages in
    let front = front_puts channels g.closed in
    ap (λ (n : List ℕ). file_writes name front ++ puts_into n (close_puts g)) (same_name start messages)
    ∙ writes_more name front (close_puts g)
    ∙ ap (file_writes name)
    (ap (λ (cs : List Channel). front_puts cs g.closed ++ close_puts g) (sym (same_channels start messages))
    ∙ closing g
    ∙ ap (λ (cs : List Channel). record_puts cs (chunks_of g)) (same_channels start messages))

-- Call by call.

-- these messages were taken
pub record IsUnderWay (name : List ℕ) (channels : List Channel) (messages : List BodyMessage) (w : RecordWriter) (old new : StoreView) : Type 0 where
  pub stands : Stands w (given name channels messages)
  pub files : new.files ≡ option_map (after_writes (front_writes name channels messages)) old.files
  pub there : IsThere w new.files
  pub counts : SameCounts old new

pub stepped : (name : List ℕ) (channels : List Channel) (messages : List BodyMessage) (m : BodyMessage) (v w : RecordWriter) (old mid new : StoreView)
    → IsUnderWay name channels messages v old mid → Stands w (with_message (given name channels messages) m)
    → new.files ≡ option_map (after_writes (puts_into (given name channels messages).name (message_puts (given name channels messages) m))) mid.files
    → IsThere w new.files → SameCounts mid new
    → IsUnderWay name channels (messages ++ m ∷ []) w old new
stepped name channels messages m v w old mid new so_far stands files there counts =
    let g = given name channels messages in
    let step = puts_into g.name (message_puts g m) in
    record {
      stands = subst (λ (h : Given). Stands w h) (sym (with_messages-append (given_channels name channels) messages (m ∷ []))) stands;
      files = files
          ∙ ap (option_map (after_writes step)) so_far.files
          ∙ map-after_writes (front_writes name channels messages) step old.files
          ∙ ap (λ (ws : List Write). option_map (after_writes ws) old.files) (step_writes name channels messages m);
      there = there;
      counts = counts_then old mid new so_far.counts counts;
    }

-- the record could not be begun
pub makes_begun : {T U : Type 0} (r : Result T WriteError) (answer : Result U WriteError) (name : List ℕ) (channels : List Channel) (messages : List BodyMessage) (old new : StoreView)
    → Makes (front_writes name channels []) old new r → OnOk answer ⊥ → ((e : WriteError) → IsErrOf answer e → IsErrOf r e)
    → Makes (record_writes name channels messages) old new answer
makes_begun r answer name channels messages old new made err passed_on =
    let rest = rest_writes name channels [] messages in
    subst (λ (ws : List Write). Makes ws old new answer) rest.1 (makes_first r answer (front_writes name channels []) rest.0 old new made err passed_on)

-- a message could not be written
pub makes_step : {T U : Type 0} (r : Result T WriteError) (answer : Result U WriteError) (name : List ℕ) (channels : List Channel) (messages : List BodyMessage) (m : BodyMessage)
    (later : List BodyMessage) (w : RecordWriter) (old mid new : StoreView) → IsUnderWay name channels messages w old mid
    → Makes (puts_into (given name channels messages).name (message_puts (given name channels messages) m)) mid new r
    → OnOk answer ⊥ → ((e : WriteError) → IsErrOf answer e → IsErrOf r e) → (IsErrOf answer write_error.Broken → ⊥)
    → Makes (record_writes name channels (messages ++ m ∷ later)) old new answer
makes_step r answer name channels messages m later w old mid new so_far made err passed_on unbroken =
    let g = given name channels messages in
    let front = front_writes name channels messages in
    let step = puts_into g.name (message_puts g m) in
    let rest = rest_writes name channels (messages ++ m ∷ []) later in
    let whole : front ++ (step ++ rest.0) ≡ record_writes name channels (messages ++ m ∷ later) =
    sym (append_assoc front step rest.0)
    ∙ ap (λ (l : List Write). l ++ rest.0) (step_writes name channels messages m)
    ∙ rest.1
    ∙ ap (record_writes name channels) (append_assoc messages (m ∷ []) later) in
    subst (λ (ws : List Write). Makes ws old new answer) whole
    (makes_then answer front (step ++ rest.0) old mid new so_far.files (makes_first r answer step rest.0 mid new made err passed_on) unbroken)

-- memory ran out before a message
pub makes_stopped : {T : Type 0} (answer : Result T WriteError) (name : List ℕ) (channels : List Channel) (messages later : List BodyMessage) (w : RecordWriter) (old mid : StoreView)
    → IsUnderWay name channels messages w old mid → OnOk answer ⊥ → (IsErrOf answer write_error.Failed → ⊥) → (IsErrOf answer write_error.Broken → ⊥)
    → Makes (record_writes name channels (messages ++ later)) old mid answer
makes_stopped answer name channels messages later w old mid so_far err unfailed unbroken =
    let rest = rest_writes name channels messages later in
    subst (λ (ws : List Write). Makes ws old mid answer) rest.1
    (makes_then answer (front_writes name channels messages) rest.0 old mid mid so_far.files (makes_none answer rest.0 mid err unfailed) unbroken)

-- all messages were taken, and the record is closed
pub makes_closed : {T : Type 0} (r : Result T WriteError) (name : List ℕ) (channels : List Channel) (messages : List BodyMessage) (w : RecordWriter) (old mid new : StoreView)
    → IsUnderWay name channels messages w old mid → Makes (puts_into (given name channels messages).name (close_puts (given name channels messages))) mid new r
    → (IsErrOf r write_error.Broken → ⊥) → Makes (record_writes name channels messages) old new r
makes_closed r name channels messages w old mid new so_far made unbroken =
    let g = given name channels messages in
    subst (λ (ws : List Write). Makes ws old new r) (close_writes name channels messages)
    (makes_then r (front_writes name channels messages) (puts_into g.name (close_puts g)) old mid new so_far.files made unbroken)

-- The channels.

channel_writes : (name : List ℕ) (channels : List Channel) (c : Channel)
    → front_writes name channels [] ++ puts_into name (channel_puts (given_channels name channels) c) ≡ front_writes name (channels ++ c ∷ []) []
channel_writes name channels c =
    writes_more name (front_puts channels []) (channel_puts (given_channels name channels) c)
    ∙ ap (file_writes name) (sym (front-channel name channels c))

rest_channels : (name : List ℕ) (channels later : List Channel)
    → (more : List Write) × (front_writes name channels [] ++ more ≡ front_writes name (channels ++ later) [])
rest_channels name channels [] = ([], append-nil (front_writes name channels []) ∙ ap (λ (cs : List Channel). front_writes name cs []) (sym (append-nil channels)))
rest_channels name channels (c ∷ later) =
    let front = front_writes name channels [] in
    let step = puts_into name (channel_puts (given_channels name channels) c) in
    let next = rest_channels name (channels ++ c ∷ []) later in (
      step ++ next.0,
      sym (append_assoc front step next.0)
          ∙ ap (λ (ws : List Write). ws ++ next.0) (channel_writes name channels c)
          ∙ next.1
          ∙ ap (λ (cs : List Channel). front_writes name cs []) (append_assoc channels (c ∷ []) later),
    )

-- the file was begun
pub begun : (name : List ℕ) (w : RecordWriter) (old new : StoreView) → Stands w (nothing_given name)
    → new.files ≡ option_map (after_writes (Create name ∷ puts_into name start_puts)) old.files → IsThere w new.files → SameCounts old new
    → IsUnderWay name [] [] w old new
begun name w old new stands files there counts = record { stands = stands; files = files; there = there; counts = counts }

-- it could not be begun
pub makes_unbegun : {T U : Type 0} (r : Result T WriteError) (answer : Result U WriteError) (name : List ℕ) (channels : List Channel) (old new : StoreView)
    → Makes (Create name ∷ puts_into name start_puts) old new r → OnOk answer ⊥ → ((e : WriteError) → IsErrOf answer e → IsErrOf r e)
    → Makes (front_writes name channels []) old new answer
makes_unbegun r answer name channels old new made err passed_on =
    let rest = rest_channels name [] channels in
    subst (λ (ws : List Write). Makes ws old new answer) rest.1 (makes_first r answer (front_writes name [] []) rest.0 old new made err passed_on)

-- a channel was put
pub given_channel : (name : List ℕ) (channels : List Channel) (c : Channel) (v w : RecordWriter) (old mid new : StoreView)
    → IsUnderWay name channels [] v old mid → Stands w (with_channel (given_channels name channels) c)
    → new.files ≡ option_map (after_writes (puts_into name (channel_puts (given_channels name channels) c))) mid.files
    → IsThere w new.files → SameCounts mid new
    → IsUnderWay name (channels ++ c ∷ []) [] w old new
given_channel name channels c v w old mid new so_far stands files there counts =
    let step = puts_into name (channel_puts (given_channels name channels) c) in
    record {
      stands = stands;
      files = files
          ∙ ap (option_map (after_writes step)) so_far.files
          ∙ map-after_writes (front_writes name channels []) step old.files
          ∙ ap (λ (ws : List Write). option_map (after_writes ws) old.files) (channel_writes name channels c);
      there = there;
      counts = counts_then old mid new so_far.counts counts;
    }

-- it could not be put
pub makes_channel : {T U : Type 0} (r : Result T WriteError) (answer : Result U WriteError) (name : List ℕ) (channels : List Channel) (c : Channel)
    (later : List Channel) (w : RecordWriter) (old mid new : StoreView) → IsUnderWay name channels [] w old mid
    → Makes (puts_into name (channel_puts (given_channels name channels) c)) mid new r
    → OnOk answer ⊥ → ((e : WriteError) → IsErrOf answer e → IsErrOf r e) → (IsErrOf answer write_error.Broken → ⊥)
    → Makes (front_writes name (channels ++ c ∷ later) []) old new answer
makes_channel r answer name channels c later w old mid new so_far made err passed_on unbroken =
    let front = front_writes name channels [] in
    let step = puts_into name (channel_puts (given_channels name channels) c) in
    let rest = rest_channels name (channels ++ c ∷ []) later in
    let whole : front ++ (step ++ rest.0) ≡ front_writes name (channels ++ c ∷ later) [] =
    sym (append_assoc front step rest.0)
    ∙ ap (λ (l : List Write). l ++ rest.0) (channel_writes name channels c)
    ∙ rest.1
    ∙ ap (λ (cs : List Channel). front_writes name cs []) (append_assoc channels (c ∷ []) later) in
    subst (λ (ws : List Write). Makes ws old new answer) whole
    (makes_then answer front (step ++ rest.0) old mid new so_far.files (makes_first r answer step rest.0 mid new made err passed_on) unbroken)
