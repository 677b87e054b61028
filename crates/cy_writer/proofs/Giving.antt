-- A record while its messages are given one after another, and how its writing ends.
use Rattle.std.proofs.Common.{◌≡◌, ℕ, ◌<◌, List, [], ◌∷◌, ◌++◌, length, Option, Some, None, Result, Ok, Err, IsErrOf, refl, sym, ap, subst, ◌∙◌, append_assoc, append-nil}
use Rattle.std.specs.Prelude.{slice_get, unwrap_or}
use Rattle.std.proofs.lemmas.List.{map-append}
use Rattle.std.proofs.lemmas.Option.{slice_get-get_or}
use Rattle.cy_store.specs.Store.{StoreView}
use Rattle.cy_section.specs.declared.types.Channel.{Channel}
use Rattle.cy_section.specs.declared.types.BodyMessage.{BodyMessage}
use Rattle.cy_writer.specs.declared.error.WriteError.{WriteError}
use Rattle.cy_writer.specs.declared.error.WriteError.TheVariants as write_error
use Rattle.cy_writer.specs.declared.messages.Stamp.{Stamp}
use Rattle.cy_writer.specs.declared.writer.RecordWriter.{RecordWriter}
use Rattle.cy_writer.specs.Calls.{TakesMessage, Closes, IsRefusedBroken}
use Rattle.cy_writer.specs.Given.{message_on}
use Rattle.cy_writer.specs.Messages.{Message, Giving, Gives, NextAnswer}
use Rattle.cy_writer.specs.Record.{numbered, messages_on, HaveChannels, WritesRecord}
use Rattle.cy_writer.specs.RecordWrites.{given_channels}
use Rattle.cy_writer.specs.Stands.{Stands, IsThere, HasChannel}
use Rattle.cy_writer.specs.private.Steps.{StartsRecord}
use Rattle.cy_writer.specs.Writes.{Makes}
use Rattle.cy_writer.proofs.FrontPuts.{same_channels}
use Rattle.cy_writer.proofs.Puts.{causes_none, causes_same}
use Rattle.cy_writer.proofs.RecordCalls.{IsUnderWay, given, front_writes, record_writes, unbroken, has_channel, stepped, causes_later, makes_begun, makes_stopped, makes_step, makes_closed}

-- The message at hand.

pub behind : {A : Type 0} (xs : List A) (y : A) (ys : List A) → slice_get (xs ++ y ∷ ys) (length xs) ≡ Some y
behind [] y ys = refl
behind (x ∷ xs) y ys = behind xs y ys

no_channel : Channel
no_channel = record { name = []; message_type = []; proto_desc = [] }

numbered_there : (channels : List Channel) (n : ℕ) → n < length channels → slice_get channels n ≡ Some (numbered channels n)
unfolding no_channel
numbered_there channels n low =
    let there = slice_get-get_or channels n no_channel low in
    there ∙ ap (λ (c : Channel). Some c) (sym (ap (λ (o : Option Channel). unwrap_or o no_channel) there))

abbrev pub at_hand : Stamp → Giving → Message
at_hand stamp now = record { channel = stamp.channel; time = stamp.time; content = now.content }

abbrev pub written_on : List Channel → Message → BodyMessage
written_on channels m = message_on (numbered channels m.channel) m.time m.content

on_more : (channels : List Channel) (taken : List Message) (m : Message) (rest : List Message)
    → messages_on channels (taken ++ m ∷ rest) ≡ messages_on channels taken ++ written_on channels m ∷ messages_on channels rest
on_more channels taken m rest = map-append (written_on channels) taken (m ∷ rest)

-- How far the writing is.

-- these messages were written, and the others are still to come
pub record IsHalfway (name : List ℕ) (channels : List Channel) (all : List Message) (now : Giving) (w : RecordWriter) (old mid : StoreView) : Type 0 where
  pub taken : List Message
  pub split : taken ++ now.rest ≡ all
  pub under_way : IsUnderWay name channels (messages_on channels taken) w old mid

-- and one is at hand
pub record HasNext (name : List ℕ) (channels : List Channel) (all : List Message) (stamp : Stamp) (now : Giving) (w : RecordWriter) (old mid : StoreView) : Type 0 where
  pub taken : List Message
  pub split : taken ++ at_hand stamp now ∷ now.rest ≡ all
  pub under_way : IsUnderWay name channels (messages_on channels taken) w old mid
  pub channel : slice_get (given name channels (messages_on channels taken)).channels stamp.channel ≡ Some (numbered channels stamp.channel)

-- the next one is at hand
pub taking : (name : List ℕ) (channels : List Channel) (all : List Message) (stamp : Stamp) (before now : Giving) (w : RecordWriter) (old mid : StoreView)
    → HaveChannels channels all → IsHalfway name channels all before w old mid → Gives before now (Some stamp)
    → HasNext name channels all stamp now w old mid
taking name channels all stamp before now w old mid have half gives =
    let m = at_hand stamp now in
    let split : half.taken ++ m ∷ now.rest ≡ all = ap (λ (l : List Message). half.taken ++ l) (sym gives) ∙ half.split in
    let here : slice_get all (length half.taken) ≡ Some m = ap (λ (l : List Message). slice_get l (length half.taken)) (sym split) ∙ behind half.taken m now.rest in
    record {
      taken = half.taken;
      split = split;
      under_way = half.under_way;
      channel = ap (λ (cs : List Channel). slice_get cs stamp.channel) (same_channels (given_channels name channels) (messages_on channels half.taken))
          ∙ numbered_there channels stamp.channel (have (length half.taken) m here);
    }

pub has_next : (name : List ℕ) (channels : List Channel) (all : List Message) (stamp : Stamp) (now : Giving) (w : RecordWriter) (old mid : StoreView)
    → HasNext name channels all stamp now w old mid → HasChannel w stamp.channel
has_next name channels all stamp now w old mid next =
    has_channel w (given name channels (messages_on channels next.taken)) stamp.channel (numbered channels stamp.channel) next.under_way.stands next.channel

-- it was written
pub wrote : {T : Type 0} (t : T) (name : List ℕ) (channels : List Channel) (all : List Message) (stamp : Stamp) (now : Giving) (v w : RecordWriter) (old mid new : StoreView)
    → HasNext name channels all stamp now v old mid → TakesMessage (Stands v) (Stands w) stamp.channel stamp.time now.content mid new (Ok t) → IsThere w new.files
    → IsHalfway name channels all now w old new
wrote t name channels all stamp now v w old mid new next takes there =
    let m = at_hand stamp now in
    let c = numbered channels stamp.channel in
    let so_far = messages_on channels next.taken in
    let g = given name channels so_far in
    record {
      taken = next.taken ++ m ∷ [];
      split = append_assoc next.taken (m ∷ []) now.rest ∙ next.split;
      under_way = subst (λ (ms : List BodyMessage). IsUnderWay name channels ms w old new) (sym (on_more channels next.taken m []))
          (stepped name channels so_far (written_on channels m) v w old mid new next.under_way (takes.given g c next.under_way.stands next.channel)
          (takes.makes g c next.under_way.stands next.channel).done there (takes.causes.quiet (λ failed. cc)));
    }

-- How it ends.

-- an error that is handed on
pub same_error : {T U : Type 0} (e f : WriteError) → (let r : Result T WriteError = Err e in IsErrOf r f) → (let r : Result U WriteError = Err e in IsErrOf r f)
same_error e f same = let alike : e ≡ f = cc in ap (λ x. Err x) alike

-- it could not be begun
pub ends_begun : {U : Type 0} (e : WriteError) (name : List ℕ) (channels : List Channel) (all : List Message) (old new : StoreView)
    → (let r : Result RecordWriter WriteError = Err e in StartsRecord name channels old new r)
    → (let r : Result U WriteError = Err e in WritesRecord name channels all old new r)
ends_begun {U = U} e name channels all old new starts =
    let r : Result RecordWriter WriteError = Err e in
    let answer : Result U WriteError = Err e in
    record {
      makes = makes_begun r answer name channels (messages_on channels all) old new starts.makes tt (λ f same. same_error e f same);
      unbroken = λ broken. starts.unbroken (same_error e write_error.Broken broken);
      causes = causes_same old new starts.causes (λ failed. same_error e write_error.Failed failed) (λ failed. same_error e write_error.Failed failed);
    }

-- memory ran out before the next message
pub ends_next : {T : Type 0} (e : WriteError) (name : List ℕ) (channels : List Channel) (all : List Message) (before now : Giving) (w : RecordWriter) (old mid : StoreView)
    → IsHalfway name channels all before w old mid → NextAnswer before now (Err e)
    → (let r : Result T WriteError = Err e in WritesRecord name channels all old mid r)
ends_next {T = T} e name channels all before now w old mid half next =
    let answer : Result T WriteError = Err e in
    let memory : e ≡ write_error.Memory = next.only_memory in
    let unfailed : IsErrOf answer write_error.Failed → ⊥ = λ failed. cc in
    let unbroken : IsErrOf answer write_error.Broken → ⊥ = λ broken. cc in
    let so_far = half.under_way in
    record {
      makes = subst (λ (ms : List BodyMessage). Makes (record_writes name channels ms) old mid answer)
          (sym (map-append (written_on channels) half.taken before.rest) ∙ ap (messages_on channels) half.split)
          (makes_stopped answer name channels (messages_on channels half.taken) (messages_on channels before.rest) w old mid so_far tt unfailed unbroken);
      unbroken = unbroken;
      causes = causes_later (front_writes name channels (messages_on channels half.taken)) old mid mid so_far.files so_far.counts (causes_none mid unfailed);
    }

-- a message could not be written
pub ends_message : {T U : Type 0} (e : WriteError) (name : List ℕ) (channels : List Channel) (all : List Message) (stamp : Stamp) (now : Giving) (v w : RecordWriter) (old mid new : StoreView)
    → HasNext name channels all stamp now v old mid
    → (let r : Result T WriteError = Err e in TakesMessage (Stands v) (Stands w) stamp.channel stamp.time now.content mid new r)
    → (let r : Result T WriteError = Err e in IsRefusedBroken v mid new r)
    → (let r : Result U WriteError = Err e in WritesRecord name channels all old new r)
ends_message {T = T} {U = U} e name channels all stamp now v w old mid new next takes refused =
    let r : Result T WriteError = Err e in
    let answer : Result U WriteError = Err e in
    let m = at_hand stamp now in
    let c = numbered channels stamp.channel in
    let so_far = messages_on channels next.taken in
    let g = given name channels so_far in
    let under = next.under_way in
    let whole : IsErrOf answer write_error.Broken → ⊥ = λ broken. unbroken v g under.stands (refused.broken (same_error e write_error.Broken broken)) in
    record {
      makes = subst (λ (ms : List BodyMessage). Makes (record_writes name channels ms) old new answer)
          (sym (on_more channels next.taken m now.rest) ∙ ap (messages_on channels) next.split)
          (makes_step r answer name channels so_far (written_on channels m) (messages_on channels now.rest) v old mid new under
          (takes.makes g c under.stands next.channel) tt (λ f same. same_error e f same) whole);
      unbroken = whole;
      causes = causes_later (front_writes name channels so_far) old mid new under.files under.counts
          (causes_same mid new takes.causes (λ failed. same_error e write_error.Failed failed) (λ failed. same_error e write_error.Failed failed));
    }

-- no message is left, and the record is closed
pub ends_closed : {T : Type 0} (r : Result T WriteError) (name : List ℕ) (channels : List Channel) (all : List Message) (before now : Giving) (w : RecordWriter) (old mid new : StoreView)
    → {o : Option Stamp} → IsHalfway name channels all before w old mid → Gives before now o → o ≡ None → Closes (Stands w) mid new r → IsRefusedBroken w mid new r
    → WritesRecord name channels all old new r
ends_closed r name channels all before now w old mid new half last none closes refused =
    let gives : Gives before now None = rw none at last in
    let so_far = messages_on channels half.taken in
    let g = given name channels so_far in
    let under = half.under_way in
    let whole : IsErrOf r write_error.Broken → ⊥ = λ broken. unbroken w g under.stands (refused.broken broken) in
    let every : half.taken ≡ all = sym (append-nil half.taken) ∙ ap (λ (l : List Message). half.taken ++ l) (sym gives.0) ∙ half.split in
    record {
      makes = subst (λ (ms : List BodyMessage). Makes (record_writes name channels ms) old new r) (ap (messages_on channels) every)
          (makes_closed r name channels so_far w old mid new under (closes.makes g under.stands) whole);
      unbroken = whole;
      causes = causes_later (front_writes name channels so_far) old mid new under.files under.counts closes.causes;
    }
