-- The channels and the messages of the record.
use Rattle.std.proofs.Common.{◌≡◌, ◌≤◌, ◌<◌, ℕ, zero, suc, ◌+◌, ◌%◌, ◌==◌, Bool, true, false, if◌then◌else◌, List, [], ◌∷◌, length, map, get_or, codes, refl, sym, ap, ◌∙◌, subst, arith}
use Rattle.std.specs.Prelude.{nat_lt}
use Rattle.std.proofs.lemmas.Bool.{le-ltb}
use Rattle.std.proofs.lemmas.Option.{none-some, same_Some}
use Rattle.cy_wire.specs.Wire.{whole_content}
use Rattle.cy_section.specs.declared.types.Channel.{Channel}
use Rattle.cy_section.specs.declared.types.BodyMessage.{BodyMessage}
use Rattle.cy_section.specs.RecordText.{names_after, IsRecordText}
use Rattle.cy_writer.specs.Given.{message_on}
use Rattle.cy_writer.specs.Stands.{HaveOwnNames}
use Rattle.cy_writer.specs.Messages.{Message}
use Rattle.cy_writer.specs.Record.{numbered, messages_on, HaveChannels}
use Rattle.cy_writer.proofs.RecordChunks.{are_chunks_given}
use Rattle.cy_make.specs.Messages.{channel_on, time_of, value_of, untyped, channels_of, messages_after, messages_to}
use Rattle.cy_make.specs.private.Steps.{number_on, given_of, given_after}
use Rattle.cy_make.specs.Inputs.{record_name, made_chunks, made_record}

-- The channels.

abbrev pub both : List Channel
both = untyped (codes "/a") ∷ untyped (codes "/b") ∷ []

channels_both : (n : ℕ) → 3 ≤ n → channels_of n ≡ both
channels_both n h = ap (λ (b : Bool). untyped (codes "/a") ∷ (if b then [] else untyped (codes "/b") ∷ [])) (le-ltb n 3 h)

differ : (c d : Channel) → untyped (codes "/a") ≡ c → untyped (codes "/b") ≡ d → c.name ≡ d.name → ⊥
differ c d e f same =
    let names : codes "/a" ≡ codes "/b" = ap (λ (x : Channel). x.name) e ∙ same ∙ sym (ap (λ (x : Channel). x.name) f) in
    let letters : 97 ≡ 98 = ap (λ (name : List ℕ). get_or name 1 0) names in
    omega (arith, letters)

own_both : HaveOwnNames both
own_both zero zero c d e f same = refl
own_both zero (suc zero) c d e f same = absurd (differ c d (same_Some _ _ e) (same_Some _ _ f) same)
own_both zero (suc (suc j)) c d e f same = absurd (none-some d f)
own_both (suc zero) zero c d e f same = absurd (differ d c (same_Some _ _ f) (same_Some _ _ e) (sym same))
own_both (suc zero) (suc zero) c d e f same = refl
own_both (suc zero) (suc (suc j)) c d e f same = absurd (none-some d f)
own_both (suc (suc i)) j c d e f same = absurd (none-some c e)

own_one : HaveOwnNames (untyped (codes "/a") ∷ [])
own_one zero zero c d e f same = refl
own_one zero (suc j) c d e f same = absurd (none-some d f)
own_one (suc i) j c d e f same = absurd (none-some c e)

-- each channel has a name of its own
pub own_names : (n : ℕ) → HaveOwnNames (channels_of n)
own_names n = by (nat_lt n 3)
  where
    by : (b : Bool) → HaveOwnNames (untyped (codes "/a") ∷ (if b then [] else untyped (codes "/b") ∷ []))
    by true = own_one
    by false = own_both

low : (b : Bool) → (if b then 1 else 0) < 2
low true = omega arith
low false = omega arith

place_known : (j n : ℕ) → 0 < j → j ≤ n → number_on j < length (channels_of n)
place_known zero n some h = absurd (omega (arith, some))
place_known (suc zero) n some h = omega arith
place_known (suc (suc zero)) n some h = omega arith
place_known (suc (suc (suc k))) n some h =
    subst (λ (cs : List Channel). number_on (suc (suc (suc k))) < length cs) (sym (channels_both n (omega (arith, h)))) (low (suc (suc (suc k)) % 3 == 0))

named : (b : Bool) → numbered both (if b then 1 else 0) ≡ untyped (if b then codes "/b" else codes "/a")
named true = refl
named false = refl

name_known : (j n : ℕ) → 0 < j → j ≤ n → numbered (channels_of n) (number_on j) ≡ untyped (channel_on j)
name_known zero n some h = absurd (omega (arith, some))
name_known (suc zero) n some h = refl
name_known (suc (suc zero)) n some h = refl
name_known (suc (suc (suc k))) n some h =
    subst (λ (cs : List Channel). numbered cs (number_on (suc (suc (suc k)))) ≡ untyped (channel_on (suc (suc (suc k))))) (sym (channels_both n (omega (arith, h)))) (named (suc (suc (suc k)) % 3 == 0))

-- The messages.

-- each message stands on a channel
pub have_channels : (k m n : ℕ) → k + m ≤ n → HaveChannels (channels_of n) (given_after k m)
have_channels k zero n h i x e = absurd (none-some x e)
have_channels k (suc m) n h zero x e =
    subst (λ (y : Message). y.channel < length (channels_of n)) (same_Some (given_of (k + 1)) x e) (place_known (k + 1) n (omega arith) (omega (arith, h)))
have_channels k (suc m) n h (suc i) x e = have_channels (k + 1) m n (omega (arith, h)) i x e

-- on their channels they are the messages of the record
pub messages_shown : (k m n : ℕ) → k + m ≤ n → messages_on (channels_of n) (given_after k m) ≡ messages_after k m
messages_shown k zero n h = refl
messages_shown k (suc m) n h =
    let name = name_known (k + 1) n (omega arith) (omega (arith, h)) in
    let rest = messages_shown (k + 1) m n (omega (arith, h)) in
    (λ i. message_on (name i) (time_of (k + 1)) (whole_content (value_of (k + 1))) ∷ rest i)

-- The names of the channels are those of the messages.

abbrev pub names : List (List ℕ)
names = codes "/a" ∷ codes "/b" ∷ []

name_met : (b : Bool) (time : ℕ) (content : List ℕ) (rest : List BodyMessage)
    → names_after names ((record { channel_name = if b then codes "/b" else codes "/a"; time = time; content = content }) ∷ rest) ≡ names_after names rest
name_met true time content rest = refl
name_met false time content rest = refl

names_stay : (k m : ℕ) → names_after names (messages_after k m) ≡ names
names_stay k zero = refl
names_stay k (suc m) =
    name_met ((k + 1) % 3 == 0) (time_of (k + 1)) (whole_content (value_of (k + 1))) (messages_after (k + 1) m)
    ∙ names_stay (k + 1) m

names_all : (n : ℕ) → 0 < n → names_after [] (messages_to n) ≡ map (λ (c : Channel). c.name) (channels_of n)
names_all zero some = absurd (omega (arith, some))
names_all (suc zero) some = refl
names_all (suc (suc zero)) some = refl
names_all (suc (suc (suc n))) some =
    names_stay 3 n ∙ sym (ap (map (λ (c : Channel). c.name)) (channels_both (suc (suc (suc n))) (omega arith)))

pub record_text : (n : ℕ) (prefix : List ℕ) → 0 < n → IsRecordText (channels_of n) (messages_to n) (made_record n prefix)
record_text n prefix some = record {
  named = sym (names_all n some);
  chunks = made_chunks n prefix;
  cut = are_chunks_given (record_name prefix) (channels_of n) (messages_to n);
  text = refl;
}
