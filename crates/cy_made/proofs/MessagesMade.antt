-- The record that is made is read.
use Rattle.std.proofs.Common.{◌≡◌, ◌≤◌, ◌<◌, ◌+◌, ◌%◌, ◌==◌, ℕ, zero, suc, List, [], ◌∷◌, Bool, true, false, if◌then◌else◌, Ok, length, codes, refl, ap, arith, lit≤, sum_by, map}
use Rattle.std.specs.Prelude.{nat_lt}
use Rattle.std.specs.List.{AllByRecursion}
use Rattle.std.specs.Str.{is_utf8, chars}
use Rattle.std.proofs.lemmas.Str.{IsUtf8-from_is_utf8}
use Rattle.cy_wire.specs.Wire.{whole_content, zigzag}
use Rattle.cy_section.specs.declared.types.BodyMessage.{BodyMessage}
use Rattle.cy_section.specs.declared.types.Channel.{Channel}
use Rattle.cy_section.specs.Chunks.{messages_in}
use Rattle.cy_section.proofs.Lengths.{length-field_u64}
use Rattle.cy_read_back.specs.Records.{AreReadable, IsReadableChannel, IsReadableMessage, text_contents}
use Rattle.cy_read_back.proofs.TextRead.{is_text, text_read}
use Rattle.cy_reader.specs.Record.{record_of, size_of, with_section}
use Rattle.cy_make.specs.Messages.{channels_of, messages_after, messages_to, untyped, value_of}
use Rattle.cy_make.specs.Inputs.{made_record, record_name}
use Rattle.cy_make.proofs.RecordText.{record_text}
use Rattle.cy_made.proofs.RecordShort.{IsLight, IsPlain, record_short}

content_light : (k : ℕ) → length (whole_content (value_of k)) ≤ 11
content_light k = length-field_u64 1 (zigzag (value_of k)) (lit≤ tt)

name_light : (b : Bool) → length (if b then codes "/b" else codes "/a") ≤ 16
name_light true = lit≤ tt
name_light false = lit≤ tt

messages_light : (k n : ℕ) → AllByRecursion IsLight (messages_after k n)
messages_light k zero = tt
messages_light k (suc n) = (record { name = name_light ((k + 1) % 3 == 0); content = omega (arith, content_light (k + 1)) }, messages_light (k + 1) n)

messages_readable : (k n : ℕ) → k + n ≤ 1048576 → AllByRecursion IsReadableMessage (messages_after k n)
messages_readable k zero few = tt
messages_readable k (suc n) few = (record { time = omega (arith, few); small = omega (arith, content_light (k + 1)) }, messages_readable (k + 1) n (omega (arith, few)))

pub message_count : (k n : ℕ) → length (messages_after k n) ≡ n
message_count k zero = refl
message_count k (suc n) = ap suc (message_count (k + 1) n)

plain : (name : List ℕ) → length name ≤ 16 → IsPlain (untyped name)
plain name short = record { name = short; message_type = refl; proto_desc = refl }

nil_text : is_utf8 [] ≡ true
unfolding is_utf8 chars lib.Utf8.encode
nil_text = refl

readable : (name : List ℕ) → length name ≤ 16 → is_utf8 name ≡ true → IsReadableChannel (untyped name)
readable name short is = record { short = omega (arith, short); name_is_text = IsUtf8-from_is_utf8 name is; type_is_text = IsUtf8-from_is_utf8 [] nil_text }

a_text : is_utf8 (codes "/a") ≡ true
unfolding is_utf8 chars lib.Utf8.encode
a_text = refl

b_text : is_utf8 (codes "/b") ≡ true
unfolding is_utf8 chars lib.Utf8.encode
b_text = refl

-- what is needed of the channels, whether there is one or both
record AreFit (cs : List Channel) : Type 0 where
  few : length cs ≤ 2
  small : sum_by size_of (map with_section cs) ≤ 268435456
  plain : AllByRecursion IsPlain cs
  readable : AllByRecursion IsReadableChannel cs

fit_by : (b : Bool) → AreFit (untyped (codes "/a") ∷ (if b then [] else untyped (codes "/b") ∷ []))
fit_by true = record { few = lit≤ tt; small = lit≤ tt; plain = (plain (codes "/a") (lit≤ tt), tt); readable = (readable (codes "/a") (lit≤ tt) a_text, tt) }
fit_by false = record {
  few = lit≤ tt;
  small = lit≤ tt;
  plain = (plain (codes "/a") (lit≤ tt), (plain (codes "/b") (lit≤ tt), tt));
  readable = (readable (codes "/a") (lit≤ tt) a_text, (readable (codes "/b") (lit≤ tt) b_text, tt));
}

are_readable : (n : ℕ) (prefix : List ℕ) → 0 < n → n ≤ 1048576 → AreReadable (channels_of n) (messages_to n) (made_record n prefix)
are_readable n prefix some few =
    let fit = fit_by (nat_lt n 3) in
    let count = message_count 0 n in
    record {
      short = record_short (channels_of n) (messages_to n) (made_record n prefix) (record_text n prefix some) fit.few (omega (arith, count, few)) fit.plain (messages_light 0 n);
      few = omega (arith, fit.few);
      small = fit.small;
      each_channel = fit.readable;
      each_message = messages_readable 0 n (omega (arith, few));
    }

-- what it is read as, in some chunks
pub record IsRead (n : ℕ) (prefix : List ℕ) : Type 0 where
  pub chunks : List (List BodyMessage)
  pub read : record_of (record_name prefix) (made_record n prefix) ≡ Ok (text_contents (record_name prefix) (channels_of n) chunks)
  pub whole : messages_in chunks ≡ messages_to n

pub record_read : (n : ℕ) (prefix : List ℕ) → 0 < n → n ≤ 1048576 → IsRead n prefix
record_read n prefix some few =
    let text = record_text n prefix some in
    record {
      chunks = text.chunks;
      read = text_read (record_name prefix) (made_record n prefix) (channels_of n) text.chunks (is_text (channels_of n) (messages_to n) (made_record n prefix) text (are_readable n prefix some few));
      whole = text.cut.whole;
    }
