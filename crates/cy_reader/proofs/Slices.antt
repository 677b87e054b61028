-- What is read of bytes that stand in the file stands there too.
use Rattle.std.proofs.Common.{◌≡◌, ◌≤◌, ℕ, zero, suc, ◌+◌, ◌*◌, ◌-◌, ◌/◌, List, [], ◌∷◌, length, take, drop, min, refl, ap, sym, ◌∙◌, subst, arith, length-drop, length-take, Option, Some, None, Result, Ok, Err, Bool, true, false, if◌then◌else◌, nat_lt, ◌==◌, inl, inr}
use Rattle.std.specs.Prelude.{unwrap_or}
use Rattle.std.specs.List.{last_or, cons_option}
use Rattle.std.specs.Str.Lossy.{utf8_valid_len}
use Rattle.std.proofs.lemmas.List.{drop-take, drop-drop, take-take, take_all}
use Rattle.std.proofs.lemmas.Bool.{cases_lt}
use Rattle.byteorder.specs.Endian.{little_number}
use Rattle.cy_wire.specs.declared.error.WireError.{WireError}
use Rattle.cy_wire.specs.declared.error.WireError.TheVariants.{Cut}
use Rattle.cy_wire.specs.Varint.{varint_at}
use Rattle.cy_wire.specs.Field.{◌>>=◌, WireValue, Varint, Eight, Bytes, Four, WireField, Fields, wire_type, fixed_at, number_at, bytes_at, value_at, field_at, fields_in, fields_of, and_those_behind}
use Rattle.cy_wire.specs.Message.{WireSpan, bytes_value, span_in, spans_of, last_span, span_of}
use Rattle.cy_wire.proofs.Taken.{bind_ok, varint_at-takes, field_at-takes}
use Rattle.cy_wire.specs.Message.{bytes_of, u64_of}
use Rattle.cy_section.specs.declared.error.SectionError.{SectionError}
use Rattle.cy_section.specs.declared.error.SectionError.TheVariants.{NameNotText}
use Rattle.cy_section.specs.declared.types.Channel.{Channel}
use Rattle.cy_section.specs.Reading as section
use Rattle.cy_section.specs.Reading.{PlacedMessage, Messages, unless_cut_off, text_of, message_in, message_at, messages_in, messages_of, channel_in, channel_at}
use Rattle.cy_cut.specs.Stands.{Stands}
use Rattle.cy_reader.specs.private.Loading.{IsWithin}

guard_ok : {A : Type 0} (b : Bool) (d : WireError) (y x : A) → (if b then Err d else Ok y) ≡ Ok x → y ≡ x
guard_ok true d y x e = absurd cc
guard_ok false d y x e = cc

made_is : {A : Type 0} (p q : A) → (let r : Result A WireError = Ok p in r ≡ Ok q) → p ≡ q
made_is p q e = cc

take_twice : (n m : ℕ) (xs : List ℕ) → take n (take m xs) ≡ take (min n m) xs
take_twice n m xs = elim (cases_lt m n) [
  | inl more ↦
      let least : min n m ≡ m = omega arith in
      take_all n (take m xs) (omega (arith, length-take m xs)) ∙ ap (λ (k : ℕ). take k xs) (sym least)
  | inr few ↦
      let least : min n m ≡ n = omega arith in
      take-take n m xs few ∙ ap (λ (k : ℕ). take k xs) (sym least)
]

-- a part of them, and the rest
part_there : (file : List ℕ) (at k n : ℕ) (bytes : List ℕ) → Stands file at bytes → k ≤ length bytes → Stands file (at + k) (take n (drop k bytes))
part_there file at k n bytes s few =
    let inside = s.inside in
    let left : length (drop k bytes) ≡ length bytes - k = length-drop k bytes in
    let size : length (take n (drop k bytes)) ≡ min n (length bytes - k) = length-take n (drop k bytes) ∙ ap (min n) left in
    let whole : k + (length bytes - k) ≡ length bytes = omega arith in
    let behind : drop k bytes ≡ take (length bytes - k) (drop (at + k) file) =
    ap (drop k) (s.same ∙ ap (λ (m : ℕ). take m (drop at file)) (sym whole)) ∙ drop-take k (length bytes - k) (drop at file) ∙ ap (take (length bytes - k)) (drop-drop k at file) in
    record {
      inside = omega (arith, size);
      same = ap (take n) behind ∙ take_twice n (length bytes - k) (drop (at + k) file) ∙ ap (λ (m : ℕ). take m (drop (at + k) file)) (sym size);
    }

rest_there : (file : List ℕ) (at k : ℕ) (bytes : List ℕ) → Stands file at bytes → k ≤ length bytes → Stands file (at + k) (drop k bytes)
rest_there file at k bytes s few =
    let inside = s.inside in
    let left : length (drop k bytes) ≡ length bytes - k = length-drop k bytes in
    let whole : k + (length bytes - k) ≡ length bytes = omega arith in
    record {
      inside = omega arith;
      same = ap (drop k) (s.same ∙ ap (λ (m : ℕ). take m (drop at file)) (sym whole)) ∙ drop-take k (length bytes - k) (drop at file) ∙ ap (take (length bytes - k)) (drop-drop k at file)
          ∙ ap (λ (m : ℕ). take m (drop (at + k) file)) (sym left);
    }

part_stands : (from : ℕ) (file : List ℕ) (at k n : ℕ) (bytes : List ℕ) → IsWithin from file at bytes → k ≤ length bytes → IsWithin from file (at + k) (take n (drop k bytes))
part_stands from file at k n bytes w few =
    let behind = w.behind in
    let place : (at - from) + k ≡ (at + k) - from = omega arith in
    record {
      behind = omega arith;
      stands = subst (λ (p : ℕ). Stands file p (take n (drop k bytes))) place (part_there file (at - from) k n bytes w.stands few);
    }

rest_stands : (from : ℕ) (file : List ℕ) (at k : ℕ) (bytes : List ℕ) → IsWithin from file at bytes → k ≤ length bytes → IsWithin from file (at + k) (drop k bytes)
rest_stands from file at k bytes w few =
    let behind = w.behind in
    let place : (at - from) + k ≡ (at + k) - from = omega arith in
    record {
      behind = omega arith;
      stands = subst (λ (p : ℕ). Stands file p (drop k bytes)) place (rest_there file (at - from) k bytes w.stands few);
    }

-- bytes stand in themselves
pub self_within : (at : ℕ) (bytes : List ℕ) → IsWithin at bytes at bytes
self_within at bytes =
    let nought : 0 ≡ at - at = omega arith in
    record {
      behind = omega arith;
      stands = subst (λ (p : ℕ). Stands bytes p bytes) nought (record { inside = omega arith; same = sym (take_all (length bytes) bytes (omega arith)) });
    }

-- the bytes of a value
abbrev pub ValueStands : ℕ → List ℕ → WireValue → Type 0
ValueStands from file (Varint value) = Unit {0}
ValueStands from file (Eight value) = Unit {0}
ValueStands from file (Bytes start bytes) = IsWithin from file start bytes
ValueStands from file (Four value) = Unit {0}

bytes_stand : (from : ℕ) (file : List ℕ) (at : ℕ) (bytes : List ℕ) (x : WireValue × ℕ) → IsWithin from file at bytes → bytes_at at bytes ≡ Ok x → ValueStands from file x.0
unfolding bytes_at
bytes_stand from file at bytes x s e =
    let n = bind_ok (varint_at at bytes) (λ size. if nat_lt (length bytes - size.1) size.0 then Err (Cut (at + size.1)) else Ok (Bytes (at + size.1) (take size.0 (drop size.1 bytes)), size.1 + size.0)) x e in
    let taken = varint_at-takes at bytes n.0 n.1 in
    let made = guard_ok (nat_lt (length bytes - n.0.1) n.0.0) (Cut (at + n.0.1)) (Bytes (at + n.0.1) (take n.0.0 (drop n.0.1 bytes)), n.0.1 + n.0.0) x n.2 in
    subst (λ (p : WireValue × ℕ). ValueStands from file p.0) made (part_stands from file at n.0.1 n.0.0 bytes s taken.most)

number_stands : (from : ℕ) (file : List ℕ) (at : ℕ) (bytes : List ℕ) (x : WireValue × ℕ) → number_at at bytes ≡ Ok x → ValueStands from file x.0
unfolding number_at
number_stands from file at bytes x e =
    let n = bind_ok (varint_at at bytes) (λ number. Ok (Varint number.0, number.1)) x e in
    subst (λ (p : WireValue × ℕ). ValueStands from file p.0) (made_is (Varint n.0.0, n.0.1) x n.2) tt

by_test : (b : Bool) (one other : Result (WireValue × ℕ) WireError) (x : WireValue × ℕ) → (if b then one else other) ≡ Ok x
    → {P : Type 0} → (one ≡ Ok x → P) → (other ≡ Ok x → P) → P
by_test true one other x e f g = f e
by_test false one other x e f g = g e

value_stands : (from : ℕ) (file : List ℕ) (kind at : ℕ) (bytes : List ℕ) (x : WireValue × ℕ) → IsWithin from file at bytes → value_at kind at bytes ≡ Ok x → ValueStands from file x.0
unfolding value_at
value_stands from file kind at bytes x s e =
    by_test (kind == 0) (number_at at bytes) _ x e (number_stands from file at bytes x) (λ e1.
    by_test (kind == 1) (fixed_at 8 Eight at bytes) _ x e1
    (λ f. let made = guard_ok (nat_lt (length bytes) 8) (Cut at) (Eight (little_number 8 bytes), 8) x f in subst (λ (p : WireValue × ℕ). ValueStands from file p.0) made tt) (λ e2.
    by_test (kind == 2) (bytes_at at bytes) _ x e2 (bytes_stand from file at bytes x s)
    (λ f. let made = guard_ok (nat_lt (length bytes) 4) (Cut at) (Four (little_number 4 bytes), 4) x f in subst (λ (p : WireValue × ℕ). ValueStands from file p.0) made tt)))

field_stands : (from : ℕ) (file : List ℕ) (at : ℕ) (bytes : List ℕ) (x : WireField × ℕ) → IsWithin from file at bytes → field_at at bytes ≡ Ok x → ValueStands from file x.0.value
unfolding field_at
field_stands from file at bytes x s e =
    let t = bind_ok (varint_at at bytes) (λ tag. wire_type at tag.0 >>= λ kind. value_at kind (at + tag.1) (drop tag.1 bytes) >>= λ value. Ok (record { number = tag.0 / 8; at = at; value = value.0 }, tag.1 + value.1)) x e in
    let k = bind_ok (wire_type at t.0.0) (λ kind. value_at kind (at + t.0.1) (drop t.0.1 bytes) >>= λ value. Ok (record { number = t.0.0 / 8; at = at; value = value.0 }, t.0.1 + value.1)) x t.2 in
    let v = bind_ok (value_at k.0 (at + t.0.1) (drop t.0.1 bytes)) (λ value. Ok (record { number = t.0.0 / 8; at = at; value = value.0 }, t.0.1 + value.1)) x k.2 in
    let tag = varint_at-takes at bytes t.0 t.1 in
    let field : WireField = record { number = t.0.0 / 8; at = at; value = v.0.0 } in
    subst (λ (p : WireField × ℕ). ValueStands from file p.0.value) (made_is (field, t.0.1 + v.0.1) x v.2)
    (value_stands from file k.0 (at + t.0.1) (drop t.0.1 bytes) v.0 (rest_stands from file at t.0.1 bytes s tag.most) v.1)

-- and those of all fields
abbrev pub AllStand : ℕ → List ℕ → List WireField → Type 0
AllStand from file [] = Unit {0}
AllStand from file (field ∷ fields) = ValueStands from file field.value × AllStand from file fields

behind_stand : (from : ℕ) (file : List ℕ) (r : Result (WireField × ℕ) WireError) (behind : ℕ → Fields) → ((x : WireField × ℕ) → r ≡ Ok x → ValueStands from file x.0.value × AllStand from file (behind x.1).fields)
    → AllStand from file (and_those_behind r behind).fields
behind_stand from file (Ok x) behind f = f x refl
behind_stand from file (Err fault) behind f = tt

fields_stand_in : (from : ℕ) (file : List ℕ) (more at : ℕ) (bytes : List ℕ) → IsWithin from file at bytes → AllStand from file (fields_in more at bytes).fields
unfolding fields_in
fields_stand_in from file more at [] s = tt
fields_stand_in from file zero at (b ∷ bytes) s = tt
fields_stand_in from file (suc more) at (b ∷ bytes) s =
    behind_stand from file (field_at at (b ∷ bytes)) (λ taken. fields_in more (at + taken) (drop taken (b ∷ bytes)))
    (λ x e.
    let taken = field_at-takes at (b ∷ bytes) x e in
    (field_stands from file at (b ∷ bytes) x s e, fields_stand_in from file more (at + x.1) (drop x.1 (b ∷ bytes)) (rest_stands from file at x.1 (b ∷ bytes) s taken.most)))

pub fields_stand : (from : ℕ) (file : List ℕ) (at : ℕ) (bytes : List ℕ) → IsWithin from file at bytes → AllStand from file (fields_of at bytes).fields
unfolding fields_of
fields_stand from file at bytes s = fields_stand_in from file (length bytes) at bytes s

-- the spans of a field's number
abbrev pub SpansStand : ℕ → List ℕ → List WireSpan → Type 0
SpansStand from file [] = Unit {0}
SpansStand from file (span ∷ spans) = IsWithin from file span.start span.bytes × SpansStand from file spans

abbrev pub SpanStands : ℕ → List ℕ → Option WireSpan → Type 0
SpanStands from file None = Unit {0}
SpanStands from file (Some span) = IsWithin from file span.start span.bytes

value_span : (from : ℕ) (file : List ℕ) (value : WireValue) → ValueStands from file value → SpanStands from file (bytes_value value)
value_span from file (Varint value) s = tt
value_span from file (Eight value) s = tt
value_span from file (Bytes start bytes) s = s
value_span from file (Four value) s = tt

chosen : (from : ℕ) (file : List ℕ) (b : Bool) (o : Option WireSpan) → SpanStands from file o → SpanStands from file (if b then o else None)
chosen from file true o s = s
chosen from file false o s = tt

span_stands : (from : ℕ) (file : List ℕ) (n : ℕ) (field : WireField) → ValueStands from file field.value → SpanStands from file (span_in n field)
unfolding span_in
span_stands from file n field s = chosen from file (field.number == n) (bytes_value field.value) (value_span from file field.value s)

pub spans_stand : (from : ℕ) (file : List ℕ) (n : ℕ) (fields : List WireField) → AllStand from file fields → SpansStand from file (spans_of n fields)
spans_stand from file n [] s = tt
spans_stand from file n (field ∷ fields) s = joined (span_in n field) (spans_of n fields) (span_stands from file n field s.0) (spans_stand from file n fields s.1)
  where
    joined : (o : Option WireSpan) (rest : List WireSpan) → SpanStands from file o → SpansStand from file rest → SpansStand from file (cons_option o rest)
    joined None rest a b = b
    joined (Some span) rest a b = (a, b)

last_stands : (from : ℕ) (file : List ℕ) (o : Option WireSpan) (spans : List WireSpan) → SpanStands from file o → SpansStand from file spans → SpanStands from file (last_or o spans)
last_stands from file o [] a b = a
last_stands from file o (span ∷ spans) a b = last_stands from file (Some span) spans b.0 b.1

empty_stands : (from : ℕ) (file : List ℕ) → Stands file (0 - from) []
empty_stands from file = record { inside = omega arith; same = refl }

given_stands : (from : ℕ) (file : List ℕ) (o : Option WireSpan) → SpanStands from file o → let span = unwrap_or o (record { start = 0; bytes = [] }) in Stands file (span.start - from) span.bytes
given_stands from file None s = empty_stands from file
given_stands from file (Some span) s = s.stands

pub span_of-stands : (from : ℕ) (file : List ℕ) (n : ℕ) (fields : List WireField) → AllStand from file fields → Stands file ((span_of n fields).start - from) (span_of n fields).bytes
unfolding last_span
span_of-stands from file n fields s = given_stands from file (last_or None (spans_of n fields)) (last_stands from file None (spans_of n fields) tt (spans_stand from file n fields s))

-- the messages of a body
abbrev pub MessagesStand : ℕ → List ℕ → List PlacedMessage → Type 0
MessagesStand from file [] = Unit {0}
MessagesStand from file (m ∷ rest) = Stands file (m.content_at - from) m.message.content × MessagesStand from file rest

section_bind : {A B : Type 0} (r : Result A SectionError) (f : A → Result B SectionError) (y : B) → section.◌>>=◌ r f ≡ Ok y → (x : A) × (r ≡ Ok x) × (f x ≡ Ok y)
section_bind (Ok x) f y e = (x, refl, e)
section_bind (Err d) f y e = cc

section_made : {A : Type 0} (p q : A) → (let r : Result A SectionError = Ok p in r ≡ Ok q) → p ≡ q
section_made p q e = cc

not_cut_off : {A : Type 0} (fault : Option WireError) (made : Result A SectionError) (x : A) → unless_cut_off fault made ≡ Ok x → made ≡ Ok x
not_cut_off None made x e = e
not_cut_off (Some fault) made x e = cc

message_stands_in : (from : ℕ) (file : List ℕ) (fields : List WireField) (m : PlacedMessage) → AllStand from file fields → message_in fields ≡ Ok m → Stands file (m.content_at - from) m.message.content
unfolding message_in
message_stands_in from file fields m s e =
    let name = section_bind (text_of (span_of 1 fields)) (λ name. Ok (record {
      message = record { channel_name = name; time = u64_of 2 fields; content = bytes_of 3 fields };
      content_at = (span_of 3 fields).start;
    })) m e in
    let made : PlacedMessage = record {
      message = record { channel_name = name.0; time = u64_of 2 fields; content = bytes_of 3 fields };
      content_at = (span_of 3 fields).start;
    } in
    subst (λ (p : PlacedMessage). Stands file (p.content_at - from) p.message.content) (section_made made m name.2) (span_of-stands from file 3 fields s)

message_stands : (from : ℕ) (file : List ℕ) (span : WireSpan) (m : PlacedMessage) → IsWithin from file span.start span.bytes → message_at span ≡ Ok m → Stands file (m.content_at - from) m.message.content
unfolding message_at
message_stands from file span m s e =
    let all = fields_of span.start span.bytes in
    message_stands_in from file all.fields m (fields_stand from file span.start span.bytes s) (not_cut_off all.fault (message_in all.fields) m e)

messages_behind : (from : ℕ) (file : List ℕ) (r : Result PlacedMessage SectionError) (rest : Messages) → ((m : PlacedMessage) → r ≡ Ok m → Stands file (m.content_at - from) m.message.content)
    → MessagesStand from file rest.messages → MessagesStand from file (section.and_those_behind r rest).messages
messages_behind from file (Ok m) rest f s = (f m refl, s)
messages_behind from file (Err fault) rest f s = tt

messages_stand_in : (from : ℕ) (file : List ℕ) (fault : Option WireError) (spans : List WireSpan) → SpansStand from file spans → MessagesStand from file (messages_in fault spans).messages
messages_stand_in from file fault [] s = tt
messages_stand_in from file fault (span ∷ spans) s =
    messages_behind from file (message_at span) (messages_in fault spans) (λ m e. message_stands from file span m s.0 e) (messages_stand_in from file fault spans s.1)

pub messages_stand : (from : ℕ) (file : List ℕ) (at : ℕ) (body : List ℕ) → IsWithin from file at body → MessagesStand from file (messages_of (fields_of at body)).messages
unfolding messages_of
messages_stand from file at body s = messages_stand_in from file (fields_of at body).fault (spans_of 1 (fields_of at body).fields) (spans_stand from file 1 (fields_of at body).fields (fields_stand from file at body s))

-- a channel is no longer than the file
text_is : (span : WireSpan) (text : List ℕ) → text_of span ≡ Ok text → span.bytes ≡ text
unfolding text_of
text_is span text e = tested (utf8_valid_len span.bytes == length span.bytes) span text e
  where
    tested : (b : Bool) (span : WireSpan) (text : List ℕ) → (if b then Ok span.bytes else Err (NameNotText span.start)) ≡ Ok text → span.bytes ≡ text
    tested true span text e = section_made span.bytes text e
    tested false span text e = absurd cc

pub channel_short : (from : ℕ) (file : List ℕ) (at : ℕ) (body : List ℕ) (c : Channel) → IsWithin from file at body → channel_at at body ≡ Ok c
    → length c.name + length c.message_type + length c.proto_desc ≤ 3 * length file
unfolding channel_at channel_in
channel_short from file at body c s e =
    let all = fields_of at body in
    let fields = all.fields in
    let stand = fields_stand from file at body s in
    let read = not_cut_off all.fault (channel_in 1 fields) c e in
    let name = section_bind (text_of (span_of 1 fields)) (λ name. section.◌>>=◌ (text_of (span_of 2 fields)) (λ message_type. Ok (record { name = name; message_type = message_type; proto_desc = bytes_of 3 fields }))) c read in
    let type = section_bind (text_of (span_of 2 fields)) (λ message_type. Ok (record { name = name.0; message_type = message_type; proto_desc = bytes_of 3 fields })) c name.2 in
    let made : Channel = record { name = name.0; message_type = type.0; proto_desc = bytes_of 3 fields } in
    let a = (span_of-stands from file 1 fields stand).inside in
    let b = (span_of-stands from file 2 fields stand).inside in
    let d = (span_of-stands from file 3 fields stand).inside in
    let n : length (span_of 1 fields).bytes ≡ length name.0 = ap length (text_is (span_of 1 fields) name.0 name.1) in
    let t : length (span_of 2 fields).bytes ≡ length type.0 = ap length (text_is (span_of 2 fields) type.0 type.1) in
    subst (λ (k : Channel). length k.name + length k.message_type + length k.proto_desc ≤ 3 * length file) (section_made made c type.2) (omega arith)
