-- How the fields of a text, or its first fault, are computed. The tokens are read from the first
-- on: after some of them it is settled what may stand next, and a token that may not is the text's
-- fault. That this is what `Grammar` and `FirstFault` say is a law of `Laws`.
use Rattle.std.specs.Prelude.{ℕ, nat_lt, List, [], ◌∷◌, ◌++◌, length, Bool, true, false, Result, Ok}
use Rattle.std.specs.Prelude.{Err, if◌then◌else◌}
use Rattle.cy_text.specs.Fields.{Fields, Held, Nothing, And, Whole, Literal, Word, Quote, Message}
use Rattle.cy_text.specs.Strings.{and_then}
use Rattle.cy_text.specs.Tokens.{Tokens, Next, End, Faulty, tokens_of}
use Rattle.cy_text.specs.declared.token.Bracket.{Bracket}
use Rattle.cy_text.specs.declared.token.Bracket.TheVariants.{Brace, Angle}
use Rattle.cy_text.specs.declared.token.Token.TheVariants as token
use Rattle.cy_text.specs.declared.token.Lexeme.{Lexeme}
use Rattle.cy_text.specs.declared.expected.Place.{Place}
use Rattle.cy_text.specs.declared.expected.Place.TheVariants as place
use Rattle.cy_text.specs.declared.expected.Slot.{Slot}
use Rattle.cy_text.specs.declared.expected.Expected.{Expected}
use Rattle.cy_text.specs.declared.expected.Expected.TheVariants as expect
use Rattle.cy_text.specs.declared.expected.Frame.{Frame}
use Rattle.cy_text.specs.declared.error.BadKind.TheVariants as kind
use Rattle.cy_text.specs.declared.fault.Fault.{Fault}
use Rattle.cy_text.specs.declared.fault.Fault.TheVariants.{Bad, TooDeep}

-- The messages that are open, the innermost first, each with the fields before it, and the fields
-- of the innermost so far.
pub record Building : Type 0 where
  pub frames : List Frame
  pub fields : Fields

-- What is read, and what may stand next.
pub record Reading : Type 0 where
  pub building : Building
  pub next : Expected

abbrev pub reading : Building → Expected → Reading
reading building next = record { building = building; next = next }

-- A value in a list begins at its first token, and one of a field at the field's name.
abbrev pub start_of : Place → ℕ → ℕ → ℕ
start_of place.Field start at = start
start_of place.Item start at = at
start_of place.MessageItem start at = at

abbrev pub begun : Slot → ℕ → Slot
begun slot at = record {
  name = slot.name;
  start = start_of slot.place slot.start at;
  place =
      slot.place;
}

-- The items of a list behind a name, with or without a colon.
abbrev pub items_of : Slot → Place → Slot
items_of slot where_to = record { name = slot.name; start = slot.start; place = where_to }

-- What may stand behind a value.
abbrev pub after : Place → Slot → Expected
after place.Field slot = expect.Field true
after place.Item slot = expect.AfterItem slot
after place.MessageItem slot = expect.AfterItem slot

-- A value is an entry under its field's name.
unfoldable pub placed : Building → Slot → ℕ → Held → Reading
placed b slot end held = record {
  building = record {
    frames = b.frames;
    fields = And b.fields slot.name
        (record { start = slot.start; end = end }) held;
  };
  next = after slot.place slot;
}

-- A message begins, unless it stands in 64 others.
unfoldable pub opened : Building → Slot → Bracket → ℕ → Result Reading Fault
opened b slot bracket at =
    if nat_lt (length b.frames) 64
    then Ok (record {
      building = record {
        frames = record {
          fields = b.fields;
          slot = slot;
          bracket = bracket;
        } ∷ b.frames;
        fields = Nothing;
      };
      next = expect.Field false;
    })
    else Err (TooDeep at)

abbrev pub same_bracket : Bracket → Bracket → Bool
same_bracket Brace Brace = true
same_bracket Brace Angle = false
same_bracket Angle Brace = false
same_bracket Angle Angle = true

-- The innermost message ends with its own kind of bracket.
unfoldable pub closed : Building → Bracket → ℕ → ℕ → Result Reading Fault
closed b bracket at end = elim b.frames [
  | [] ↦ Err (Bad kind.Close at)
  | frame ∷ frames ↦
      if same_bracket frame.bracket bracket
      then Ok (placed (record { frames = frames; fields = frame.fields }) frame.slot end
      (Message b.fields))
      else Err (Bad kind.Close at)
]

-- Where a field's name may stand. A separator may stand behind a field, once.
unfoldable pub at_field : Building → Bool → Lexeme → Result Reading Fault
at_field b after_field lexeme = elim lexeme.token [
  | token.Word text ↦ Ok
      (reading b (expect.AfterName (record {
        name = text;
        start = lexeme.span.start;
        place =
            place.Field;
      })))
  | token.Close mark ↦ closed b mark lexeme.span.start lexeme.span.end
  | token.Comma ↦ if after_field then Ok (reading b (expect.Field false)) else Err
      (Bad kind.Close lexeme.span.start)
  | token.Semicolon ↦ if after_field then Ok (reading b (expect.Field false)) else Err
      (Bad kind.Close lexeme.span.start)
  | token.ListClose ↦ Err (Bad kind.Close lexeme.span.start)
  | token.ListOpen ↦ Err (Bad kind.Extension lexeme.span.start)
  | token.Open _ ↦ Err (Bad kind.Name lexeme.span.start)
  | token.Colon ↦ Err (Bad kind.Name lexeme.span.start)
  | token.Minus ↦ Err (Bad kind.Name lexeme.span.start)
  | token.Whole size ↦ Err (Bad kind.Name lexeme.span.start)
  | token.Literal text ↦ Err (Bad kind.Name lexeme.span.start)
  | token.Quote bytes ↦ Err (Bad kind.Name lexeme.span.start)
]

-- Where a message has to stand, since there is no colon.
unfoldable pub at_message : Building → Slot → Lexeme → Result Reading Fault
at_message b slot lexeme = elim lexeme.token [
  | token.Open mark ↦ opened b (begun slot lexeme.span.start) mark lexeme.span.start
  | token.Minus ↦ Err (Bad kind.Colon lexeme.span.start)
  | token.Whole size ↦ Err (Bad kind.Colon lexeme.span.start)
  | token.Literal text ↦ Err (Bad kind.Colon lexeme.span.start)
  | token.Word text ↦ Err (Bad kind.Colon lexeme.span.start)
  | token.Quote bytes ↦ Err (Bad kind.Colon lexeme.span.start)
  | token.Close _ ↦ Err (Bad kind.Value lexeme.span.start)
  | token.ListOpen ↦ Err (Bad kind.Value lexeme.span.start)
  | token.ListClose ↦ Err (Bad kind.Value lexeme.span.start)
  | token.Colon ↦ Err (Bad kind.Value lexeme.span.start)
  | token.Comma ↦ Err (Bad kind.Value lexeme.span.start)
  | token.Semicolon ↦ Err (Bad kind.Value lexeme.span.start)
]

-- Where a value has to stand, which may be a message.
unfoldable pub at_value : Building → Slot → Lexeme → Result Reading Fault
at_value b slot lexeme = elim lexeme.token [
  | token.Open mark ↦ opened b (begun slot lexeme.span.start) mark lexeme.span.start
  | token.Minus ↦ Ok (reading b (expect.Signed (begun slot lexeme.span.start)))
  | token.Whole size ↦ Ok (placed b (begun slot lexeme.span.start) lexeme.span.end
      (Whole false size))
  | token.Literal text ↦ Ok (placed b (begun slot lexeme.span.start) lexeme.span.end (Literal text))
  | token.Word text ↦ Ok (placed b (begun slot lexeme.span.start) lexeme.span.end (Word false text))
  | token.Quote bytes ↦ Ok
      (reading b (expect.Strings (begun slot lexeme.span.start) bytes lexeme.span.end))
  | token.Close _ ↦ Err (Bad kind.Value lexeme.span.start)
  | token.ListOpen ↦ Err (Bad kind.Value lexeme.span.start)
  | token.ListClose ↦ Err (Bad kind.Value lexeme.span.start)
  | token.Colon ↦ Err (Bad kind.Value lexeme.span.start)
  | token.Comma ↦ Err (Bad kind.Value lexeme.span.start)
  | token.Semicolon ↦ Err (Bad kind.Value lexeme.span.start)
]

-- Behind a name: a colon, a message, or a list of messages.
unfoldable pub after_name : Building → Slot → Lexeme → Result Reading Fault
after_name b slot lexeme = elim lexeme.token [
  | token.Colon ↦ Ok (reading b (expect.AfterColon slot))
  | token.ListOpen ↦ Ok (reading b (expect.FirstItem (items_of slot place.MessageItem)))
  | _ ↦ at_message b slot lexeme
]

-- Behind a colon: a list or any other value.
unfoldable pub after_colon : Building → Slot → Lexeme → Result Reading Fault
after_colon b slot lexeme = elim lexeme.token [
  | token.ListOpen ↦ Ok (reading b (expect.FirstItem (items_of slot place.Item)))
  | _ ↦ at_value b slot lexeme
]

-- Where an item of a list has to stand.
unfoldable pub at_item : Building → Slot → Lexeme → Result Reading Fault
at_item b slot lexeme = elim slot.place [
  | place.MessageItem ↦ at_message b slot lexeme
  | place.Item ↦ at_value b slot lexeme
  | place.Field ↦ at_value b slot lexeme
]

-- Behind the bracket of a list: its end, or an item.
unfoldable pub at_first_item : Building → Slot → Lexeme → Result Reading Fault
at_first_item b slot lexeme = elim lexeme.token [
  | token.ListClose ↦ Ok (reading b (expect.Field true))
  | _ ↦ at_item b slot lexeme
]

-- Behind an item: a comma, or the list's end.
unfoldable pub after_item : Building → Slot → Lexeme → Result Reading Fault
after_item b slot lexeme = elim lexeme.token [
  | token.Comma ↦ Ok (reading b (expect.Item slot))
  | token.ListClose ↦ Ok (reading b (expect.Field true))
  | _ ↦ Err (Bad kind.Close lexeme.span.start)
]

-- Behind a sign: a number or a word.
unfoldable pub after_sign : Building → Slot → Lexeme → Result Reading Fault
after_sign b slot lexeme = elim lexeme.token [
  | token.Whole size ↦ Ok (placed b slot lexeme.span.end (Whole true size))
  | token.Literal text ↦ Ok (placed b slot lexeme.span.end (Literal (45 ∷ text)))
  | token.Word text ↦ Ok (placed b slot lexeme.span.end (Word true text))
  | _ ↦ Err (Bad kind.Value lexeme.span.start)
]

-- Behind a value that is placed.
unfoldable pub after_value : Reading → Lexeme → Result Reading Fault
after_value r lexeme = elim r.next [
  | expect.AfterItem slot ↦ after_item r.building slot lexeme
  | _ ↦ at_field r.building true lexeme
]

-- Behind a string: more of it, or what may follow a value.
unfoldable pub after_string : Building → Slot → List ℕ → ℕ → Lexeme → Result Reading Fault
after_string b slot bytes end lexeme = elim lexeme.token [
  | token.Quote more ↦ Ok (reading b (expect.Strings slot (bytes ++ more) lexeme.span.end))
  | _ ↦ after_value (placed b slot end (Quote bytes)) lexeme
]

-- One more token.
unfoldable pub after_token : Reading → Lexeme → Result Reading Fault
after_token r lexeme = elim r.next [
  | expect.Field after_field ↦ at_field r.building after_field lexeme
  | expect.AfterName slot ↦ after_name r.building slot lexeme
  | expect.AfterColon slot ↦ after_colon r.building slot lexeme
  | expect.FirstItem slot ↦ at_first_item r.building slot lexeme
  | expect.Item slot ↦ at_item r.building slot lexeme
  | expect.AfterItem slot ↦ after_item r.building slot lexeme
  | expect.Signed slot ↦ after_sign r.building slot lexeme
  | expect.Strings slot bytes end ↦ after_string r.building slot bytes end lexeme
]

-- The end of the text where a field's name may stand: no message may be open.
unfoldable pub all_closed : Building → ℕ → Result Fields Fault
all_closed b at = elim b.frames [
  | [] ↦ Ok b.fields
  | frame ∷ frames ↦ Err (Bad kind.Close at)
]

-- The end of the text behind a string that is a value.
unfoldable pub ends_value : Reading → ℕ → Result Fields Fault
ends_value r at = elim r.next [
  | expect.Field after_field ↦ all_closed r.building at
  | _ ↦ Err (Bad kind.Close at)
]

-- The end of the text.
unfoldable pub finish : Reading → ℕ → Result Fields Fault
finish r at = elim r.next [
  | expect.Field after_field ↦ all_closed r.building at
  | expect.AfterName slot ↦ Err (Bad kind.Value at)
  | expect.AfterColon slot ↦ Err (Bad kind.Value at)
  | expect.FirstItem slot ↦ Err (Bad kind.Value at)
  | expect.Item slot ↦ Err (Bad kind.Value at)
  | expect.AfterItem slot ↦ Err (Bad kind.Close at)
  | expect.Signed slot ↦ Err (Bad kind.Value at)
  | expect.Strings slot bytes end ↦ ends_value (placed r.building slot end (Quote bytes)) at
]

-- The fields that tokens say, or their first fault.
unfoldable pub read : Reading → Tokens → Result Fields Fault
read r (Next lexeme more) = and_then (after_token r lexeme) (λ next. read next more)
read r (End at) = finish r at
read r (Faulty fault) = Err fault

-- Nothing is read.
abbrev pub unread : Reading
unread = record { building = record { frames = []; fields = Nothing }; next = expect.Field false }

-- The fields of a text, or its first fault.
unfoldable pub read_text : List ℕ → Result Fields Fault
read_text text = read unread (tokens_of text)
