-- What a message holds under a name.
use Rattle.std.specs.Prelude.{ℕ, ℤ, List, [], ◌∷◌, ◌++◌, Option, Some, None, option_and_then}
use Rattle.std.specs.Prelude.{if◌then◌else◌}
use Rattle.std.specs.Str.{bytes_eq}
use Rattle.std.specs.List.{filter_map}
use Rattle.cy_text.specs.Fields.{Fields, Held, Nothing, And}
use Rattle.cy_config.specs.Kinds.{text_of, whole_of, message_of, u32_of, i32_of}

-- The last value under a name.
abbrev pub last_under : List ℕ → Fields → Option Held
last_under name Nothing = None
last_under name (And before n span held) =
    if bytes_eq n name then Some held else last_under name before

-- The values under a name, in their order.
abbrev pub all_under : List ℕ → Fields → List Held
all_under name Nothing = []
all_under name (And before n span held) =
    if bytes_eq n name then all_under name before ++ held ∷ [] else all_under name before

-- The text, the whole number, and the message under a name: the last value there, where it is one.
abbrev pub text_under : List ℕ → Fields → Option (List ℕ)
text_under name fields = option_and_then text_of (last_under name fields)

abbrev pub whole_under : List ℕ → Fields → Option ℤ
whole_under name fields = option_and_then whole_of (last_under name fields)

-- The number there as a u32, and as an i32, where it is one.
abbrev pub u32_under : List ℕ → Fields → Option ℕ
u32_under name fields = option_and_then u32_of (whole_under name fields)

abbrev pub i32_under : List ℕ → Fields → Option ℤ
i32_under name fields = option_and_then i32_of (whole_under name fields)

abbrev pub message_under : List ℕ → Fields → Option Fields
message_under name fields = option_and_then message_of (last_under name fields)

-- The messages under a name, in their order.
abbrev pub messages_under : List ℕ → Fields → List Fields
messages_under name fields = filter_map message_of (all_under name fields)
