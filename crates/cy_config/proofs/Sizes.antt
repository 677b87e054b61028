-- What stands under a name is no more than all fields.
use Rattle.std.proofs.Common.{ℕ, Bor, ◌≡◌, ◌+◌, ◌≤◌, Bool, true, false, if◌then◌else◌, Option, Some, None, IfSome, option_map, option_and_then, List, [], ◌∷◌, ◌++◌, length, map, refl, ap, sym, length-append, arith}
use Rattle.std.specs.Str.{bytes_eq}
use Rattle.std.specs.List.{filter_map, cons_option}
use Rattle.std.proofs.lemmas.List.Elements.{filter_map-append}
use Rattle.std.proofs.lemmas.List.{length-map}
use Rattle.cy_text.specs.Fields.{Fields, Held, Nothing, And, Message, size_of, size_held}
use Rattle.cy_config.specs.Kinds.{message_of}
use Rattle.cy_config.specs.Lookups.{last_under, all_under, message_under, messages_under}

last_step : (same : Bool) (held h : Held) (rest : Option Held) (n : ℕ) → (rest ≡ Some h → size_held h ≤ n) → (if same then Some held else rest) ≡ Some h → size_held h ≤ n + size_held held + 1
last_step true held h rest n later is = let e : held ≡ h = cc in omega (arith, ap size_held e)
last_step false held h rest n later is = omega (arith, later is)

last_size : (name : List ℕ) (fields : Fields) (h : Held) → last_under name fields ≡ Some h → size_held h ≤ size_of fields
last_size name Nothing h is = cc
last_size name (And before n span held) h is = last_step (bytes_eq n name) held h (last_under name before) (size_of before) (last_size name before h) is

inner_size : (h : Held) (fields : Fields) → message_of h ≡ Some fields → size_of fields ≤ size_held h
inner_size (Message inner) fields is = let e : inner ≡ fields = cc in omega (arith, ap size_of e)
inner_size h fields is = cc

found_size : (o : Option Held) (fields : Fields) (n : ℕ) → ((h : Held) → o ≡ Some h → size_held h ≤ n) → option_and_then message_of o ≡ Some fields → size_of fields ≤ n
found_size None fields n bound is = cc
found_size (Some h) fields n bound is = omega (arith, bound h refl, inner_size h fields is)

-- The message under a name.
pub message_size : (r : Option (Bor Fields)) (name : List ℕ) (fields : Fields) → option_map (λ m. m.now) r ≡ message_under name fields → IfSome r (λ m. size_of m.now ≤ size_of fields)
message_size None name fields is = tt
message_size (Some m) name fields is = found_size (last_under name fields) m.now (size_of fields) (last_size name fields) (sym is)

one_message : (o : Option Fields) → length (cons_option o []) ≤ 1
one_message None = omega arith
one_message (Some m) = omega arith

more_messages : (same : Bool) (held : Held) (xs : List Held) (n : ℕ) → length (filter_map message_of xs) ≤ n
    → length (filter_map message_of (if same then xs ++ held ∷ [] else xs)) ≤ n + size_held held + 1
more_messages true held xs n before =
    omega (arith, ap length (filter_map-append message_of xs (held ∷ [])), length-append (filter_map message_of xs) (filter_map message_of (held ∷ [])), one_message (message_of held))
more_messages false held xs n before = omega (arith, before)

under_size : (name : List ℕ) (fields : Fields) → length (messages_under name fields) ≤ size_of fields
under_size name Nothing = omega arith
under_size name (And before n span held) = more_messages (bytes_eq n name) held (all_under name before) (size_of before) (under_size name before)

-- The messages under a name.
pub messages_size : (found : List (Bor Fields)) (name : List ℕ) (fields : Fields) → map (λ m. m.now) found ≡ messages_under name fields → length found ≤ size_of fields
messages_size found name fields is = omega (arith, under_size name fields, ap length is, length-map found (λ (m : Bor Fields). m.now))
