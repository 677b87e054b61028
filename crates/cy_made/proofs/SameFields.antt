-- What is looked up in fields, and what doesn't fit a format, is the same wherever they stand.
use Rattle.std.proofs.Common.{◌≡◌, ◌++◌, ℕ, List, [], ◌∷◌, Bool, true, false, if◌then◌else◌, Option, Some, None, option_map, option_and_then, length, map, codes, is_some, refl, sym, ap, ◌∙◌}
use Rattle.std.proofs.lemmas.List.{map-append, length-map}
use Rattle.std.specs.List.{filter_map, cons_option}
use Rattle.std.specs.Option.{option_or}
use Rattle.std.specs.Str.{bytes_eq}
use Rattle.cy_text.specs.Fields.{Fields, Held, Nothing, And, Whole, Literal, Word, Quote, Message}
use Rattle.cy_text.specs.Printable.{without_spans, held_without_spans}
use Rattle.cy_config.specs.Checks.{Table, first_misfit, index_text, misfit_of, path_of}
use Rattle.cy_config.specs.Kinds.{message_of, text_of, whole_of}
use Rattle.cy_config.specs.Lookups.{all_under, last_under, message_under, messages_under, text_under, whole_under}
use Rattle.cy_config.specs.declared.field.Field.{Field}
use Rattle.cy_config.specs.declared.field.Kind.{Kind}
use Rattle.cy_config.specs.declared.field.Kind.TheVariants as kind

last_by : (b : Bool) (held : Held) (rest : Option Held) → (if b then Some (held_without_spans held) else option_map held_without_spans rest) ≡ option_map held_without_spans (if b then Some held else rest)
last_by true held rest = refl
last_by false held rest = refl

pub last_same : (name : List ℕ) (fields : Fields) → last_under name (without_spans fields) ≡ option_map held_without_spans (last_under name fields)
last_same name Nothing = refl
last_same name (And before n span held) = rw (last_same name before) (last_by (bytes_eq n name) held (last_under name before))

all_by : (b : Bool) (held : Held) (rest : List Held) → (if b then map held_without_spans rest ++ held_without_spans held ∷ [] else map held_without_spans rest) ≡ map held_without_spans (if b then rest ++ held ∷ [] else rest)
all_by true held rest = sym (map-append held_without_spans rest (held ∷ []))
all_by false held rest = refl

pub all_same : (name : List ℕ) (fields : Fields) → all_under name (without_spans fields) ≡ map held_without_spans (all_under name fields)
all_same name Nothing = refl
all_same name (And before n span held) = rw (all_same name before) (all_by (bytes_eq n name) held (all_under name before))

pub text_held : (held : Held) → text_of (held_without_spans held) ≡ text_of held
text_held (Whole negative size) = refl
text_held (Literal text) = refl
text_held (Word negative text) = refl
text_held (Quote bytes) = refl
text_held (Message fields) = refl

pub whole_held : (held : Held) → whole_of (held_without_spans held) ≡ whole_of held
whole_held (Whole negative size) = refl
whole_held (Literal text) = refl
whole_held (Word negative text) = refl
whole_held (Quote bytes) = refl
whole_held (Message fields) = refl

pub message_held : (held : Held) → message_of (held_without_spans held) ≡ option_map without_spans (message_of held)
message_held (Whole negative size) = refl
message_held (Literal text) = refl
message_held (Word negative text) = refl
message_held (Quote bytes) = refl
message_held (Message fields) = refl

found_text : (o : Option Held) → option_and_then text_of (option_map held_without_spans o) ≡ option_and_then text_of o
found_text None = refl
found_text (Some held) = text_held held

found_whole : (o : Option Held) → option_and_then whole_of (option_map held_without_spans o) ≡ option_and_then whole_of o
found_whole None = refl
found_whole (Some held) = whole_held held

found_message : (o : Option Held) → option_and_then message_of (option_map held_without_spans o) ≡ option_map without_spans (option_and_then message_of o)
found_message None = refl
found_message (Some held) = message_held held

pub text_same : (name : List ℕ) (fields : Fields) → text_under name (without_spans fields) ≡ text_under name fields
text_same name fields = rw (last_same name fields) (found_text (last_under name fields))

pub whole_same : (name : List ℕ) (fields : Fields) → whole_under name (without_spans fields) ≡ whole_under name fields
whole_same name fields = rw (last_same name fields) (found_whole (last_under name fields))

pub message_same : (name : List ℕ) (fields : Fields) → message_under name (without_spans fields) ≡ option_map without_spans (message_under name fields)
message_same name fields = rw (last_same name fields) (found_message (last_under name fields))

cons_same : (o : Option Fields) (rest : List Fields) → cons_option (option_map without_spans o) (map without_spans rest) ≡ map without_spans (cons_option o rest)
cons_same None rest = refl
cons_same (Some fields) rest = refl

found_messages : (helds : List Held) → filter_map message_of (map held_without_spans helds) ≡ map without_spans (filter_map message_of helds)
found_messages [] = refl
found_messages (held ∷ rest) = rw (message_held held, found_messages rest) (cons_same (message_of held) (filter_map message_of rest))

pub messages_same : (name : List ℕ) (fields : Fields) → messages_under name (without_spans fields) ≡ map without_spans (messages_under name fields)
messages_same name fields = rw (all_same name fields) (found_messages (all_under name fields))

-- Misfits.

pub path_same : {M : Type 0} (f : Field M) (path : List ℕ) (before : Fields) (name : List ℕ) → path_of f path (without_spans before) name ≡ path_of f path before name
path_same f path before name =
    ap (λ (n : ℕ). path ++ name ++ index_text (if f.repeated then Some n else None)) (ap length (all_same name before) ∙ length-map (all_under name before) held_without_spans)

mapped_some : {A B : Type 0} (f : A → B) (o : Option A) → is_some (option_map f o) ≡ is_some o
mapped_some f None = refl
mapped_some f (Some x) = refl

each_same : {A B : Type 0} (f g : A → Option B) (o : Option A) → ((x : A) → f x ≡ g x) → option_and_then f o ≡ option_and_then g o
each_same f g None same = refl
each_same f g (Some x) same = same x

mutual
  pub misfit_same : {M : Type 0} (table : Table M) (m : M) (path : List ℕ) (fields : Fields) → first_misfit table m path (without_spans fields) ≡ first_misfit table m path fields
  misfit_same table m path Nothing = refl
  misfit_same {M} table m path (And before name span held) =
      let there : (f : Field M) → misfit_of table f.kind (path_of f path (without_spans before) name) (held_without_spans held) ≡ misfit_of table f.kind (path_of f path before name) held =
      λ f. ap (λ (p : List ℕ). misfit_of table f.kind p (held_without_spans held)) (path_same f path before name) ∙ held_misfit table f.kind (path_of f path before name) held in
      rw (misfit_same table m path before) (ap (option_or (first_misfit table m path before)) (each_same _ _ (table m name) there))

  held_misfit : {M : Type 0} (table : Table M) (k : Kind M) (path : List ℕ) (held : Held) → misfit_of table k path (held_without_spans held) ≡ misfit_of table k path held
  held_misfit table k path (Whole negative size) = refl
  held_misfit table k path (Literal text) = refl
  held_misfit table k path (Word negative text) = refl
  held_misfit table k path (Quote bytes) = refl
  held_misfit table (kind.Message m) path (Message fields) = misfit_same table m (path ++ codes ".") fields
  held_misfit table kind.AnyMessage path (Message fields) = refl
  held_misfit table kind.Text path (Message fields) = refl
  held_misfit table (kind.Whole least most) path (Message fields) = refl
  held_misfit table kind.Anything path (Message fields) = refl
