-- Messages told by the numbers of their names.
use Rattle.std.proofs.Common.{ℕ, zero, suc, ◌≡◌, ◌+◌, ◌<◌, List, [], ◌∷◌, ◌++◌, length, get_or, refl, ap, sym, subst, ◌∙◌, arith}
use Rattle.std.proofs.lemmas.List.{length-append, map-append}
use Rattle.std.proofs.lemmas.List.Elements.{All-head, All-tail, All-push}
use Rattle.std.specs.Fmt.{decimal}
use Rattle.std.specs.List.{All}
use Rattle.std.specs.Str.{IsUtf8}
use Rattle.cy_trace.specs.Tapes.{entry_by, name_by, told_by, AreNamed}
use Rattle.cy_trace.specs.TraceForm.{IsShort}
use Rattle.cy_trace.specs.declared.line.Line.TheVariants.{Tape}
use Rattle.cy_trace.specs.declared.named.NamedSeq.{NamedSeq}
use Rattle.cy_trace.specs.declared.named.TapeName.{TapeName}
use Rattle.cy_trace.specs.declared.trace.TapeEntry.{TapeEntry}
use Rattle.cy_trace.specs.private.Fronts.{BeginsWith}
use Rattle.cy_trace.specs.Taking.{TakesMessages}
use Rattle.cy_trace.specs.LineParts.{tape_start}
use Rattle.cy_trace.proofs.FrontLaws.{message_taken, tape_text}

-- a name that is read is what stands at its place
name_at : (names : List TapeName) (n : ℕ) (name : TapeName) → n < length names → name ≡ get_or names n name → name_by names n ≡ name.text
name_at [] n name low is = absurd (omega (arith, low))
name_at (x ∷ rest) zero name low is = ap (λ (s : TapeName). s.text) (sym is)
name_at (x ∷ rest) (suc n) name low is = name_at rest n name (omega (arith, low)) is

-- names keep their numbers, and a new one has the next
name_grown : (names : List TapeName) (name : TapeName) (n : ℕ) → n < length names → name_by (names ++ name ∷ []) n ≡ name_by names n
name_grown [] name n low = absurd (omega (arith, low))
name_grown (x ∷ rest) name zero low = refl
name_grown (x ∷ rest) name (suc n) low = name_grown rest name n (omega (arith, low))

name_last : (names : List TapeName) (name : TapeName) → name_by (names ++ name ∷ []) (length names) ≡ name.text
name_last [] name = refl
name_last (x ∷ rest) name = name_last rest name

told_grown : (names : List TapeName) (name : TapeName) (messages : List NamedSeq) → All (λ m. m.name < length names) messages → told_by (names ++ name ∷ []) messages ≡ told_by names messages
told_grown names name [] named = refl
told_grown names name (m ∷ rest) named =
    let first = name_grown names name m.name (All-head (λ m. m.name < length names) m rest named) in
    ap (λ (t : List ℕ). record { name = t; seq = m.seq } ∷ told_by (names ++ name ∷ []) rest) first
    ∙ ap (λ (l : List TapeEntry). entry_by names m ∷ l) (told_grown names name rest (All-tail (λ m. m.name < length names) m rest named))

-- one more message, of a name that is kept anew
pub told_with : (names grown : List TapeName) (messages more : List NamedSeq) (name : TapeName) (m : NamedSeq) (entry : TapeEntry) (tape : List TapeEntry) → tape ≡ told_by names messages → All (λ m. m.name < length names) messages
    → grown ≡ names ++ name ∷ [] → more ≡ messages ++ m ∷ [] → entry_by (names ++ name ∷ []) m ≡ entry → tape ++ entry ∷ [] ≡ told_by grown more
told_with names grown messages more name m entry tape is named with_name with_message told =
    ap (λ (l : List TapeEntry). l ++ entry ∷ []) (is ∙ sym (told_grown names name messages named))
    ∙ ap (λ (e : TapeEntry). told_by (names ++ name ∷ []) messages ++ e ∷ []) (sym told)
    ∙ sym (map-append (entry_by (names ++ name ∷ [])) messages (m ∷ []))
    ∙ ap (told_by (names ++ name ∷ [])) (sym with_message) ∙ ap (λ (l : List TapeName). told_by l more) (sym with_name)

-- .. which has that name
pub last_told : (names : List TapeName) (name : TapeName) (n seq : ℕ) (entry : TapeEntry) → n ≡ length names → name.text ≡ entry.name → seq ≡ entry.seq → entry_by (names ++ name ∷ []) (record { name = n; seq = seq }) ≡ entry
last_told names name n seq entry next text same =
    ap (λ (t : List ℕ). record { name = t; seq = seq }) (ap (name_by (names ++ name ∷ [])) next ∙ name_last names name ∙ text) ∙ ap (λ (k : ℕ). record { name = entry.name; seq = k }) same

-- the line of a message of a name
pub message_begins : (names : List TapeName) (number seq : ℕ) (name : TapeName) (bytes a b rest start : List ℕ) → number < length names → name ≡ get_or names number name → IsUtf8 name.text → start ≡ name.start → bytes ≡ start ++ a → a ≡ decimal seq ++ b → IsShort seq → b ≡ 10 ∷ rest
    → BeginsWith bytes (Tape (entry_by names record { name = number; seq = seq })) rest
message_begins names number seq name bytes a b rest start there is utf8 starts p q short r =
    let its = name_at names number name there is in
    record {
      text = tape_text (entry_by names record { name = number; seq = seq }) bytes start a b rest (starts ∙ name.begins ∙ ap (λ (t : List ℕ). tape_start t) (sym its)) p q r;
      fits = (subst IsUtf8 (sym its) utf8, short);
    }

-- a message more is taken
pub named_taken : (names : List TapeName) (bytes rest further : List ℕ) (old now new : List NamedSeq) (line next : ℕ) (m : NamedSeq) → TakesMessages bytes rest (told_by names old) (told_by names now) line next
    → BeginsWith rest (Tape (entry_by names m)) further → new ≡ now ++ m ∷ [] → TakesMessages bytes further (told_by names old) (told_by names new) line (next + 1)
named_taken names bytes rest further old now new line next m so begins is =
    message_taken bytes rest further (told_by names old) (told_by names now) (told_by names new) line next (entry_by names m) so begins (ap (told_by names) is ∙ map-append (entry_by names) now (m ∷ []))

pub named_more : (names : List TapeName) (now new : List NamedSeq) (m : NamedSeq) → AreNamed names now → m.name < length names → new ≡ now ++ m ∷ [] → AreNamed names new
named_more names now new m named low is = rw is record {
  each = All-push (λ m. m.name < length names) now m named.each low;
  few = omega (arith, named.few, length-append now (m ∷ []));
}
