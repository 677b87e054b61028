-- What is known of the text that was put.
use Rattle.std.proofs.Common.{◌≡◌, ℕ, ◌+◌, ◌-◌, ◌≤◌, ◌<◌, max, Bool, true, false, List, [], ◌++◌, length, take, drop, Option, Some, None, Result, Ok, Err, refl, sym, ap, ◌∙◌, subst, arith, length-append}
use Rattle.std.specs.Prelude.{leb, unwrap_or, IfOk}
use Rattle.std.specs.Option.{option_or}
use Rattle.std.specs.FinMap.{get, insert}
use Rattle.std.proofs.lemmas.Option.{none-some}
use Rattle.std.proofs.lemmas.List.{take_at, drop_at, drop-drop, take-append-le, drop-append-le, drop_all, length-drop, length-take-le, take-append-drop}
use Rattle.std.proofs.lemmas.Bool.{leb-true, leb-false}
use Rattle.cy_store.specs.Files.{Files, content}
use Rattle.cy_store.specs.Write.{Create, Put, after_write, written_at}
use Rattle.cy_store.specs.declared.error.StoreError.{StoreError}
use Rattle.cy_store.specs.declared.error.StoreError.TheVariants as store_error
use Rattle.cy_writer.proofs.Puts.{get-inserted, written_at-end}
use Rattle.cy_recording.specs.Compare.{first_difference}
use Rattle.cy_recording.specs.private.Unlike.{unlike, Told}
use Rattle.cy_recording.specs.private.Keeping.{IsSeen, Looks, Answers}
use Rattle.cy_recording.proofs.Unlikes.{unlike-append, first_difference_is, longer, longer-more, longer-none}

content_inserted : (m : Files) (name bytes : List ℕ) → content (insert m name bytes) name ≡ bytes
content_inserted m name bytes = ap (λ (o : Option (List ℕ)). unwrap_or o []) (get-inserted m name bytes)

there_inserted : (m : Files) (name bytes : List ℕ) → get (insert m name bytes) name ≡ None → ⊥
there_inserted m name bytes e = none-some bytes (sym e ∙ get-inserted m name bytes)

-- the text is known by its header, its length and what is behind the header
seen_text : (name : List ℕ) (files : Option Files) (shown : Files) (header text : List ℕ) (size : ℕ) (place : Option ℕ)
    → length text ≡ size → take 2064 text ≡ header → Told files name (λ file. place ≡ unlike 2064 (drop 2064 file) (drop 2064 text))
    → IsSeen name files (insert shown name text) header size place
seen_text name files shown header text size place long front differs =
    let is = sym (content_inserted shown name text) in
    record {
      there = there_inserted shown name text;
      long = subst (λ (l : List ℕ). length l ≡ size) is long;
      front = subst (λ (l : List ℕ). take 2064 l ≡ header) is front;
      differs = subst (λ (l : List ℕ). Told files name (λ file. place ≡ unlike 2064 (drop 2064 file) (drop 2064 l))) is differs;
    }

-- nothing was put
pub seen_none : (name : List ℕ) (files : Option Files) (old new : Files) → new ≡ after_write (Create name) old → IsSeen name files new [] 0 None
seen_none name files old new is =
    subst (λ (m : Files). IsSeen name files m [] 0 None) (sym is) (seen_text name files old [] [] 0 None refl refl (λ m file told there. refl))

-- the header was put
pub seen_header : (name : List ℕ) (files : Option Files) (old new : Files) (header bytes : List ℕ) (size : ℕ) (place : Option ℕ)
    → IsSeen name files old header size place → length bytes ≡ 2064 → new ≡ after_write (Put name 0 bytes) old → IsSeen name files new bytes (max size 2064) place
seen_header name files old new header bytes size place seen full is =
    let was = content old name in
    let text = written_at was 0 bytes in
    let after : 0 + length bytes ≡ 2064 = omega (arith, full) in
    let behind : drop 2064 text ≡ drop 2064 was = drop_at bytes (drop (0 + length bytes) was) 2064 full ∙ ap (λ (n : ℕ). drop n was) after in
    let whole : length bytes + (length was - (0 + length bytes)) ≡ max size 2064 = omega (arith, full, seen.long) in
    subst (λ (m : Files). IsSeen name files m bytes (max size 2064) place) (sym is)
    (seen_text name files old bytes text (max size 2064) place
    (length-append bytes (drop (0 + length bytes) was) ∙ ap (λ (n : ℕ). length bytes + n) (length-drop (0 + length bytes) was) ∙ whole)
    (take_at bytes (drop (0 + length bytes) was) 2064 full)
    (λ m file told there. seen.differs m file told there ∙ ap (unlike 2064 (drop 2064 file)) (sym behind)))

-- bytes were put behind all that was put
pub seen_more : (name : List ℕ) (files : Option Files) (old new : Files) (header bytes : List ℕ) (size : ℕ) (place next : Option ℕ)
    → IsSeen name files old header size place → 2064 ≤ size → new ≡ after_write (Put name size bytes) old
    → Told files name (λ file. next ≡ unlike 2064 (drop 2064 file) (drop 2064 (content old name) ++ bytes))
    → IsSeen name files new header (size + length bytes) next
seen_more name files old new header bytes size place next seen behind is looks =
    let was = content old name in
    let end : written_at was size bytes ≡ was ++ bytes = written_at-end was bytes size seen.long in
    subst (λ (m : Files). IsSeen name files m header (size + length bytes) next) (sym is)
    (subst (λ (l : List ℕ). IsSeen name files (insert old name l) header (size + length bytes) next) (sym end)
    (seen_text name files old header (was ++ bytes) (size + length bytes) next
    (length-append was bytes ∙ ap (λ (n : ℕ). n + length bytes) seen.long)
    (front was bytes (omega (arith, behind, seen.long)) ∙ seen.front)
    (λ m file told there. looks m file told there ∙ ap (unlike 2064 (drop 2064 file)) (sym (back was bytes (omega (arith, behind, seen.long)))))))
  where
    front : (xs ys : List ℕ) → 2064 ≤ length xs → take 2064 (xs ++ ys) ≡ take 2064 xs
    front xs ys within = take-append-le 2064 xs ys within

    back : (xs ys : List ℕ) → 2064 ≤ length xs → drop 2064 (xs ++ ys) ≡ drop 2064 xs ++ ys
    back xs ys within = drop-append-le 2064 xs ys within

-- so it is where the files were looked at before
pub seen_on : (name : List ℕ) (files : Option Files) (was old new : Files) (first header bytes : List ℕ) (before size : ℕ) (earlier place next : Option ℕ)
    → IsSeen name files was first before earlier → IsSeen name files old header size place → 2064 ≤ before → new ≡ after_write (Put name before bytes) old → old ≡ was
    → Told files name (λ file. next ≡ unlike 2064 (drop 2064 file) (drop 2064 (content was name) ++ bytes))
    → IsSeen name files new header (before + length bytes) next
seen_on name files was old new first header bytes before size earlier place next past seen behind is same looks =
    let sizes : size ≡ before = sym seen.long ∙ ap (λ (m : Files). length (content m name)) same ∙ past.long in
    let now : IsSeen name files old header before place = subst (λ (n : ℕ). IsSeen name files old header n place) sizes seen in
    seen_more name files old new header bytes before place next now behind is
    (subst (λ (m : Files). Told files name (λ file. next ≡ unlike 2064 (drop 2064 file) (drop 2064 (content m name) ++ bytes))) (sym same) looks)

-- it is seen already where the file first differs
pub looks_found : (at : ℕ) (name : List ℕ) (files : Option Files) (text bytes : List ℕ) (place : ℕ)
    → Told files name (λ file. Some place ≡ unlike at (drop at file) text) → Told files name (λ file. Some place ≡ unlike at (drop at file) (text ++ bytes))
looks_found at name files text bytes place seen m file told there =
    ap (λ (o : Option ℕ). option_or o (unlike (at + length text) (drop (length text) (drop at file)) bytes)) (seen m file told there)
    ∙ sym (unlike-append at (drop at file) text bytes)

-- where the files are told by another store, under the same name
pub told_same : (P : List ℕ → Type 0) (files other : Option Files) (name alias : List ℕ) → other ≡ files → alias ≡ name → Told other alias P → Told files name P
told_same P files other name alias same is h m file told there = h m file (same ∙ told) (ap (get m) is ∙ there)

on_ok : {T E : Type 0} (P Q : T → Type 0) (r : Result T E) → ((x : T) → P x → Q x) → IfOk r P → IfOk r Q
on_ok P Q (Ok x) step h = step x h
on_ok P Q (Err e) step h = tt

-- a text that is compared behind what was the same
pub looks_on : (name : List ℕ) (files : Option Files) (text bytes : List ℕ) (size : ℕ) (place : Option ℕ) → length text ≡ size → 2064 ≤ size
    → Told files name (λ file. None ≡ unlike 2064 (drop 2064 file) (drop 2064 text)) → Told files name (λ file. place ≡ unlike size (drop size file) bytes)
    → Told files name (λ file. place ≡ unlike 2064 (drop 2064 file) (drop 2064 text ++ bytes))
looks_on name files text bytes size place long behind none found m file told there =
    let back = drop 2064 text in
    let ends : 2064 + length back ≡ size = omega (arith, length-drop 2064 text, long, behind) in
    found m file told there
    ∙ ap (λ (n : ℕ). unlike n (drop n file) bytes) (sym ends)
    ∙ ap (λ (l : List ℕ). unlike (2064 + length back) l bytes) (sym (drop-drop (length back) 2064 file))
    ∙ ap (λ (o : Option ℕ). option_or o (unlike (2064 + length back) (drop (length back) (drop 2064 file)) bytes)) (none m file told there)
    ∙ sym (unlike-append 2064 (drop 2064 file) back bytes)

pub looks_behind : (name : List ℕ) (files : Option Files) (old new : Files) (header bytes : List ℕ) (size : ℕ) (place : Option ℕ) (r : Result (Option ℕ) StoreError)
    → IsSeen name files old header size place → place ≡ None → 2064 ≤ size → new ≡ old → Answers name files size bytes r → Looks name files bytes old new r
looks_behind name files old new header bytes size place r seen none behind same answers = record {
  place = on_ok (λ p. Told files name (λ file. p ≡ unlike size (drop size file) bytes))
      (λ p. Told files name (λ file. p ≡ unlike 2064 (drop 2064 file) (drop 2064 (content old name) ++ bytes))) r
      (λ p. looks_on name files (content old name) bytes size p seen.long behind (λ m file told there. sym none ∙ seen.differs m file told there)) answers.place;
  same = same;
  only_memory = answers.only_memory;
}

-- The whole text.

joined : (file text : List ℕ) (place : Option ℕ) → place ≡ unlike 2064 (drop 2064 file) (drop 2064 text) → option_or (unlike 0 file (take 2064 text)) place ≡ unlike 0 file text
joined file text place e =
    ap (option_or (unlike 0 file (take 2064 text))) (e ∙ at_front (leb 2064 (length text)) refl)
    ∙ sym (unlike-append 0 file (take 2064 text) (drop 2064 text))
    ∙ ap (unlike 0 file) (take-append-drop 2064 text)
  where
    at_front : (b : Bool) → leb 2064 (length text) ≡ b
        → unlike 2064 (drop 2064 file) (drop 2064 text) ≡ unlike (0 + length (take 2064 text)) (drop (length (take 2064 text)) file) (drop 2064 text)
    at_front true is =
        let front = length (take 2064 text) in
        let zero : front ≡ 0 + front = omega arith in
        ap (λ (n : ℕ). unlike n (drop n file) (drop 2064 text)) (sym (length-take-le 2064 text (leb-true 2064 (length text) is)))
        ∙ ap (λ (n : ℕ). unlike n (drop front file) (drop 2064 text)) zero
    at_front false is =
        let none : drop 2064 text ≡ [] = drop_all 2064 text (short is) in
        ap (unlike 2064 (drop 2064 file)) none ∙ sym (ap (unlike (0 + length (take 2064 text)) (drop (length (take 2064 text)) file)) none)
      where
        short : leb 2064 (length text) ≡ false → length text ≤ 2064
        short low = omega (arith, leb-false 2064 (length text) low)

-- what the header and the rest of a text tell
pub seen_whole : (name : List ℕ) (files : Option Files) (shown : Files) (header : List ℕ) (size : ℕ) (place : Option ℕ) → IsSeen name files shown header size place
    → Told files name (λ file. option_or (unlike 0 file header) place ≡ unlike 0 file (content shown name))
seen_whole name files shown header size place seen m file told there =
    ap (λ (l : List ℕ). option_or (unlike 0 file l) place) (sym seen.front) ∙ joined file (content shown name) place (seen.differs m file told there)

pub first_found : (file text : List ℕ) (place : ℕ) → unlike 0 file text ≡ Some place → Some place ≡ first_difference file text
first_found file text place e = sym (first_difference_is file text ∙ ap (λ (o : Option ℕ). option_or o (longer 0 file text)) e)

pub first_longer : (file text : List ℕ) (end : ℕ) → unlike 0 file text ≡ None → length text ≡ end → end < length file → Some end ≡ first_difference file text
first_longer file text end e is more =
    sym (first_difference_is file text ∙ ap (λ (o : Option ℕ). option_or o (longer 0 file text)) e ∙ longer-more 0 file text (omega (arith, is, more))
    ∙ ap (λ (n : ℕ). Some n) (omega (arith, is)))

pub first_none : (file text : List ℕ) → unlike 0 file text ≡ None → length file ≤ length text → None ≡ first_difference file text
first_none file text e within =
    sym (first_difference_is file text ∙ ap (λ (o : Option ℕ). option_or o (longer 0 file text)) e ∙ longer-none 0 file text within)
