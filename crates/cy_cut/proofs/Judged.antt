-- What a judged head and the bytes behind it say of what stands in a file.
use Rattle.std.proofs.Common.{if◌then◌else◌, Bool, ◌≡◌, ◌<◌, ◌≤◌, ◌+◌, ◌-◌, ◌^◌, ◌⊎◌, ℕ, List, [], ◌∷◌, length, take, drop, min, refl, ap, sym, ◌∙◌, arith, inl, inr, length-take, length-drop, true, false, Option, Some, None, Result, Ok, Err}
use Rattle.std.specs.Prelude.{map, filter, IfOk, IfSome, IsOkUnless}
use Rattle.std.proofs.lemmas.Bool.{le-ltb, lt-ltb, cases_lt}
use Rattle.cy_store.specs.Files.{Holds}
use Rattle.cy_store.specs.Store.{StoreView, SameCounts}
use Rattle.cy_store.specs.declared.error.StoreError.{StoreError}
use Rattle.cy_store.specs.declared.error.StoreError.TheVariants as store_error
use Rattle.cy_store.proofs.ReadFront.{both_held, may_hold}
use Rattle.cy_section.specs.declared.error.SectionError.{SectionError}
use Rattle.cy_section.specs.declared.error.SectionError.TheVariants.{Cut, TooLong}
use Rattle.cy_section.specs.declared.types.Head.{Head}
use Rattle.cy_section.specs.declared.types.SectionKind.{SectionKind}
use Rattle.cy_section.specs.declared.types.SectionKind.TheVariants as kind
use Rattle.cy_cut.specs.declared.cutting.Part.{Part}
use Rattle.cy_cut.specs.declared.cutting.Found.{Found}
use Rattle.cy_cut.specs.declared.cutting.Found.TheVariants as found
use Rattle.cy_cut.specs.declared.heads.KeptIndex.{KeptIndex}
use Rattle.cy_cut.specs.declared.heads.PlacedHead.{PlacedHead}
use Rattle.cy_cut.specs.declared.window.Window.{Window}
use Rattle.cy_cut.specs.Sections.{WholeSection, section_at, longest_section, longest_file}
use Rattle.cy_cut.specs.private.Finding.{head_found, judged, judged_head, misfit, part_misfit, unless_misfit, Fits, IsHeaded, IsAt, IsFound, BodyAnswer, FoundAnswer, listed}
use Rattle.cy_cut.specs.Cutting.{is_kept, seen_part}
use Rattle.cy_cut.specs.private.Window.{IsRead, rest}
use Rattle.cy_cut.proofs.Ahead.{too_few, headed, no_head, is_too_long, is_cut, is_whole, is_index, index_read}
use Rattle.cy_cut.proofs.Outcomes.{no_err, err_is}

-- ---- heads

head_is : (p q : Head) → (let r : Result Head SectionError = Ok p in r ≡ Ok q) → p ≡ q
head_is p q e = cc

-- whose head it is
kept_head : (h head : Head) (o : Option SectionError) → unless_misfit h o ≡ Ok head → (h ≡ head) × (o ≡ None)
kept_head h head None e = (head_is h head e, refl)
kept_head h head (Some fault) e = absurd cc

judged_ok : (at size : ℕ) (r : Result Head SectionError) (head : Head) → judged at size r ≡ Ok head → (r ≡ Ok head) × (misfit at size head.kind head.size ≡ None)
judged_ok at size (Ok h) head e =
    let both = kept_head h head (misfit at size h.kind h.size) e in
    (ap Ok both.0, ap (λ (x : Head). misfit at size x.kind x.size) (sym both.0) ∙ both.1)
judged_ok at size (Err fault) head e = absurd cc

-- or why there is none
record NoHead (at size : ℕ) (r : Result Head SectionError) (fault : SectionError) : Type 0 where
  pub head : Head
  pub found : r ≡ Ok head
  pub misfits : misfit at size head.kind head.size ≡ Some fault

wrong_head : (at size : ℕ) (h : Head) (o : Option SectionError) (fault : SectionError) → misfit at size h.kind h.size ≡ o → unless_misfit h o ≡ Err fault → NoHead at size (Ok h) fault
wrong_head at size h None fault is e = absurd cc
wrong_head at size h (Some own) fault is e = record { head = h; found = refl; misfits = is ∙ ap Some (err_is {T = Head} own fault e) }

judged_err : (at size : ℕ) (r : Result Head SectionError) (fault : SectionError) → judged at size r ≡ Err fault → (r ≡ Err fault) ⊎ NoHead at size r fault
judged_err at size (Ok h) fault e = inr (wrong_head at size h (misfit at size h.kind h.size) fault refl e)
judged_err at size (Err own) fault e = inl e

found_long : (at : ℕ) (bytes : List ℕ) (head : Head) → head_found at bytes ≡ Ok head → 16 ≤ length bytes
found_long at bytes head is = elim (cases_lt (length bytes) 16) [
  | inl few ↦ absurd (no_err head (Cut at) (sym is ∙ too_few at bytes few))
  | inr long ↦ long
]

-- such bytes of a file are those of a head
pub judged_headed : (file : List ℕ) (at size k : ℕ) (bytes : List ℕ) (head : Head) → size ≡ length file → at ≤ size → k ≡ min (size - at) 16 → bytes ≡ take k (drop at file) → judged_head at size bytes ≡ Ok head → IsHeaded file at size head
unfolding judged_head
judged_headed file at size k bytes head told inside is read e =
    let both = judged_ok at size (head_found at bytes) head e in
    headed file at size k bytes head told inside is read (found_long at bytes head both.0) both.0

some_is : (a b : SectionError) → (let o : Option SectionError = Some a in o ≡ Some b) → a ≡ b
some_is a b e = cc

-- the section doesn't stand whole
misfits_so : (file : List ℕ) (at size : ℕ) (head : Head) (fault : SectionError) → IsHeaded file at size head → (head.kind ≡ kind.Index → ⊥) → part_misfit at size head.size ≡ Some fault → section_at file at ≡ Err fault
misfits_so file at size head fault hd other e = elim (cases_lt longest_section head.size) [
  | inl large ↦
      let is : part_misfit at size head.size ≡ Some (TooLong at head.size) = rw (lt-ltb longest_section head.size large) refl in
      is_too_long file at size head hd other large ∙ ap Err (some_is _ fault (sym is ∙ e))
  | inr short ↦ elim (cases_lt size (at + 16 + head.size)) [
    | inl few ↦
        let is : part_misfit at size head.size ≡ Some (Cut at) = rw (le-ltb longest_section head.size short, lt-ltb size (at + 16 + head.size) few) refl in
        let told = hd.sized in
        is_cut file at size head hd other short (omega (arith, told, few)) ∙ ap Err (some_is _ fault (sym is ∙ e))
    | inr enough ↦
        let is : part_misfit at size head.size ≡ None = rw (le-ltb longest_section head.size short, le-ltb size (at + 16 + head.size) enough) refl in
        absurd (none_some fault (sym is ∙ e))
  ]
]
  where
    none_some : (a : SectionError) → (let o : Option SectionError = None in o ≡ Some a) → ⊥
    none_some a e = cc

by_kind : (file : List ℕ) (at size : ℕ) (head : Head) (k : SectionKind) (fault : SectionError) → IsHeaded file at size head → head.kind ≡ k → misfit at size k head.size ≡ Some fault → section_at file at ≡ Err fault
by_kind file at size head kind.Header fault hd is e = misfits_so file at size head fault hd (λ index. (let no : kind.Header ≡ kind.Index = sym is ∙ index in cc)) e
by_kind file at size head kind.ChunkHeader fault hd is e = misfits_so file at size head fault hd (λ index. (let no : kind.ChunkHeader ≡ kind.Index = sym is ∙ index in cc)) e
by_kind file at size head kind.ChunkBody fault hd is e = misfits_so file at size head fault hd (λ index. (let no : kind.ChunkBody ≡ kind.Index = sym is ∙ index in cc)) e
by_kind file at size head kind.Index fault hd is e = absurd cc
by_kind file at size head kind.Channel fault hd is e = misfits_so file at size head fault hd (λ index. (let no : kind.Channel ≡ kind.Index = sym is ∙ index in cc)) e

pub judged_faulty : (file : List ℕ) (at size k : ℕ) (bytes : List ℕ) (fault : SectionError) → size ≡ length file → at < size → k ≡ min (size - at) 16 → bytes ≡ take k (drop at file) → judged_head at size bytes ≡ Err fault → section_at file at ≡ Err fault
unfolding judged_head
judged_faulty file at size k bytes fault told inside is read e = elim (judged_err at size (head_found at bytes) fault e) [
  | inl none ↦ no_head file at size k bytes fault told inside is read none
  | inr wrong ↦
      let head = wrong.head in
      let hd = headed file at size k bytes head told (omega (arith, inside)) is read (found_long at bytes head wrong.found) wrong.found in
      by_kind file at size head head.kind fault hd refl wrong.misfits
]

-- a head fits where nothing speaks against it
part_fits : (at size long : ℕ) → part_misfit at size long ≡ None → (long ≤ longest_section) × (at + 16 + long ≤ size)
part_fits at size long e = elim (cases_lt longest_section long) [
  | inl large ↦
      let is : part_misfit at size long ≡ Some (TooLong at long) = rw (lt-ltb longest_section long large) refl in
      absurd (some_none _ (sym is ∙ e))
  | inr short ↦ elim (cases_lt size (at + 16 + long)) [
    | inl few ↦
        let is : part_misfit at size long ≡ Some (Cut at) = rw (le-ltb longest_section long short, lt-ltb size (at + 16 + long) few) refl in
        absurd (some_none _ (sym is ∙ e))
    | inr enough ↦ (short, enough)
  ]
]
  where
    some_none : (a : SectionError) → (let o : Option SectionError = Some a in o ≡ None) → ⊥
    some_none a e = cc

fits_by : (at size : ℕ) (k : SectionKind) (long : ℕ) → misfit at size k long ≡ None → (k ≡ kind.Index → ⊥) → (long ≤ longest_section) × (at + 16 + long ≤ size)
fits_by at size kind.Header long e other = part_fits at size long e
fits_by at size kind.ChunkHeader long e other = part_fits at size long e
fits_by at size kind.ChunkBody long e other = part_fits at size long e
fits_by at size kind.Index long e other = absurd (other refl)
fits_by at size kind.Channel long e other = part_fits at size long e

pub fits_so : (at size : ℕ) (head : Head) → at + 16 ≤ size → misfit at size head.kind head.size ≡ None → Fits at size head
fits_so at size head inside e = record { inside = inside; whole = λ other. fits_by at size head.kind head.size e other }

-- ---- the section of a head

-- a file that became shorter
pub body_cut : (at size : ℕ) (head : Head) (body : List ℕ) → Fits at size head → (head.kind ≡ kind.Index → ⊥) → length body < head.size → BodyAnswer at size head body (found.Last (Err (Cut at)))
body_cut at size head body fits other few = record {
  found = λ file hd read.
      let left : length file < at + 16 + head.size = omega (arith, few, ap length read, length-take head.size (drop (at + 16) file), length-drop (at + 16) file) in
      is_cut file at size head hd other (fits.whole other).0 left;
  within = tt;
}

abbrev of_head : ℕ → Head → List ℕ → WholeSection
of_head at head body = record { kind = head.kind; body_at = at + 16; body = body }

pub kept_none : (s : WholeSection) → false ≡ is_kept s → map seen_part (listed None) ≡ filter is_kept (s ∷ [])
kept_none s e = rw (sym e) refl

pub kept_some : (s : WholeSection) (p : Part) → seen_part p ≡ s → true ≡ is_kept s → map seen_part (listed (Some p)) ≡ filter is_kept (s ∷ [])
kept_some s p same e = rw (sym e) (ap (λ (x : WholeSection). x ∷ []) same)

-- what is kept of a section has no more bytes
abbrev bytes_in : List WholeSection → ℕ
bytes_in [] = 0
bytes_in (s ∷ rest) = length s.body + bytes_in rest

at_most : (b : Bool) (s : WholeSection) → bytes_in (if b then s ∷ [] else []) ≤ length s.body
at_most true s = omega arith
at_most false s = omega arith

kept_short : (s : WholeSection) (part : Option Part) (n : ℕ) → map seen_part (listed part) ≡ filter is_kept (s ∷ []) → length s.body ≤ n → IfSome part (λ p. length p.body ≤ n)
kept_short s None n kept short = tt
kept_short s (Some p) n kept short = omega (arith, ap bytes_in kept, at_most (is_kept s) s, short)

pub body_found : (at size : ℕ) (head : Head) (body : List ℕ) (placed : PlacedHead) (part : Option Part) → Fits at size head → (head.kind ≡ kind.Index → ⊥) → length body ≡ head.size
    → placed ≡ (let h : PlacedHead = record { at = at; kind = head.kind; size = head.size } in h) → map seen_part (listed part) ≡ filter is_kept (of_head at head body ∷ []) → IfSome part (λ p. p.body_at + length p.body ≤ size)
    → BodyAnswer at size head body (found.Section placed part)
body_found at size head body placed part fits other long is kept within =
    let whole = fits.whole other in
    let back : at + 16 - 16 ≡ at = omega arith in
    record {
      found = λ file hd read.
          let told = hd.sized in
          record {
            section = of_head at head body;
            there = is_whole file at size head hd other body whole.0 (omega (arith, whole.1, told)) read;
            place = refl;
            headed = rw (back, long) (sym is);
            kept = kept;
          };
      within = record {
        inside = omega (arith, whole.1, ap (λ (h : PlacedHead). h.size) is);
        body = within;
        short = kept_short (of_head at head body) part placed.size kept (omega (arith, long, ap (λ (h : PlacedHead). h.size) is));
      };
    }

-- what is found of a file whose bytes were read so
abbrev IsBody : ℕ → Head → List ℕ → List ℕ → Type 0
IsBody at head body file = body ≡ take head.size (drop (at + 16) file)

pub found_so : (old now : StoreView) (name : List ℕ) (at size : ℕ) (head : Head) (body : List ℕ) (was window : Window) (r : Result Found StoreError) → Holds old.files name (IsAt at size head was) → Holds old.files name (IsBody at head body)
    → IfOk r (BodyAnswer at size head body) → IsOkUnless r store_error.Memory → Holds old.files name (λ file. IsRead file window) → now.files ≡ old.files → SameCounts old now → FoundAnswer old now name at size window r
found_so old now name at size head body was window (Ok f) there is answer only read same counts = record {
  found = both_held old.files name (λ file here body. answer.found file here.0 body) (may_hold (IsAt at size head was) old.files name there) is;
  read = read;
  within = answer.within;
  same = same;
  causes = record {
    faults_stay = omega (arith, counts.faults);
    misses_stay = omega (arith, counts.misses);
    failed = λ e. absurd (no_err _ _ e);
    quiet = λ _. counts;
  };
}
found_so old now name at size head body was window (Err e) there is answer only read same counts = record {
  found = tt;
  read = tt;
  within = tt;
  same = same;
  causes = record {
    faults_stay = omega (arith, counts.faults);
    misses_stay = omega (arith, counts.misses);
    failed = λ failed. absurd (let no : store_error.Memory ≡ store_error.Failed = sym only ∙ err_is {T = Found} _ _ failed in cc);
    quiet = λ _. counts;
  };
}

-- the bytes of a small body, which a window reached
pub reached_body : (file : List ℕ) (at : ℕ) (head : Head) (w : Window) (body : List ℕ) → body ≡ take head.size (rest w (at + 16)) → take head.size (rest w (at + 16)) ≡ take head.size (drop (at + 16) file) → IsBody at head body file
reached_body file at head w body is reached = is ∙ reached

-- the index
pub index_so : (file : List ℕ) (at size held : ℕ) (head : Head) (body : List ℕ) (i : KeptIndex) → IsHeaded file at size head → head.kind ≡ kind.Index → held ≡ min head.size (size - (at + 16)) → at + 16 ≤ size → body ≡ take held (drop (at + 16) file)
    → i.at ≡ at → i.size ≡ head.size → i.body ≡ body → IsFound file at (found.Last (Ok (Some i)))
index_so file at size held head body i hd index is inside read place long same =
    (is_index file at size head hd index, index_read file at size head hd held body is inside read ∙ rw (place, long, same) refl)

-- and its places are numbers of 64 bits
pub short_body : (body bytes : List ℕ) (held : ℕ) → bytes ≡ body → length body ≤ held → length bytes ≤ held
short_body body bytes held same few = omega (arith, ap length same, few)

pub placed_so : (at size long held told : ℕ) → size ≤ longest_file → at + 16 ≤ size → held ≡ min told (size - (at + 16)) → long ≤ held → at + 16 + long < 2 ^ 64
placed_so at size long held told short inside is few = omega (arith, short, inside, is, few)
