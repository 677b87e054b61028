-- The sections of a file that are found so far, and those ahead.
use Rattle.std.proofs.Common.{◌≡◌, ◌<◌, ◌≤◌, ◌+◌, ◌-◌, ◌^◌, ◌==◌, nat_lt, if◌then◌else◌, inl, inr, ℕ, zero, suc, List, [], ◌∷◌, ◌++◌, length, take, drop, refl, ap, sym, ◌∙◌, arith, append_assoc, append-nil, length-drop, length-take, Option, Some, None, Result, Ok, Err, min, Bool, true, false}
use Rattle.std.specs.Prelude.{nat_le}
use Rattle.std.specs.Int.{w64, cast_signed}
use Rattle.std.proofs.lemmas.Bool.{ne_eqb, le-ltb, lt-ltb, cases_lt}
use Rattle.std.proofs.lemmas.List.{drop-drop, drop-take, take_min}
use Rattle.byteorder.specs.Endian.{little_number}
use Rattle.byteorder.specs.Numbers.{little_from-take}
use Rattle.cy_section.specs.declared.error.SectionError.{SectionError}
use Rattle.cy_section.specs.declared.error.SectionError.TheVariants.{Cut, Kind, Size, TooLong}
use Rattle.cy_section.specs.declared.types.Head.{Head}
use Rattle.cy_section.specs.declared.types.SectionKind.{SectionKind}
use Rattle.cy_section.specs.declared.types.SectionKind.TheVariants as kind
use Rattle.cy_section.specs.Head.{head_at}
use Rattle.cy_cut.specs.Sections.{WholeSection, Sections, section_at, sections_in, sections_from, and_those_behind, sized_section, under_head, with_head, longest_section, header_end}
use Rattle.cy_cut.specs.Heads.{PlacedIndex, end_of, index_at, index_of}
use Rattle.cy_cut.specs.private.Finding.{head_found, IsHeaded}
use Rattle.cy_cut.proofs.SectionRows.{head_cut, ends_there}

-- ---- sections one after another

-- These were found behind the header, up to a place, and so many steps find the rest.
pub record IsAhead (file : List ℕ) (at : ℕ) (done : List WholeSection) : Type 0 where
  pub more : ℕ
  pub fuel : length file - at < more
  pub inside : at ≤ length file
  pub all : (let rest = sections_in more file at in let whole : Sections = record { sections = done ++ rest.sections; fault = rest.fault } in whole) ≡ sections_from file header_end
  pub place : end_of header_end done ≡ at

pub ahead_first : (file : List ℕ) → header_end ≤ length file → IsAhead file header_end []
ahead_first file long = record {
  more = suc (length file);
  fuel = omega arith;
  inside = long;
  all = refl;
  place = refl;
}

end_behind : (at : ℕ) (done : List WholeSection) (s : WholeSection) → end_of at (done ++ s ∷ []) ≡ s.body_at + length s.body
end_behind at [] s = refl
end_behind at (d ∷ done) s = end_behind (d.body_at + length d.body) done s

next_step : (more : ℕ) (file : List ℕ) (at : ℕ) (r : Result (Option WholeSection) SectionError) → section_at file at ≡ r
    → sections_in (suc more) file at ≡ and_those_behind r (λ next. sections_in more file next)
unfolding sections_in
next_step more file at r e = ap (λ (x : Result (Option WholeSection) SectionError). and_those_behind x (λ next. sections_in more file next)) e

abbrev joined : List WholeSection → Sections → Sections
joined done rest = record { sections = done ++ rest.sections; fault = rest.fault }

pub one_less : (more : ℕ) → 0 < more → (m : ℕ) × (more ≡ suc m)
one_less zero some = absurd (omega arith)
one_less (suc m) some = (m, refl)

-- what the rest comes to, by what stands at the place
ahead_is : (file : List ℕ) (at : ℕ) (done : List WholeSection) (a : IsAhead file at done) (m : ℕ) → a.more ≡ suc m → (r : Result (Option WholeSection) SectionError) → section_at file at ≡ r
    → joined done (and_those_behind r (λ next. sections_in m file next)) ≡ sections_from file header_end
ahead_is file at done a m e r is =
    ap (joined done) (sym (next_step m file at r is) ∙ ap (λ (k : ℕ). sections_in k file at) (sym e)) ∙ a.all

pub ahead_more : (file : List ℕ) (at : ℕ) (done : List WholeSection) (s : WholeSection) → IsAhead file at done → section_at file at ≡ Ok (Some s) → s.body_at ≡ at + 16 → s.body_at + length s.body ≤ length file
    → IsAhead file (s.body_at + length s.body) (done ++ s ∷ [])
ahead_more file at done s a is place within =
    let fuel = a.fuel in
    let less = one_less a.more (omega arith) in
    let size = less.1 in
    let next = sections_in less.0 file (s.body_at + length s.body) in
    record {
      more = less.0;
      fuel = omega arith;
      inside = within;
      all = ap (λ (l : List WholeSection). let whole : Sections = record { sections = l; fault = next.fault } in whole) (append_assoc done (s ∷ []) next.sections) ∙ ahead_is file at done a less.0 less.1 (Ok (Some s)) is;
      place = end_behind header_end done s;
    }

-- the sections end
pub ahead_end : (file : List ℕ) (at : ℕ) (done : List WholeSection) → IsAhead file at done → section_at file at ≡ Ok None
    → sections_from file header_end ≡ (let whole : Sections = record { sections = done; fault = None } in whole)
ahead_end file at done a is =
    let fuel = a.fuel in
    let less = one_less a.more (omega arith) in
    sym (ahead_is file at done a less.0 less.1 (Ok None) is) ∙ ap (λ (l : List WholeSection). let whole : Sections = record { sections = l; fault = None } in whole) (append-nil done)

pub ahead_fault : (file : List ℕ) (at : ℕ) (done : List WholeSection) (fault : SectionError) → IsAhead file at done → section_at file at ≡ Err fault
    → sections_from file header_end ≡ (let whole : Sections = record { sections = done; fault = Some fault } in whole)
ahead_fault file at done fault a is =
    let fuel = a.fuel in
    let less = one_less a.more (omega arith) in
    sym (ahead_is file at done a less.0 less.1 (Err fault) is) ∙ ap (λ (l : List WholeSection). let whole : Sections = record { sections = l; fault = Some fault } in whole) (append-nil done)

pub ahead_index : (file : List ℕ) (at : ℕ) (done : List WholeSection) → IsAhead file at done → section_at file at ≡ Ok None → index_of file header_end ≡ index_at file at
unfolding index_of
ahead_index file at done a is =
    ap (λ (all : Sections). index_at file (end_of header_end all.sections)) (ahead_end file at done a is) ∙ ap (index_at file) a.place

-- ---- heads

-- the head in the bytes that a file has at a place
by_kind : (file : List ℕ) (at : ℕ) (b : Bool) (fault : SectionError) (r : Result Head SectionError) → (if b then Err fault else with_head file at r) ≡ with_head file at (if b then Err fault else r)
by_kind file at true fault r = refl
by_kind file at false fault r = refl

room_head : (file : List ℕ) (at : ℕ) → at + 16 ≤ length file → section_at file at ≡ with_head file at (head_found at (drop at file))
unfolding section_at head_found
room_head file at room =
    let long : 16 ≤ length (drop at file) = omega (arith, length-drop at file) in
    rw (ne_eqb at (length file) (λ e. absurd (omega arith)), le-ltb (length file) (at + 16) room, le-ltb (length (drop at file)) 16 long)
    (by_kind file at (little_number 4 (drop at file) == 0) (Kind at 0) (head_at at (drop at file)))

front_head : (at : ℕ) (bytes : List ℕ) → 16 ≤ length bytes → head_found at (take 16 bytes) ≡ head_found at bytes
unfolding head_found head_at
front_head at bytes long =
    let whole : length (take 16 bytes) ≡ 16 = omega (arith, length-take 16 bytes) in
    let few : 16 ≤ length (take 16 bytes) = omega (arith, whole) in
    let typed : little_number 4 (take 16 bytes) ≡ little_number 4 bytes = little_from-take 0 4 16 bytes (omega arith) in
    let sized : little_number 8 (drop 8 (take 16 bytes)) ≡ little_number 8 (drop 8 bytes) = ap (little_number 8) (drop-take 8 8 bytes) ∙ little_from-take 0 8 8 (drop 8 bytes) (omega arith) in
    rw (le-ltb (length (take 16 bytes)) 16 few, le-ltb (length bytes) 16 long, typed, sized) refl

guard : {A : Type 0} (b : Bool) (fault : SectionError) (r : Result A SectionError) (x : A) → (if b then Err fault else r) ≡ Ok x → r ≡ Ok x
guard true fault r x e = absurd cc
guard false fault r x e = e

ok_is : {A : Type 0} (p q : A) → (let r : Result A SectionError = Ok p in r ≡ Ok q) → p ≡ q
ok_is p q e = cc

err_is : {A : Type 0} (p q : SectionError) → (let r : Result A SectionError = Err p in r ≡ Err q) → p ≡ q
err_is p q e = cc

head_size : (at : ℕ) (bytes : List ℕ) (head : Head) → head_found at bytes ≡ Ok head → head.size ≡ little_number 8 (drop 8 bytes)
unfolding head_found head_at
head_size at bytes head e =
    let number = little_number 4 bytes in
    let size = little_number 8 (drop 8 bytes) in
    let a = guard (nat_lt (length bytes) 16) (Cut at) _ head e in
    let b = guard (number == 0) (Kind at 0) _ head a in
    let c = guard (nat_lt 4 number) (Kind at number) _ head b in
    let d = guard (nat_le (2 ^ 63) size) (Size at (cast_signed w64 size)) _ head c in
    sym (ap (λ (h : Head). h.size) (ok_is _ head d))

pub too_few : (at : ℕ) (bytes : List ℕ) → length bytes < 16 → head_found at bytes ≡ Err (Cut at)
unfolding head_found
too_few at bytes few = rw (lt-ltb (length bytes) 16 few) refl

-- such bytes are those of a whole head
pub headed : (file : List ℕ) (at size k : ℕ) (bytes : List ℕ) (head : Head) → size ≡ length file → at ≤ size → k ≡ min (size - at) 16 → bytes ≡ take k (drop at file) → 16 ≤ length bytes
    → head_found at bytes ≡ Ok head → IsHeaded file at size head
unfolding index_at
headed file at size k bytes head told inside is read long found =
    let most : k ≡ 16 = omega (arith, ap length read, length-take k (drop at file)) in
    let room : at + 16 ≤ length file = omega (arith, told, inside, is, most) in
    let left : 16 ≤ length (drop at file) = omega (arith, length-drop at file) in
    let whole : bytes ≡ take 16 (drop at file) = read ∙ ap (λ (n : ℕ). take n (drop at file)) most in
    let there : head_found at (drop at file) ≡ Ok head = sym (front_head at (drop at file) left) ∙ ap (head_found at) (sym whole) ∙ found in
    let size_is : head.size ≡ little_number 8 (drop (at + 8) file) = head_size at (drop at file) head there ∙ ap (little_number 8) (drop-drop 8 at file) in
    record {
      sized = told;
      under = room_head file at room ∙ ap (with_head file at) there;
      index = rw (le-ltb (length file) (at + 16) room, size_is) refl;
    }

-- or no section stands there
pub no_head : (file : List ℕ) (at size k : ℕ) (bytes : List ℕ) (fault : SectionError) → size ≡ length file → at < size → k ≡ min (size - at) 16 → bytes ≡ take k (drop at file)
    → head_found at bytes ≡ Err fault → section_at file at ≡ Err fault
no_head file at size k bytes fault told inside is read found = elim (cases_lt (length file) (at + 16)) [
  | inl few ↦
      let short : length bytes < 16 = omega (arith, ap length read, length-take k (drop at file), length-drop at file) in
      let same : Cut at ≡ fault = err_is {A = Head} (Cut at) fault (sym (too_few at bytes short) ∙ found) in
      head_cut file at (omega (arith, told, inside)) few ∙ ap Err same
  | inr room ↦
      let most : k ≡ 16 = omega (arith, told, inside, is, room) in
      let left : 16 ≤ length (drop at file) = omega (arith, length-drop at file) in
      let whole : bytes ≡ take 16 (drop at file) = read ∙ ap (λ (n : ℕ). take n (drop at file)) most in
      room_head file at room ∙ ap (with_head file at) (sym (front_head at (drop at file) left) ∙ ap (head_found at) (sym whole) ∙ found)
]

-- ---- what stands under a head

other_under : (file : List ℕ) (at : ℕ) (k : SectionKind) (size : ℕ) → (k ≡ kind.Index → ⊥) → under_head file at k size ≡ sized_section file at k size
other_under file at kind.Header size none = refl
other_under file at kind.ChunkHeader size none = refl
other_under file at kind.ChunkBody size none = refl
other_under file at kind.Index size none = absurd (none refl)
other_under file at kind.Channel size none = refl

module _ (file : List ℕ) (at size : ℕ) (head : Head) (h : IsHeaded file at size head) where
  module _ (other : head.kind ≡ kind.Index → ⊥) where
    sized : section_at file at ≡ sized_section file at head.kind head.size
    sized = h.under ∙ other_under file at head.kind head.size other

    pub is_too_long : longest_section < head.size → section_at file at ≡ Err (TooLong at head.size)
    is_too_long large = sized ∙ rw (lt-ltb longest_section head.size large) refl

    pub is_cut : head.size ≤ longest_section → length file < at + 16 + head.size → section_at file at ≡ Err (Cut at)
    is_cut short few = sized ∙ rw (le-ltb longest_section head.size short, lt-ltb (length file) (at + 16 + head.size) few) refl

    pub is_whole : (body : List ℕ) → head.size ≤ longest_section → at + 16 + head.size ≤ length file → body ≡ take head.size (drop (at + 16) file)
        → section_at file at ≡ Ok (Some (let s : WholeSection = record { kind = head.kind; body_at = at + 16; body = body } in s))
    is_whole body short enough read = sized ∙ rw (le-ltb longest_section head.size short, le-ltb (length file) (at + 16 + head.size) enough, read) refl

  pub is_index : head.kind ≡ kind.Index → section_at file at ≡ Ok None
  is_index index = h.under ∙ ap (λ (k : SectionKind). under_head file at k head.size) index

  pub index_read : (held : ℕ) (body : List ℕ) → held ≡ min head.size (size - (at + 16)) → at + 16 ≤ size → body ≡ take held (drop (at + 16) file)
      → index_at file at ≡ Some (let i : PlacedIndex = record { at = at; size = head.size; body = body } in i)
  index_read held body is inside read =
      let rest = drop (at + 16) file in
      let told = h.sized in
      let room : held ≡ min head.size (length rest) = omega (arith, is, told, length-drop (at + 16) file) in
      let whole : body ≡ take head.size rest = read ∙ ap (λ (n : ℕ). take n rest) room ∙ take_min head.size rest in
      h.index ∙ ap (λ (b : List ℕ). Some (let i : PlacedIndex = record { at = at; size = head.size; body = b } in i)) (sym whole)

-- where the file ends
pub end_found : (file : List ℕ) (at size : ℕ) → size ≡ length file → at ≡ size → (section_at file at ≡ Ok None) × (index_at file at ≡ None)
unfolding index_at
end_found file at size told e =
    let few : length file < at + 16 = omega (arith, told, e) in
    (ends_there file at (e ∙ told), rw (lt-ltb (length file) (at + 16) few) refl)
