-- A record's text of which a file has only the front is split into the sections that stand whole in it.
use Rattle.std.proofs.Common.{◌≡◌, ℕ, zero, suc, ◌+◌, ◌-◌, ◌^◌, ◌<◌, ◌≤◌, nat_lt, List, [], ◌∷◌, ◌++◌, length, take, drop, refl, sym, ap, ◌∙◌, subst, arith, append_assoc, length-append, length-take, Bool, true, false, Option, Some, None, Result, Ok, Err, inl, inr, eq-eqb}
use Rattle.std.specs.Prelude.{⊤, ◌==◌, nat_le, if◌then◌else◌}
use Rattle.std.specs.Int.{w64, cast_signed}
use Rattle.std.specs.List.{AllByRecursion}
use Rattle.std.proofs.Math.Seq.{drop-append_seam, take-append-add}
use Rattle.std.proofs.lemmas.Bool.{le-ltb, lt-ltb, cases_lt}
use Rattle.std.proofs.lemmas.Grind.{common_steps}
use Rattle.std.proofs.lemmas.List.{drop-drop, take-append-drop, length-drop}
use Rattle.byteorder.specs.Endian.{little_number}
use Rattle.cy_section.specs.declared.error.SectionError.{SectionError}
use Rattle.cy_section.specs.declared.error.SectionError.TheVariants.{Size}
use Rattle.cy_section.specs.declared.types.Head.{Head}
use Rattle.cy_section.specs.declared.types.SectionKind.{SectionKind}
use Rattle.cy_section.specs.declared.types.SectionKind.TheVariants as kind
use Rattle.cy_section.specs.Section.{section, head_bytes, kind_number}
use Rattle.cy_section.specs.Head.{kind_of, head_at}
use Rattle.cy_section.specs.RecordText.{Part, bytes_of}
use Rattle.cy_section.proofs.Lengths.{length-section}
use Rattle.cy_cut.specs.Sections.{WholeSection, Sections, longest_section, under_head, with_head, section_at, and_those_behind, sections_in}
use Rattle.cy_read_back.proofs.HeadsRead.{number-of_head, head_at-head}
use Rattle.cy_read_back.proofs.TextSections.{IsPlain, IsSection, StandsThere, kind_at, body_of, placed, section_is, not_header, next_place, section_at-written}

-- the parts that stand whole in so many bytes: all up to one that doesn't
abbrev pub parts_within : ℕ → ℕ → List Part → List Part
parts_within size at [] = []
parts_within size at (p ∷ rest) = if nat_lt size (at + length p.bytes) then [] else p ∷ parts_within size (at + length p.bytes) rest

-- no whole section stands at a place
abbrev IsNone : Result (Option WholeSection) SectionError → Type 0
IsNone (Ok (Some s)) = ⊥
IsNone (Ok None) = ⊤
IsNone (Err fault) = ⊤

none_ends : (r : Result (Option WholeSection) SectionError) (behind : ℕ → Sections) → IsNone r → (and_those_behind r behind).sections ≡ []
none_ends (Ok (Some s)) behind none = absurd none
none_ends (Ok None) behind none = refl
none_ends (Err fault) behind none = refl

-- the first bytes of two pieces, which have the first piece
long_front : (xs ys : List ℕ) (n : ℕ) → length xs ≤ n → take n (xs ++ ys) ≡ xs ++ take (n - length xs) ys
long_front xs ys n long =
    let split : n ≡ length xs + (n - length xs) = omega arith in
    ap (λ (k : ℕ). take k (xs ++ ys)) split ∙ take-append-add xs ys (n - length xs)

-- the bytes of a section of which the head is whole
head_first : (k : SectionKind) (body back : List ℕ) (n : ℕ) → 16 ≤ n → take n (section k body ++ back) ≡ head_bytes k (length body) ++ take (n - 16) (body ++ back)
head_first k body back n enough =
    ap (λ (xs : List ℕ). take n (xs ++ back)) (section_is k body) ∙ ap (take n) (append_assoc (head_bytes k (length body)) body back)
    ∙ long_front (head_bytes k (length body)) (body ++ back) n enough

-- where a part's head stands, and its body goes past the end
cut_under : (k : SectionKind) (file : List ℕ) (at size : ℕ) → IsPlain k → size ≤ longest_section → length file < at + 16 + size → IsNone (under_head file at k size)
cut_under kind.Header file at size plain short cut = absurd plain
cut_under kind.Index file at size plain short cut = absurd plain
cut_under kind.ChunkHeader file at size plain short cut = rw (le-ltb longest_section size short, lt-ltb (length file) (at + 16 + size) cut) tt
cut_under kind.ChunkBody file at size plain short cut = rw (le-ltb longest_section size short, lt-ltb (length file) (at + 16 + size) cut) tt
cut_under kind.Channel file at size plain short cut = rw (le-ltb longest_section size short, lt-ltb (length file) (at + 16 + size) cut) tt

-- a section that is cut
cut_section : (file back body : List ℕ) (k : SectionKind) (at : ℕ) → at ≤ length file → drop at file ≡ take (length file - at) (section k body ++ back) → IsPlain k → length body ≤ longest_section
    → length file < at + 16 + length body → IsNone (section_at file at)
unfolding section_at
cut_section file back body k at inside front plain short cut = elim (cases_lt at (length file)) [
  | inr end ↦
      let last : (at == length file) ≡ true = eq-eqb at (length file) (omega arith) in
      rw last tt
  | inl before ↦
      let other : (at == length file) ≡ false = grind (arith, common_steps) in
      elim (cases_lt (length file) (at + 16)) [
        | inl few ↦ rw (other, lt-ltb (length file) (at + 16) few) tt
        | inr enough ↦
            let bytes : drop at file ≡ head_bytes k (length body) ++ take (length file - at - 16) (body ++ back) = front ∙ head_first k body back (length file - at) (omega arith) in
            let number : little_number 4 (drop at file) ≡ kind_number k = ap (little_number 4) bytes ∙ number-of_head (length body) k (take (length file - at - 16) (body ++ back)) in
            let of_kind : (little_number 4 (drop at file) == 0) ≡ false = ap (λ n. n == 0) number ∙ not_header k plain in
            let read : head_at at (drop at file) ≡ Ok (record { kind = k; size = length body }) = ap (head_at at) bytes ∙ head_at-head at (length body) k (take (length file - at - 16) (body ++ back)) (omega arith) in
            rw (other, le-ltb (length file) (at + 16) enough, of_kind, read) (cut_under k file at (length body) plain short cut)
      ]
]

-- the head of an index is no part's, whatever size it has
index_head : (file bytes : List ℕ) (at : ℕ) → little_number 4 bytes ≡ 3 → IsNone (with_head file at (head_at at bytes))
unfolding head_at
index_head file bytes at is = rw is (by (nat_le (2 ^ 63) (little_number 8 (drop 8 bytes))))
  where
    by : (b : Bool) → IsNone (with_head file at (if b then Err (Size at (cast_signed w64 (little_number 8 (drop 8 bytes)))) else Ok (record { kind = kind_of 3; size = little_number 8 (drop 8 bytes) })))
    by true = tt
    by false = tt

cut_index : (file index : List ℕ) (at : ℕ) → at ≤ length file → drop at file ≡ take (length file - at) (section kind.Index index) → IsNone (section_at file at)
unfolding section_at
cut_index file index at inside front = elim (cases_lt at (length file)) [
  | inr end ↦
      let last : (at == length file) ≡ true = eq-eqb at (length file) (omega arith) in
      rw last tt
  | inl before ↦
      let other : (at == length file) ≡ false = grind (arith, common_steps) in
      elim (cases_lt (length file) (at + 16)) [
        | inl few ↦ rw (other, lt-ltb (length file) (at + 16) few) tt
        | inr enough ↦
            let whole : section kind.Index index ≡ section kind.Index index ++ [] = sym (no_more (section kind.Index index)) in
            let bytes : drop at file ≡ head_bytes kind.Index (length index) ++ take (length file - at - 16) (index ++ []) = front ∙ ap (take (length file - at)) whole ∙ head_first kind.Index index [] (length file - at) (omega arith) in
            let number : little_number 4 (drop at file) ≡ 3 = ap (little_number 4) bytes ∙ number-of_head (length index) kind.Index (take (length file - at - 16) (index ++ [])) in
            let of_kind : (little_number 4 (drop at file) == 0) ≡ false = ap (λ n. n == 0) number in
            rw (other, le-ltb (length file) (at + 16) enough, of_kind) (index_head file (drop at file) at number)
      ]
]
  where
    no_more : (xs : List ℕ) → xs ++ [] ≡ xs
    no_more [] = refl
    no_more (x ∷ xs) = ap (λ (l : List ℕ). x ∷ l) (no_more xs)

-- a part that stands whole, and the bytes behind it
whole_first : (file bytes more : List ℕ) (at : ℕ) → at + length bytes ≤ length file → drop at file ≡ take (length file - at) (bytes ++ more) → drop at file ≡ bytes ++ take (length file - (at + length bytes)) more
whole_first file bytes more at inside front =
    let less : length file - at - length bytes ≡ length file - (at + length bytes) = omega arith in
    front ∙ long_front bytes more (length file - at) (omega arith) ∙ ap (λ (n : ℕ). bytes ++ take n more) less

rest_first : (file bytes more : List ℕ) (at : ℕ) → drop at file ≡ bytes ++ more → drop (at + length bytes) file ≡ more
rest_first file bytes more at first = sym (drop-drop (length bytes) at file) ∙ ap (drop (length bytes)) first ∙ drop-append_seam bytes more

stands_whole : (file bytes more : List ℕ) (p : Part) (at : ℕ) → at ≤ length file → bytes ≡ section (kind_at at p) (body_of p) → drop at file ≡ bytes ++ more → StandsThere file (take at file) (kind_at at p) (body_of p) more at
stands_whole file bytes more p at inside is first = record {
  whole = sym (take-append-drop at file) ∙ ap (λ (xs : List ℕ). take at file ++ xs) (first ∙ ap (λ (xs : List ℕ). xs ++ more) is);
  there = omega (arith, length-take at file);
}

-- there are no more of them than bytes
pub few_within : (size at : ℕ) (parts : List Part) → at ≤ size → AllByRecursion IsSection parts → at + length (parts_within size at parts) ≤ size
few_within size at [] inside are = omega arith
few_within size at (p ∷ rest) inside are = elim (cases_lt size (at + length p.bytes)) [
  | inl cut ↦ rw (lt-ltb size (at + length p.bytes) cut) (omega arith)
  | inr whole ↦
      let more = few_within size (at + length p.bytes) rest whole are.1 in
      let next = next_place p at are.0 in
      rw (le-ltb size (at + length p.bytes) whole) (omega arith)
]

-- all of them
pub sections-cut : (more : ℕ) (parts : List Part) (at : ℕ) (index file : List ℕ) → at ≤ length file → drop at file ≡ take (length file - at) (bytes_of parts ++ section kind.Index index)
    → AllByRecursion IsSection parts → length (parts_within (length file) at parts) < more
    → (sections_in more file at).sections ≡ placed at (parts_within (length file) at parts)
unfolding sections_in
sections-cut zero parts at index file inside front are room = absurd (omega arith)
sections-cut (suc more) [] at index file inside front are room = none_ends (section_at file at) (λ next. sections_in more file next) (cut_index file index at inside front)
sections-cut (suc more) (p ∷ rest) at index file inside front are room =
    let behind = bytes_of rest ++ section kind.Index index in
    let here : drop at file ≡ take (length file - at) (p.bytes ++ behind) = front ∙ ap (take (length file - at)) (append_assoc p.bytes (bytes_of rest) (section kind.Index index)) in
    elim (cases_lt (length file) (at + length p.bytes)) [
      | inl cut ↦
          let one = cut_section file behind (body_of p) (kind_at at p) at inside (here ∙ ap (λ (xs : List ℕ). take (length file - at) (xs ++ behind)) (are.0.bytes at)) (are.0.plain at) are.0.short (omega (arith, next_place p at are.0)) in
          rw (lt-ltb (length file) (at + length p.bytes) cut) (none_ends (section_at file at) (λ next. sections_in more file next) one)
      | inr whole ↦
          let first = whole_first file p.bytes behind at whole here in
          let left = take (length file - (at + length p.bytes)) behind in
          let one = section_at-written file (take at file) (body_of p) left (kind_at at p) at (stands_whole file p.bytes left p at inside (are.0.bytes at) first) (are.0.plain at) are.0.short in
          let fewer : length (parts_within (length file) (at + length p.bytes) rest) < more = room_left more (length (parts_within (length file) (at + length p.bytes) rest)) (rw (le-ltb (length file) (at + length p.bytes) whole) at room) in
          let later = sections-cut more rest (at + length p.bytes) index file whole (rest_first file p.bytes left at first) are.1 fewer in
          rw (le-ltb (length file) (at + length p.bytes) whole, one, next_place p at are.0, later) refl
    ]
  where
    room_left : (more n : ℕ) → suc n < suc more → n < more
    room_left more n room = omega arith
