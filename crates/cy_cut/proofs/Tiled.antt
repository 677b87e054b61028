-- The sections that are read of a file are those of its bytes, and there are no others.
use Rattle.std.proofs.Common.{◌≡◌, ℕ, zero, suc, ◌+◌, ◌-◌, ◌^◌, ◌<◌, ◌≤◌, inl, inr, List, [], ◌∷◌, ◌++◌, length, take, drop, refl, ap, sym, ◌∙◌, subst, arith, length-append, length-drop, length-take, take-append-drop, Option, Some, None, Result, Ok, Err}
use Rattle.std.proofs.Math.Seq.{drop-append_seam, take-append_seam}
use Rattle.std.proofs.lemmas.Bool.{cases_eq, cases_lt}
use Rattle.std.proofs.lemmas.List.{drop-append-le, drop-drop, drop-take, take-append-le}
use Rattle.std.specs.Int.{w64, cast_signed}
use Rattle.byteorder.specs.Endian.{little_number}
use Rattle.byteorder.specs.Numbers.{little_from-take}
use Rattle.cy_section.specs.declared.error.SectionError.{SectionError}
use Rattle.cy_section.specs.declared.error.SectionError.TheVariants.{Cut, Kind, Size, TooLong}
use Rattle.cy_section.specs.declared.types.SectionKind.{SectionKind}
use Rattle.cy_section.specs.declared.types.SectionKind.TheVariants as kind
use Rattle.cy_section.specs.Section.{kind_number}
use Rattle.cy_cut.specs.Sections.{WholeSection, Sections, no_section, with_section, and_those_behind, longest_section, section_at, sections_in}
use Rattle.cy_cut.specs.Tiling.{IsHead, IsPart, chunk_header, chunk_body, channel, IsNoSection, no_head, no_type, no_size, too_long, no_body, AreSections, ended, index, section, broken}
use Rattle.cy_cut.proofs.SectionRows.{ends_there, head_cut, second_header, unknown_type, below_nought, index_there, part_too_long, part_cut, part_whole}

-- ---- heads

front_number : (size : ℕ) (bytes rest : List ℕ) → size ≤ length bytes → little_number size (bytes ++ rest) ≡ little_number size bytes
front_number size bytes rest enough =
    sym (little_from-take 0 size size (bytes ++ rest) (omega arith)) ∙ ap (little_number size) (take-append-le size bytes rest enough) ∙ little_from-take 0 size size bytes (omega arith)

head_there : (bytes : List ℕ) → 16 ≤ length bytes → IsHead (take 16 bytes) (little_number 4 bytes) (little_number 8 (drop 8 bytes))
head_there bytes enough = record {
  whole = omega (arith, length-take 16 bytes);
  typed = little_from-take 0 4 16 bytes (omega arith);
  sized = ap (little_number 8) (drop-take 8 8 bytes) ∙ little_from-take 0 8 8 (drop 8 bytes) (omega arith);
}

type_read : {head : List ℕ} {number size : ℕ} → IsHead head number size → (rest : List ℕ) → little_number 4 (head ++ rest) ≡ number
type_read {head = head} h rest = let whole = h.whole in front_number 4 head rest (omega arith) ∙ h.typed

size_read : {head : List ℕ} {number size : ℕ} → IsHead head number size → (rest : List ℕ) → little_number 8 (drop 8 (head ++ rest)) ≡ size
size_read {head = head} h rest =
    let whole = h.whole in
    ap (little_number 8) (drop-append-le 8 head rest (omega arith)) ∙ front_number 8 (drop 8 head) rest (omega (arith, length-drop 8 head)) ∙ h.sized

-- ---- what the bytes say is read

-- where a head stands
record HasHead (file : List ℕ) (at number size more : ℕ) : Type 0 where
  room : at + 16 ≤ length file
  typed : little_number 4 (drop at file) ≡ number
  sized : little_number 8 (drop 8 (drop at file)) ≡ size
  left : length file ≡ at + 16 + more

has_head : (file : List ℕ) (at : ℕ) {head : List ℕ} {number size : ℕ} → IsHead head number size → (rest : List ℕ) → at ≤ length file → drop at file ≡ head ++ rest → HasHead file at number size (length rest)
has_head file at {head = head} h rest inside e =
    let whole = h.whole in
    let long : length file ≡ at + 16 + length rest = omega (arith, length-drop at file, ap length e, length-append head rest) in
    record {
      room = omega arith;
      typed = ap (little_number 4) e ∙ type_read h rest;
      sized = ap (λ (l : List ℕ). little_number 8 (drop 8 l)) e ∙ size_read h rest;
      left = long;
    }

fault_read : (file : List ℕ) (at : ℕ) {bytes : List ℕ} {fault : SectionError} → IsNoSection at bytes fault → at ≤ length file → drop at file ≡ bytes → section_at file at ≡ Err fault
fault_read file at (no_head {bytes = bytes} some few) inside e =
    let left : length bytes ≡ length file - at = sym (ap length e) ∙ length-drop at file in
    head_cut file at (omega arith) (omega arith)
fault_read file at (no_type {number = number} {size = size} h (inl nought) rest) inside e =
    let f = has_head file at h rest inside e in second_header file at number size f.room f.typed f.sized nought
fault_read file at (no_type {number = number} {size = size} h (inr above) rest) inside e =
    let f = has_head file at h rest inside e in unknown_type file at number size f.room f.typed f.sized above
fault_read file at (no_size {number = number} {size = size} h some low negative rest) inside e =
    let f = has_head file at h rest inside e in below_nought file at number size f.room f.typed f.sized some low negative
fault_read file at (too_long {k = k} {size = size} h is large positive rest) inside e =
    let f = has_head file at h rest inside e in part_too_long file at (kind_number k) size f.room f.typed f.sized is refl positive large
fault_read file at (no_body {k = k} {size = size} h is short rest few) inside e =
    let f = has_head file at h rest inside e in
    let left = f.left in
    part_cut file at (kind_number k) size f.room f.typed f.sized is refl short (omega arith)

behind : (more : ℕ) (file : List ℕ) (at : ℕ) (r : Result (Option WholeSection) SectionError) → section_at file at ≡ r → sections_in (suc more) file at ≡ and_those_behind r (λ next. sections_in more file next)
unfolding sections_in
behind more file at r e = ap (λ (x : Result (Option WholeSection) SectionError). and_those_behind x (λ next. sections_in more file next)) e

body_is : (file : List ℕ) (at : ℕ) (head body rest : List ℕ) → length head ≡ 16 → drop at file ≡ head ++ (body ++ rest) → take (length body) (drop (at + 16) file) ≡ body
body_is file at head body rest whole e =
    let behind_head : drop (at + 16) file ≡ body ++ rest = sym (drop-drop 16 at file) ∙ ap (drop 16) e ∙ subst (λ (k : ℕ). drop k (head ++ (body ++ rest)) ≡ body ++ rest) whole (drop-append_seam head (body ++ rest)) in
    ap (take (length body)) behind_head ∙ take-append_seam body rest

rest_is : (file : List ℕ) (at : ℕ) (head body rest : List ℕ) → length head ≡ 16 → drop at file ≡ head ++ (body ++ rest) → drop (at + 16 + length body) file ≡ rest
rest_is file at head body rest whole e =
    let behind_head : drop (at + 16) file ≡ body ++ rest = sym (drop-drop 16 at file) ∙ ap (drop 16) e ∙ subst (λ (k : ℕ). drop k (head ++ (body ++ rest)) ≡ body ++ rest) whole (drop-append_seam head (body ++ rest)) in
    sym (drop-drop (length body) (at + 16) file) ∙ ap (drop (length body)) behind_head ∙ drop-append_seam body rest

pub tiling_read : {at : ℕ} {bytes : List ℕ} {all : Sections} → AreSections at bytes all → (more : ℕ) (file : List ℕ) → at ≤ length file → length file < at + more → drop at file ≡ bytes → sections_in more file at ≡ all
tiling_read is zero file inside enough e = absurd (omega arith)
tiling_read (ended {at = at}) (suc more) file inside enough e =
    let left : 0 ≡ length file - at = sym (ap length e) ∙ length-drop at file in
    behind more file at (Ok None) (ends_there file at (omega arith))
tiling_read (index {at = at} {size = size} h positive rest) (suc more) file inside enough e =
    let f = has_head file at h rest inside e in
    behind more file at (Ok None) (index_there file at 3 size f.room f.typed f.sized refl positive)
tiling_read (section {at = at} {head = head} {body = body} {rest = rest} {k = k} {others = others} h is short others_are) (suc more) file inside enough e =
    let f = has_head file at h (body ++ rest) inside e in
    let left = f.left in
    let both : length (body ++ rest) ≡ length body + length rest = length-append body rest in
    let s : WholeSection = record { kind = k; body_at = at + 16; body = body } in
    let found : section_at file at ≡ Ok (Some s) = part_whole file at (kind_number k) (length body) f.room f.typed f.sized is refl short (omega arith)
    ∙ ap (λ (l : List ℕ). Ok (Some (record { kind = k; body_at = at + 16; body = l }))) (body_is file at head body rest h.whole e) in
    behind more file at (Ok (Some s)) found
    ∙ ap (with_section s) (tiling_read {at = at + 16 + length body} {bytes = rest} {all = others} others_are more file (omega arith) (omega arith) (rest_is file at head body rest h.whole e))
tiling_read (broken {at = at} {fault = fault} h) (suc more) file inside enough e = behind more file at (Err fault) (fault_read file at h inside e)

-- ---- what is read is what the bytes say

-- a section whose kind is none of the others
part_of : (number : ℕ) → 0 < number → number ≤ 4 → (number ≡ 3 → ⊥) → (k : SectionKind) × IsPart k × (number ≡ kind_number k)
part_of zero some low other = absurd (omega arith)
part_of (suc zero) some low other = (kind.ChunkHeader, chunk_header, refl)
part_of (suc (suc zero)) some low other = (kind.ChunkBody, chunk_body, refl)
part_of (suc (suc (suc zero))) some low other = absurd (other refl)
part_of (suc (suc (suc (suc zero)))) some low other = (kind.Channel, channel, refl)
part_of (suc (suc (suc (suc (suc number))))) some low other = absurd (omega arith)

-- What stands at a place and the sections behind it.
abbrev Tiles : ℕ → List ℕ → ℕ → Type 0
Tiles more file at = AreSections at (drop at file) (sections_in more file at)

module _ (more : ℕ) (file : List ℕ) (at : ℕ) (inside : at ≤ length file) (later : (next : ℕ) → at + 16 ≤ next → next ≤ length file → Tiles more file next) where
  found_so : (r : Result (Option WholeSection) SectionError) → section_at file at ≡ r → AreSections at (drop at file) (and_those_behind r (λ next. sections_in more file next)) → Tiles (suc more) file at
  found_so r e are = subst (AreSections at (drop at file)) (sym (behind more file at r e)) are

  none_so : at ≡ length file → Tiles (suc more) file at
  none_so e =
      let none : drop at file ≡ [] = nothing (drop at file) (omega (arith, length-drop at file)) in
      found_so (Ok None) (ends_there file at e) (subst (λ (l : List ℕ). AreSections at l (no_section None)) (sym none) ended)
    where
      nothing : (l : List ℕ) → length l ≡ 0 → l ≡ []
      nothing [] n = refl
      nothing (b ∷ l) n = absurd (omega arith)

  module _ (room : at + 16 ≤ length file) where
    abbrev bytes : List ℕ
    bytes = drop at file

    abbrev number : ℕ
    number = little_number 4 (drop at file)

    abbrev size : ℕ
    size = little_number 8 (drop 8 (drop at file))

    abbrev head : List ℕ
    head = take 16 (drop at file)

    abbrev rest : List ℕ
    rest = drop 16 (drop at file)

    is_head : IsHead head number size
    is_head = head_there bytes (omega (arith, length-drop at file))

    cut_there : head ++ rest ≡ bytes
    cut_there = take-append-drop 16 bytes

    left : length rest ≡ length file - (at + 16)
    left = omega (arith, length-drop 16 bytes, length-drop at file)

    fault_so : (fault : SectionError) → section_at file at ≡ Err fault → IsNoSection at (head ++ rest) fault → Tiles (suc more) file at
    fault_so fault e lacks = found_so (Err fault) e (broken (subst (λ (l : List ℕ). IsNoSection at l fault) cut_there lacks))

    index_so : number ≡ 3 → size < 2 ^ 63 → Tiles (suc more) file at
    index_so three positive =
        found_so (Ok None) (index_there file at number size room refl refl three positive)
        (subst (λ (l : List ℕ). AreSections at l (no_section None)) cut_there (index (subst (λ (n : ℕ). IsHead head n size) three is_head) positive rest))

    module _ (k : SectionKind) (is : IsPart k) (typed : number ≡ kind_number k) where
      part_head : IsHead head (kind_number k) size
      part_head = subst (λ (n : ℕ). IsHead head n size) typed is_head

      section_so : size ≤ longest_section → at + 16 + size ≤ length file → Tiles (suc more) file at
      section_so short enough =
          let body = take size rest in
          let long : length body ≡ size = omega (arith, length-take size rest, left) in
          let same : rest ≡ drop (at + 16) file = drop-drop 16 at file in
          let s : WholeSection = record { kind = k; body_at = at + 16; body = body } in
          let found : section_at file at ≡ Ok (Some s) = part_whole file at number size room refl refl is typed short enough
          ∙ ap (λ (l : List ℕ). Ok (Some (record { kind = k; body_at = at + 16; body = take size l }))) (sym same) in
          let next = at + 16 + length body in
          let behind_it : drop next file ≡ drop size rest =
          ap (λ (n : ℕ). drop (at + 16 + n) file) long ∙ sym (drop-drop size (at + 16) file) ∙ ap (drop size) (sym same) in
          let others : AreSections next (drop size rest) (sections_in more file next) = subst (λ (l : List ℕ). AreSections next l (sections_in more file next)) behind_it (later next (omega arith) (omega arith)) in
          let whole : AreSections at (head ++ (body ++ drop size rest)) (with_section s (sections_in more file next)) =
          section (subst (IsHead head (kind_number k)) (sym long) part_head) is (omega arith) others in
          found_so (Ok (Some s)) found
          (subst (λ (l : List ℕ). AreSections at l (with_section s (sections_in more file next))) (ap (λ (l : List ℕ). head ++ l) (take-append-drop size rest) ∙ cut_there) whole)

      part_so : size < 2 ^ 63 → Tiles (suc more) file at
      part_so positive = elim (cases_lt longest_section size) [
        | inl large ↦ fault_so (TooLong at size) (part_too_long file at number size room refl refl is typed positive large) (too_long part_head is large positive rest)
        | inr short ↦ elim (cases_lt (length file) (at + 16 + size)) [
          | inl few ↦ fault_so (Cut at) (part_cut file at number size room refl refl is typed short few) (no_body part_head is short rest (omega (arith, left)))
          | inr enough ↦ section_so short enough
        ]
      ]

    known_so : 0 < number → number ≤ 4 → size < 2 ^ 63 → Tiles (suc more) file at
    known_so some low positive = elim (cases_eq number 3) [
      | inl three ↦ index_so three positive
      | inr other ↦ (let p = part_of number some low other in part_so p.0 p.1 p.2 positive)
    ]

    head_so : Tiles (suc more) file at
    head_so = elim (cases_lt 4 number) [
      | inl above ↦ fault_so (Kind at number) (unknown_type file at number size room refl refl above) (no_type is_head (inr above) rest)
      | inr low ↦ elim (cases_lt 0 number) [
        | inr nought ↦ (let e : number ≡ 0 = omega arith in fault_so (Kind at number) (second_header file at number size room refl refl e) (no_type is_head (inl e) rest))
        | inl some ↦ elim (cases_lt size (2 ^ 63)) [
          | inl positive ↦ known_so some low positive
          | inr negative ↦ fault_so (Size at (cast_signed w64 size)) (below_nought file at number size room refl refl some low negative) (no_size is_head some low negative rest)
        ]
      ]
    ]

  place_so : Tiles (suc more) file at
  place_so = elim (cases_lt at (length file)) [
    | inr ends ↦ none_so (omega arith)
    | inl some ↦ elim (cases_lt (length file) (at + 16)) [
      | inl few ↦ found_so (Err (Cut at)) (head_cut file at some few) (broken (no_head (omega (arith, length-drop at file)) (omega (arith, length-drop at file))))
      | inr room ↦ head_so room
    ]
  ]

pub tiles : (more : ℕ) (file : List ℕ) (at : ℕ) → at ≤ length file → length file < at + more → Tiles more file at
tiles zero file at inside enough = absurd (omega arith)
tiles (suc more) file at inside enough = place_so more file at inside (λ next below within. tiles more file next within (omega arith))
