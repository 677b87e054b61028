-- The heads of sections that are found one after another.
use Rattle.std.proofs.Common.{◌≡◌, ℕ, suc, ◌+◌, List, [], ◌∷◌, ◌++◌, length, refl, sym, ap, ◌∙◌, append_assoc, append-nil, Option, Some, None, Result, Ok, Err, arith}
use Rattle.std.specs.Prelude.{map, min, take, drop, ◌-◌, ◌≤◌}
use Rattle.std.proofs.lemmas.List.{take_min, length-drop}
use Rattle.std.proofs.lemmas.Bool.{le-ltb}
use Rattle.byteorder.specs.Endian.{little_number}
use Rattle.cy_section.specs.declared.error.SectionError.{SectionError}
use Rattle.cy_cut.specs.declared.heads.PlacedHead.{PlacedHead}
use Rattle.cy_cut.specs.Sections.{WholeSection, section_at, sections_in, and_those_behind}
use Rattle.cy_cut.specs.Heads.{PlacedIndex, whole_in, whole_at, end_of, section_head, index_at}

-- the sections from a place on are those of the first one found and those behind it
abbrev found_then : Option WholeSection → (ℕ → List WholeSection) → List WholeSection
found_then None behind = []
found_then (Some s) behind = s ∷ behind (s.body_at + length s.body)

sections_then : (more : ℕ) (file : List ℕ) (r : Result (Option WholeSection) SectionError)
    → (and_those_behind r (λ next. sections_in more file next)).sections ≡ found_then (whole_in r) (λ next. (sections_in more file next).sections)
sections_then more file (Ok None) = refl
sections_then more file (Ok (Some s)) = refl
sections_then more file (Err e) = refl

sections_found : (more : ℕ) (file : List ℕ) (at : ℕ) → (sections_in (suc more) file at).sections ≡ found_then (whole_at file at) (λ next. (sections_in more file next).sections)
unfolding sections_in whole_at
sections_found more file at = sections_then more file (section_at file at)

pub one_found : (more : ℕ) (file : List ℕ) (at : ℕ) (s : WholeSection) → whole_at file at ≡ Some s
    → (sections_in (suc more) file at).sections ≡ s ∷ (sections_in more file (s.body_at + length s.body)).sections
one_found more file at s e = sections_found more file at ∙ ap (λ (o : Option WholeSection). found_then o (λ next. (sections_in more file next).sections)) e

pub none_found_there : (more : ℕ) (file : List ℕ) (at : ℕ) → whole_at file at ≡ None → (sections_in (suc more) file at).sections ≡ []
none_found_there more file at e = sections_found more file at ∙ ap (λ (o : Option WholeSection). found_then o (λ next. (sections_in more file next).sections)) e

-- a head more, and the last one
pub head_more : (heads all : List PlacedHead) (s : WholeSection) (rest sections : List WholeSection) → sections ≡ s ∷ rest → heads ++ map section_head sections ≡ all
    → (heads ++ section_head s ∷ []) ++ map section_head rest ≡ all
head_more heads all s rest sections e so_far =
    append_assoc heads (section_head s ∷ []) (map section_head rest) ∙ sym (ap (λ (ss : List WholeSection). heads ++ map section_head ss) e) ∙ so_far

pub heads_end : (heads all : List PlacedHead) (sections : List WholeSection) → sections ≡ [] → heads ++ map section_head sections ≡ all → heads ≡ all
heads_end heads all sections e so_far = sym (append-nil heads) ∙ sym (ap (λ (ss : List WholeSection). heads ++ map section_head ss) e) ∙ so_far

pub end_more : (at end : ℕ) (s : WholeSection) (rest sections : List WholeSection) → sections ≡ s ∷ rest → end_of at sections ≡ end → end_of (s.body_at + length s.body) rest ≡ end
end_more at end s rest sections e so_far = sym (ap (λ (ss : List WholeSection). end_of at ss) e) ∙ so_far

pub end_there : (at end : ℕ) (sections : List WholeSection) → sections ≡ [] → end_of at sections ≡ end → at ≡ end
end_there at end sections e so_far = sym (ap (λ (ss : List WholeSection). end_of at ss) e) ∙ so_far

-- the index that stands behind the sections
pub index_is : (file : List ℕ) (at size held : ℕ) → at + 16 ≤ length file → size ≡ little_number 8 (drop (at + 8) file) → held ≡ min (length file - (at + 16)) size
    → Some (let i : PlacedIndex = record { at = at; size = size; body = take held (drop (at + 16) file) } in i) ≡ index_at file at
unfolding index_at
index_is file at size held inside read is =
    let rest = drop (at + 16) file in
    let room : held ≡ min size (length rest) = omega (arith, is, length-drop (at + 16) file) in
    let body : take held rest ≡ take size rest = ap (λ k. take k rest) room ∙ take_min size rest in
    rw (le-ltb (length file) (at + 16) inside, body, read) refl
