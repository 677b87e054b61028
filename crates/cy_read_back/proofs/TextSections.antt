-- A record's text is split into its sections.
use Rattle.std.proofs.Common.{◌≡◌, ℕ, zero, suc, ◌+◌, ◌-◌, ◌^◌, ◌<◌, ◌≤◌, nat_lt, List, [], ◌∷◌, ◌++◌, length, map, take, drop, refl, sym, ap, ◌∙◌, arith, append_assoc, append-nil, length-append, false, Some, None, Ok}
use Rattle.std.specs.Prelude.{⊤, ◌==◌}
use Rattle.std.specs.List.{AllByRecursion}
use Rattle.std.proofs.Math.Seq.{drop-append_seam, take-append_seam}
use Rattle.std.proofs.lemmas.Bool.{le-ltb}
use Rattle.std.proofs.lemmas.Grind.{common_steps}
use Rattle.std.proofs.lemmas.List.{length-drop, drop-drop}
use Rattle.byteorder.specs.Endian.{little_number}
use Rattle.cy_section.specs.declared.types.SectionKind.{SectionKind}
use Rattle.cy_section.specs.declared.types.SectionKind.TheVariants as kind
use Rattle.cy_section.specs.Section.{section, head_bytes, kind_number}
use Rattle.cy_section.specs.Head.{kind_of, head_at}
use Rattle.cy_section.specs.RecordText.{Part, bytes_of}
use Rattle.cy_section.proofs.Lengths.{length-section}
use Rattle.cy_read_back.proofs.HeadsRead.{number-of_head, head_at-head}
use Rattle.cy_cut.specs.Sections.{WholeSection, Sections, longest_section, under_head, section_at, sections_in}
use Rattle.cy_cut.specs.Heads.{section_head, end_of}
use Rattle.cy_read_back.specs.Records.{heads_from}

-- the kind of a part's section, and its body
abbrev pub kind_at : ℕ → Part → SectionKind
kind_at at p = kind_of (p.entry at).kind

abbrev pub body_of : Part → List ℕ
body_of p = drop 16 p.bytes

-- the sections that stand one after another from a place on
abbrev pub placed : ℕ → List Part → List WholeSection
placed at [] = []
placed at (p ∷ rest) = record { kind = kind_at at p; body_at = at + 16; body = body_of p } ∷ placed (at + length p.bytes) rest

-- neither a header nor an index
abbrev pub IsPlain : SectionKind → Type 0
IsPlain kind.Header = ⊥
IsPlain kind.ChunkHeader = ⊤
IsPlain kind.ChunkBody = ⊤
IsPlain kind.Index = ⊥
IsPlain kind.Channel = ⊤

-- a part is a section that is read, and its entry names it
pub record IsSection (p : Part) : Type 0 where
  pub bytes : (at : ℕ) → p.bytes ≡ section (kind_at at p) (body_of p)
  pub plain : (at : ℕ) → IsPlain (kind_at at p)
  pub number : (at : ℕ) → kind_number (kind_at at p) ≡ (p.entry at).kind
  pub position : (at : ℕ) → (p.entry at).position ≡ at
  pub short : length (body_of p) ≤ longest_section

-- a section is its head and its body
pub section_is : (k : SectionKind) (body : List ℕ) → section k body ≡ head_bytes k (length body) ++ body
unfolding section
section_is k body = refl

pub body_of-section : (k : SectionKind) (body : List ℕ) → drop 16 (section k body) ≡ body
body_of-section k body = ap (drop 16) (section_is k body) ∙ drop-append_seam (head_bytes k (length body)) body

pub not_header : (k : SectionKind) → IsPlain k → (kind_number k == 0) ≡ false
not_header kind.Header plain = absurd plain
not_header kind.ChunkHeader plain = refl
not_header kind.ChunkBody plain = refl
not_header kind.Index plain = absurd plain
not_header kind.Channel plain = refl

-- under its head
found : (k : SectionKind) (body file : List ℕ) (at : ℕ) → IsPlain k → length body ≤ longest_section → at + 16 + length body ≤ length file
    → take (length body) (drop (at + 16) file) ≡ body → under_head file at k (length body) ≡ Ok (Some (record { kind = k; body_at = at + 16; body = body }))
found kind.Header body file at plain short inside is = absurd plain
found kind.Index body file at plain short inside is = absurd plain
found kind.ChunkHeader body file at plain short inside is = rw (le-ltb longest_section (length body) short, le-ltb (length file) (at + 16 + length body) inside, is) refl
found kind.ChunkBody body file at plain short inside is = rw (le-ltb longest_section (length body) short, le-ltb (length file) (at + 16 + length body) inside, is) refl
found kind.Channel body file at plain short inside is = rw (le-ltb longest_section (length body) short, le-ltb (length file) (at + 16 + length body) inside, is) refl

-- where a section stands in a file
pub record StandsThere (file front : List ℕ) (k : SectionKind) (body back : List ℕ) (at : ℕ) : Type 0 where
  pub whole : file ≡ front ++ (section k body ++ back)
  pub there : at ≡ length front

pub long_file : (file front body back : List ℕ) (k : SectionKind) (at : ℕ) → StandsThere file front k body back at → length file ≡ at + 16 + length body + length back
long_file file front body back k at s =
    let whole = ap length s.whole in
    let there = s.there in
    omega (arith, whole, there, length-append front (section k body ++ back), length-append (section k body) back, length-section k body)

pub bytes_there : (file front body back : List ℕ) (k : SectionKind) (at : ℕ) → StandsThere file front k body back at → drop at file ≡ head_bytes k (length body) ++ (body ++ back)
bytes_there file front body back k at s =
    rw (s.whole, s.there) (drop-append_seam front (section k body ++ back) ∙ ap (λ (xs : List ℕ). xs ++ back) (section_is k body) ∙ append_assoc (head_bytes k (length body)) body back)

body_there : (file front body back : List ℕ) (k : SectionKind) (at : ℕ) → StandsThere file front k body back at → drop (at + 16) file ≡ body ++ back
body_there file front body back k at s =
    sym (drop-drop 16 at file) ∙ ap (drop 16) (bytes_there file front body back k at s) ∙ drop-append_seam (head_bytes k (length body)) (body ++ back)

pub taken_there : (file front body back : List ℕ) (k : SectionKind) (at : ℕ) → StandsThere file front k body back at → take (length body) (drop (at + 16) file) ≡ body
taken_there file front body back k at s = ap (take (length body)) (body_there file front body back k at s) ∙ take-append_seam body back

-- the section that stands at a place
pub section_at-written : (file front body back : List ℕ) (k : SectionKind) (at : ℕ) → StandsThere file front k body back at → IsPlain k → length body ≤ longest_section
    → section_at file at ≡ Ok (Some (record { kind = k; body_at = at + 16; body = body }))
unfolding section_at
section_at-written file front body back k at s plain short =
    let long = long_file file front body back k at s in
    let before : (at == length file) ≡ false = grind (arith, common_steps) in
    let head : nat_lt (length file) (at + 16) ≡ false = le-ltb (length file) (at + 16) (omega arith) in
    let number : little_number 4 (drop at file) ≡ kind_number k = ap (little_number 4) (bytes_there file front body back k at s) ∙ number-of_head (length body) k (body ++ back) in
    let of_kind : (little_number 4 (drop at file) == 0) ≡ false = ap (λ n. n == 0) number ∙ not_header k plain in
    let read : head_at at (drop at file) ≡ Ok (record { kind = k; size = length body }) = ap (head_at at) (bytes_there file front body back k at s) ∙ head_at-head at (length body) k (body ++ back) (omega arith) in
    rw (before, head, of_kind, read) (found k body file at plain short (omega arith) (taken_there file front body back k at s))

-- the index ends them
pub section_at-index : (file front body back : List ℕ) (at : ℕ) → StandsThere file front kind.Index body back at → length body < 2 ^ 63 → section_at file at ≡ Ok None
unfolding section_at
section_at-index file front body back at s small =
    let long = long_file file front body back kind.Index at s in
    let before : (at == length file) ≡ false = grind (arith, common_steps) in
    let head : nat_lt (length file) (at + 16) ≡ false = le-ltb (length file) (at + 16) (omega arith) in
    let number : little_number 4 (drop at file) ≡ 3 = ap (little_number 4) (bytes_there file front body back kind.Index at s) ∙ number-of_head (length body) kind.Index (body ++ back) in
    let of_kind : (little_number 4 (drop at file) == 0) ≡ false = ap (λ n. n == 0) number in
    let read : head_at at (drop at file) ≡ Ok (record { kind = kind.Index; size = length body }) = ap (head_at at) (bytes_there file front body back kind.Index at s) ∙ head_at-head at (length body) kind.Index (body ++ back) small in
    rw (before, head, of_kind, read) refl

-- a part's bytes, and those behind it
pub next_place : (p : Part) (at : ℕ) → IsSection p → at + 16 + length (body_of p) ≡ at + length p.bytes
next_place p at is = omega (arith, ap length (is.bytes at), length-section (kind_at at p) (body_of p))

part_there : (p : Part) (rest : List Part) (front index file : List ℕ) (at : ℕ) → file ≡ front ++ (bytes_of (p ∷ rest) ++ index) → at ≡ length front → IsSection p
    → StandsThere file front (kind_at at p) (body_of p) (bytes_of rest ++ index) at
part_there p rest front index file at whole there is = record {
  whole = whole ∙ ap (λ (xs : List ℕ). front ++ xs) (append_assoc p.bytes (bytes_of rest) index ∙ ap (λ (xs : List ℕ). xs ++ (bytes_of rest ++ index)) (is.bytes at));
  there = there;
}

-- all of them
pub sections-written : (more : ℕ) (parts : List Part) (at : ℕ) (front index file : List ℕ) → file ≡ front ++ (bytes_of parts ++ section kind.Index index) → at ≡ length front
    → length index < 2 ^ 63 → AllByRecursion IsSection parts → length parts < more
    → sections_in more file at ≡ (let s : Sections = record { sections = placed at parts; fault = None } in s)
unfolding sections_in
sections-written zero parts at front index file whole there small are room = absurd (omega arith)
sections-written (suc more) [] at front index file whole there small are room =
    let stands : StandsThere file front kind.Index index [] at = record { whole = whole ∙ ap (λ (xs : List ℕ). front ++ xs) (sym (append-nil (section kind.Index index))); there = there } in
    rw (section_at-index file front index [] at stands small) refl
sections-written (suc more) (p ∷ rest) at front index file whole there small are room =
    let behind = section kind.Index index in
    let one = section_at-written file front (body_of p) (bytes_of rest ++ behind) (kind_at at p) at (part_there p rest front behind file at whole there are.0) (are.0.plain at) are.0.short in
    let moved : file ≡ (front ++ p.bytes) ++ (bytes_of rest ++ behind) = whole ∙ ap (λ (xs : List ℕ). front ++ xs) (append_assoc p.bytes (bytes_of rest) behind) ∙ sym (append_assoc front p.bytes (bytes_of rest ++ behind)) in
    let next : at + length p.bytes ≡ length (front ++ p.bytes) = omega (arith, there, length-append front p.bytes) in
    rw (one, next_place p at are.0, sections-written more rest (at + length p.bytes) (front ++ p.bytes) index file moved next small are.1 (omega arith)) refl

-- their heads, and where they end
pub heads-written : (parts : List Part) (at : ℕ) → map section_head (placed at parts) ≡ heads_from at parts
heads-written [] at = refl
heads-written (p ∷ rest) at =
    let here : at + 16 - 16 ≡ at = omega arith in
    rw (here, length-drop 16 p.bytes, heads-written rest (at + length p.bytes)) refl

pub end-written : (parts : List Part) (at : ℕ) → AllByRecursion IsSection parts → end_of at (placed at parts) ≡ at + length (bytes_of parts)
end-written [] at are = omega arith
end-written (p ∷ rest) at are =
    ap (λ (n : ℕ). end_of n (placed (at + length p.bytes) rest)) (next_place p at are.0) ∙ end-written rest (at + length p.bytes) are.1
    ∙ omega (arith, length-append p.bytes (bytes_of rest))

-- there are fewer than bytes
pub few_parts : (parts : List Part) → AllByRecursion IsSection parts → length parts ≤ length (bytes_of parts)
few_parts [] are = omega arith
few_parts (p ∷ rest) are =
    let next = next_place p 0 are.0 in
    omega (arith, few_parts rest are.1, length-append p.bytes (bytes_of rest))
