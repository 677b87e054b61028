-- The header of a file is that of its first bytes.
use Rattle.std.proofs.Common.{◌≡◌, ◌≤◌, [], ◌∷◌, ◌++◌, ℕ, List, length, take, drop, min, refl, ap, sym, ◌∙◌, arith, length-take, inl, inr, Option, Some, None, Result, Ok, Err}
use Rattle.std.specs.Prelude.{map, IfOk}
use Rattle.std.specs.Option.{option_map}
use Rattle.cy_section.specs.declared.error.SectionError.{SectionError}
use Rattle.std.proofs.lemmas.Bool.{le-ltb, lt-ltb, cases_lt}
use Rattle.std.proofs.lemmas.List.{drop-take, take-take, take_all}
use Rattle.byteorder.specs.Endian.{little_number}
use Rattle.byteorder.specs.Numbers.{little_from-take}
use Rattle.cy_section.specs.declared.types.Header.{Header}
use Rattle.cy_reader.specs.declared.error.LoadError.{LoadError}
use Rattle.cy_reader.specs.declared.front.Front.{Front}
use Rattle.cy_cut.specs.declared.cutting.CutFile.{CutFile}
use Rattle.cy_cut.specs.declared.heads.KeptIndex.{KeptIndex}
use Rattle.cy_cut.specs.declared.heads.PlacedHead.{PlacedHead}
use Rattle.cy_cut.specs.Sections.{WholeSection, Sections, sections_from, header_end, longest_file}
use Rattle.cy_cut.specs.Heads.{header_head, section_head, index_head, index_of, heads_of, seen_index}
use Rattle.cy_reader.specs.Record.{◌>>=◌, fault_of, Met, Contents, Source, shown, source_of, nothing, file_header, sized_header, add_sections, parts_of, record_of}
use Rattle.cy_reader.specs.private.Front.{IsFront, index_in, cut_source, cut_record}
use Rattle.cy_cut.specs.Cutting.{IsCut, AreKept, fault_in, seen_part}
use Rattle.cy_reader.proofs.Bodies.{nothing_comes, before_fault, then_fault}
use Rattle.cy_reader.proofs.Quiet.{kept_met}

sized_same : (file : List ℕ) → 2064 ≤ length file → (size : ℕ) → sized_header (take 2064 file) size ≡ sized_header file size
sized_same file long size =
    let whole : length (take 2064 file) ≡ 2064 = omega (arith, length-take 2064 file) in
    let enough : 2064 ≤ length (take 2064 file) = omega (arith, whole) in
    elim (cases_lt 2048 size) [
      | inl large ↦ rw (lt-ltb 2048 size large) refl
      | inr small ↦
          let fields : take size (drop 16 (take 2064 file)) ≡ take size (drop 16 file) = ap (take size) (drop-take 16 2048 file) ∙ take-take size 2048 (drop 16 file) small in
          rw (le-ltb 2048 size small, le-ltb (length (take 2064 file)) 2064 enough, le-ltb (length file) 2064 long, fields) refl
    ]

long_front : (file : List ℕ) → 2064 ≤ length file → length file ≤ longest_file → file_header (take 2064 file) ≡ file_header file
unfolding file_header
long_front file long short =
    let front = take 2064 file in
    let whole : length front ≡ 2064 = omega (arith, length-take 2064 file) in
    let a : length front ≤ longest_file = omega (arith, whole) in
    let b : 16 ≤ length front = omega (arith, whole) in
    let c : 16 ≤ length file = omega (arith, long) in
    let typed : little_number 4 front ≡ little_number 4 file = little_from-take 0 4 2064 file (omega arith) in
    let sized : little_number 8 (drop 8 front) ≡ little_number 8 (drop 8 file) = ap (little_number 8) (drop-take 8 2056 file) ∙ little_from-take 0 8 2056 (drop 8 file) (omega arith) in
    rw (le-ltb longest_file (length front) a, le-ltb longest_file (length file) short, le-ltb (length front) 16 b, le-ltb (length file) 16 c, typed, sized, sized_same file long (little_number 8 (drop 8 file))) refl

-- the first bytes that are read of a file
pub front_header : (file bytes : List ℕ) (size k : ℕ) → size ≡ length file → size ≤ longest_file → k ≡ min size 2064 → bytes ≡ take k file → file_header bytes ≡ file_header file
front_header file bytes size k told short is read = elim (cases_lt (length file) 2064) [
  | inl few ↦ ap file_header (read ∙ take_all k file (omega (arith, told, is, few)))
  | inr long ↦
      let most : k ≡ 2064 = omega (arith, told, is, long) in
      ap file_header (read ∙ ap (λ (n : ℕ). take n file) most) ∙ long_front file long (omega (arith, told, short))
]

pub front_head : (file bytes : List ℕ) (size k : ℕ) → size ≡ length file → k ≡ min size 2064 → bytes ≡ take k file → 2064 ≤ length bytes → header_head bytes ≡ header_head file
unfolding header_head
front_head file bytes size k told is read long =
    let most : k ≡ 2064 = omega (arith, ap length read, length-take k file, is) in
    let front : bytes ≡ take 2064 file = read ∙ ap (λ (n : ℕ). take n file) most in
    let sized : little_number 8 (drop 8 bytes) ≡ little_number 8 (drop 8 file) = ap (λ (l : List ℕ). little_number 8 (drop 8 l)) front ∙ ap (little_number 8) (drop-take 8 2056 file) ∙ little_from-take 0 8 2056 (drop 8 file) (omega arith) in
    rw sized refl

-- ---- the record of a file's front and sections

module _ (name file : List ℕ) (f : Front) (front : IsFront file f) where
  abbrev made : List WholeSection → Result (Option KeptIndex) SectionError → Met → Result Contents LoadError
  made all end met = Ok (shown (let s : Source = record {
    name = name;
    size = f.size;
    header = f.header;
    heads = (f.head ∷ map section_head all) ++ index_head (index_in end);
    index = index_in end;
  } in s) met)

  abbrev behind : Met → Result Contents LoadError
  behind met = Ok (shown (source_of name file f.header) met)

  parts_are : (all : Sections) → sections_from file header_end ≡ all → parts_of file ≡ add_sections all.sections all.fault nothing >>= λ met. Ok (f.header, met)
  unfolding parts_of
  parts_are all is = rw (front.header, is) refl

  over : (r : Result Met LoadError) → (r >>= λ met. Ok (f.header, met)) >>= (λ (parts : Header × Met). Ok (shown (source_of name file parts.0) parts.1)) ≡ r >>= behind
  over (Ok met) = refl
  over (Err e) = refl

  record_is : (all : Sections) → sections_from file header_end ≡ all → record_of name file ≡ add_sections all.sections all.fault nothing >>= behind
  unfolding record_of
  record_is all is = ap (λ (r : Result (Header × Met) LoadError). r >>= λ parts. Ok (shown (source_of name file parts.0) parts.1)) (parts_are all is) ∙ over (add_sections all.sections all.fault nothing)

  whole_is : (all : List WholeSection) (index : Option KeptIndex) → sections_from file header_end ≡ (let whole : Sections = record { sections = all; fault = None } in whole)
      → index_of file header_end ≡ option_map seen_index index → (met : Met) → behind met ≡ made all (Ok index) met
  unfolding source_of heads_of
  whole_is all index is last met = rw (front.size, front.head, is, last) refl

  by_end : (all : List WholeSection) (end : Result (Option KeptIndex) SectionError) → sections_from file header_end ≡ (let whole : Sections = record { sections = all; fault = fault_in end } in whole)
      → IfOk end (λ i. index_of file header_end ≡ option_map seen_index i) → record_of name file ≡ add_sections all (fault_in end) nothing >>= made all end
  by_end all (Ok index) is last = record_is (record { sections = all; fault = None }) is ∙ each (add_sections all None nothing)
    where
      each : (r : Result Met LoadError) → r >>= behind ≡ r >>= made all (Ok index)
      each (Ok met) = whole_is all index is last met
      each (Err e) = refl
  by_end all (Err fault) is last = record_is (record { sections = all; fault = Some fault }) is ∙ nothing_comes all fault nothing behind (made all (Err fault))

  kept_is : (c : CutFile) (all : List WholeSection) → AreKept all (f.head ∷ []) c.heads.items c.parts.items → add_sections all (fault_in c.end) nothing >>= made all c.end ≡ cut_record name f c
  unfolding cut_record
  kept_is c all kept =
      let met : add_sections all (fault_in c.end) nothing ≡ add_sections (map seen_part c.parts.items) (fault_in c.end) nothing
      = sym (ap (λ (ss : List WholeSection). add_sections ss (fault_in c.end) nothing) kept.parts ∙ kept_met all (fault_in c.end) nothing) in
      ap (λ (r : Result Met LoadError). r >>= made all c.end) met
      ∙ ap (λ (heads : List PlacedHead). add_sections (map seen_part c.parts.items) (fault_in c.end) nothing >>= λ met. Ok (shown (let s : Source = record {
        name = name;
        size = f.size;
        header = f.header;
        heads = heads ++ index_head (index_in c.end);
        index = index_in c.end;
      } in s) met)) (sym kept.heads)

  pub cut_is : (c : CutFile) → IsCut file (f.head ∷ []) c → record_of name file ≡ cut_record name f c
  cut_is c cut = by_end cut.sections c.end cut.all cut.index ∙ kept_is c cut.sections cut.kept

-- or the first fault of them
abbrev made-of : List ℕ → Front → CutFile → Met → Result Contents LoadError
made-of name f c met = Ok (shown (cut_source name f c) met)

pub cut_wrong : (name : List ℕ) (f : Front) (c : CutFile) (e : LoadError) → add_sections (map seen_part c.parts.items) None nothing ≡ Err e → cut_record name f c ≡ Err e
unfolding cut_record
cut_wrong name f c e wrong = ap (λ (r : Result Met LoadError). r >>= made-of name f c) (before_fault (map seen_part c.parts.items) nothing (fault_in c.end) e wrong)

pub cut_broken : (name : List ℕ) (f : Front) (c : CutFile) (fault : SectionError) (met : Met) → c.end ≡ Err fault → add_sections (map seen_part c.parts.items) None nothing ≡ Ok met → cut_record name f c ≡ Err (fault_of fault)
unfolding cut_record
cut_broken name f c fault met e is =
    let wrong : add_sections (map seen_part c.parts.items) (fault_in c.end) nothing ≡ Err (fault_of fault) = ap (λ (x : Result (Option KeptIndex) SectionError). add_sections (map seen_part c.parts.items) (fault_in x) nothing) e ∙ then_fault (map seen_part c.parts.items) nothing met fault is in
    ap (λ (r : Result Met LoadError). r >>= made-of name f c) wrong
