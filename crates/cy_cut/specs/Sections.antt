-- The sections of a record's file, one after another from the end of its header on.
use Rattle.std.specs.Prelude.{ℕ, zero, suc, ◌+◌, nat_lt, ◌==◌, if◌then◌else◌, List, [], ◌∷◌, length}
use Rattle.std.specs.Prelude.{take, drop, Option, Some, None, Result, Ok, Err}
use Rattle.byteorder.specs.Endian.{little_number}
use Rattle.cy_section.specs.declared.error.SectionError.{SectionError}
use Rattle.cy_section.specs.declared.error.SectionError.TheVariants.{Cut, Kind, TooLong}
use Rattle.cy_section.specs.declared.types.SectionKind.{SectionKind}
use Rattle.cy_section.specs.declared.types.SectionKind.TheVariants as kind
use Rattle.cy_section.specs.declared.types.Head.{Head}
use Rattle.cy_section.specs.Head.{head_at}

-- The longest file that is read, in bytes.
abbrev pub longest_file : ℕ
longest_file = 2147483648

-- The longest section that is read, but for the index, in bytes.
abbrev pub longest_section : ℕ
longest_section = 536870912

-- Where the sections begin: the section of the header has so many bytes.
abbrev pub header_end : ℕ
header_end = 2064

-- A section: its kind, the place of its body, and the body.
pub record WholeSection : Type 0 where
  pub kind : SectionKind
  pub body_at : ℕ
  pub body : List ℕ

-- The section of this kind and size whose head stands at a place. One that is too long comes before
-- one that goes past the file's end.
abbrev pub sized_section : List ℕ → ℕ → SectionKind → ℕ → Result (Option WholeSection) SectionError
sized_section file at k size =
    if nat_lt longest_section size then Err (TooLong at size)
    else (if nat_lt (length file) (at + 16 + size) then Err (Cut at)
    else Ok (Some (record { kind = k; body_at = at + 16; body = take size (drop (at + 16) file) })))

-- The section of a head that stands at a place: none where it is an index, which ends the reading.
abbrev pub under_head : List ℕ → ℕ → SectionKind → ℕ → Result (Option WholeSection) SectionError
under_head file at kind.Index size = Ok None
under_head file at k size = sized_section file at k size

abbrev pub with_head : List ℕ → ℕ → Result Head SectionError
    → Result (Option WholeSection) SectionError
with_head file at (Ok head) = under_head file at head.kind head.size
with_head file at (Err fault) = Err fault

-- What stands at a place of the file: a whole section, or none at the file's end and at an index,
-- or the first fault. A second header is a wrong kind, whatever its size.
unfoldable pub section_at : List ℕ → ℕ → Result (Option WholeSection) SectionError
section_at file at =
    if at == length file then Ok None
    else (if nat_lt (length file) (at + 16) then Err (Cut at)
    else (if little_number 4 (drop at file) == 0 then Err (Kind at 0)
    else with_head file at (head_at at (drop at file))))

-- The sections that stand one after another, and the fault that ends them, if there is one.
pub record Sections : Type 0 where
  pub sections : List WholeSection
  pub fault : Option SectionError

abbrev pub no_section : Option SectionError → Sections
no_section fault = record { sections = []; fault = fault }

abbrev pub with_section : WholeSection → Sections → Sections
with_section section rest = record { sections = section ∷ rest.sections; fault = rest.fault }

-- What stands at a place, and the sections behind it.
abbrev pub and_those_behind : Result (Option WholeSection) SectionError → (ℕ → Sections) → Sections
and_those_behind (Ok (Some section)) behind = with_section section
    (behind (section.body_at + length section.body))
and_those_behind (Ok None) behind = no_section None
and_those_behind (Err fault) behind = no_section (Some fault)

-- The sections from a place on: so many at most.
unfoldable pub sections_in : ℕ → List ℕ → ℕ → Sections
sections_in zero file at = no_section None
sections_in (suc more) file at = and_those_behind (section_at file at)
    (λ next. sections_in more file next)

-- All of them: there are fewer than bytes, since each has a head.
abbrev pub sections_from : List ℕ → ℕ → Sections
sections_from file at = sections_in (suc (length file)) file at
