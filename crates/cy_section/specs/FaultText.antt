-- How the fault of a section is told, and whether it is a limit that was passed.
use Rattle.std.specs.Prelude.{ℕ, List, ◌++◌, Bool, true, false, codes}
use Rattle.std.specs.Fmt.{decimal, signed_decimal}
use Rattle.cy_section.specs.declared.error.SectionError.{SectionError}
use Rattle.cy_section.specs.declared.error.SectionError.TheVariants as section

-- What is wrong, at its place.
abbrev pub place_text : ℕ → List ℕ → List ℕ
place_text at kind = codes "at " ++ decimal at ++ codes ": " ++ kind

abbrev pub section_text : SectionError → List ℕ
section_text (section.Cut at) = place_text at (codes "Cut")
section_text (section.Kind at value) = place_text at (codes "Kind " ++ decimal value)
section_text (section.Size at value) = place_text at (codes "Size " ++ signed_decimal value)
section_text (section.TooLong at value) = place_text at (codes "TooLong " ++ decimal value)
section_text (section.Wire at) = place_text at (codes "Wire")
section_text (section.NameNotText at) = place_text at (codes "NameNotText")
section_text section.Memory = codes "out of memory"

-- A section that is too long passes a limit.
abbrev pub is_section_limit : SectionError → Bool
is_section_limit (section.TooLong at value) = true
is_section_limit other = false
