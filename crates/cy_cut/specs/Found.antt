-- A section that was found, without where its bytes lie in memory.
use Rattle.std.specs.Prelude.{◌≡◌, Option, Result, Ok, Err}
use Rattle.std.specs.Option.{option_map}
use Rattle.cy_section.specs.declared.error.SectionError.{SectionError}
use Rattle.cy_cut.specs.declared.sections.SectionView.{SectionView}
use Rattle.cy_cut.specs.Sections.{WholeSection}

abbrev pub seen_section : SectionView → WholeSection
seen_section s = record { kind = s.kind; body_at = s.body_at; body = s.body.now }

abbrev pub GivesSection : Result (Option SectionView) SectionError
    → Result (Option WholeSection) SectionError → Type 0
GivesSection (Ok found) read = read ≡ Ok (option_map seen_section found)
GivesSection (Err fault) read = read ≡ Err fault
