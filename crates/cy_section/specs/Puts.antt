-- What a written header leaves.
use Rattle.std.specs.Prelude.{ℕ, ◌≡◌, ◌+◌, List, ◌++◌, length, Result, OnOk, OnErr, IsOkUnless}
use Rattle.cy_section.specs.declared.error.SectionError.{SectionError}
use Rattle.cy_section.specs.declared.error.SectionError.TheVariants as section_error

-- The header's section is appended, and is 2064 bytes. Want of memory appends nothing.
pub record PutsHeader {T : Type 0} (section old new : List ℕ) (result : Result T SectionError) :
    Type 0 where
  pub ok : OnOk result (new ≡ old ++ section)
  pub grown : OnOk result (length new ≡ length old + 2064)
  pub err : OnErr result (new ≡ old)
  pub only_memory : IsOkUnless result section_error.Memory
