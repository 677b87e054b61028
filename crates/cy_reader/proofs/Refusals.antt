-- What a file holds that is refused.
use Rattle.std.proofs.Common.{◌≡◌, ◌<◌, ℕ, List, length, Option, Err, arith, lt-ltb, refl}
use Rattle.cy_store.specs.Files.{Files, Holds}
use Rattle.cy_store.proofs.Pieces.{held_by}
use Rattle.cy_reader.specs.declared.error.LoadError.TheVariants.{FileTooLarge}
use Rattle.cy_reader.specs.Record.{record_of, parts_of, file_header}
use Rattle.cy_cut.specs.Sections.{longest_file}

large_file : (count : ℕ) (name file : List ℕ) → longest_file < count → count ≡ length file → record_of name file ≡ Err (FileTooLarge count)
unfolding record_of parts_of file_header
large_file count name file large e =
    let over : longest_file < length file = omega arith in
    rw (lt-ltb longest_file (length file) over, e) refl

pub too_large : (files : Option Files) (name : List ℕ) (count : ℕ) → longest_file < count → Holds files name (λ bytes. count ≡ length bytes) → Holds files name (λ file. record_of name file ≡ Err (FileTooLarge count))
too_large files name count large held = held_by files name (λ file e. large_file count name file large e) held
