-- A head that was written is read, whatever follows it.
use Rattle.std.proofs.Common.{◌≡◌, ℕ, ◌^◌, ◌<◌, List, ◌++◌, drop, refl, ap, ◌∙◌, arith, append_assoc, lit<, nat_lt, nat_le, false, Ok}
use Rattle.std.proofs.Math.Seq.{drop-append_seam}
use Rattle.std.proofs.lemmas.Bool.{le-ltb}
use Rattle.std.proofs.lemmas.Grind.{common_steps}
use Rattle.byteorder.specs.Endian.{little_number, little_bytes}
use Rattle.byteorder.specs.Numbers.{little_number-reads_back}
use Rattle.cy_section.specs.declared.types.SectionKind.{SectionKind}
use Rattle.cy_section.specs.declared.types.SectionKind.TheVariants as kind
use Rattle.cy_section.specs.Section.{kind_number, head_bytes}
use Rattle.cy_section.specs.Head.{kind_of, head_at}

kind_of-number : (k : SectionKind) → kind_of (kind_number k) ≡ k
kind_of-number kind.Header = refl
kind_of-number kind.ChunkHeader = refl
kind_of-number kind.ChunkBody = refl
kind_of-number kind.Index = refl
kind_of-number kind.Channel = refl

low_kind : (k : SectionKind) → kind_number k < 5
low_kind kind.Header = lit< tt
low_kind kind.ChunkHeader = lit< tt
low_kind kind.ChunkBody = lit< tt
low_kind kind.Index = lit< tt
low_kind kind.Channel = lit< tt

-- its type, and its size
pub number-of_head : (size : ℕ) (k : SectionKind) (rest : List ℕ) → little_number 4 (head_bytes k size ++ rest) ≡ kind_number k
number-of_head size k rest =
    let low = low_kind k in
    let grouped : head_bytes k size ++ rest ≡ little_bytes 4 (kind_number k) ++ (little_bytes 4 0 ++ (little_bytes 8 size ++ rest)) =
    append_assoc (little_bytes 4 (kind_number k) ++ little_bytes 4 0) (little_bytes 8 size) rest ∙ append_assoc (little_bytes 4 (kind_number k)) (little_bytes 4 0) (little_bytes 8 size ++ rest) in
    ap (little_number 4) grouped ∙ little_number-reads_back 4 (kind_number k) (little_bytes 4 0 ++ (little_bytes 8 size ++ rest)) (omega arith)

pub size-of_head : (size : ℕ) (k : SectionKind) (rest : List ℕ) → size < 2 ^ 64 → little_number 8 (drop 8 (head_bytes k size ++ rest)) ≡ size
size-of_head size k rest fits =
    let front = little_bytes 4 (kind_number k) ++ little_bytes 4 0 in
    let grouped : head_bytes k size ++ rest ≡ front ++ (little_bytes 8 size ++ rest) = append_assoc front (little_bytes 8 size) rest in
    ap (λ (bytes : List ℕ). little_number 8 (drop 8 bytes)) grouped ∙ ap (little_number 8) (drop-append_seam front (little_bytes 8 size ++ rest))
    ∙ little_number-reads_back 8 size rest (omega arith)

pub head_at-head : (at size : ℕ) (k : SectionKind) (rest : List ℕ) → size < 2 ^ 63 → head_at at (head_bytes k size ++ rest) ≡ Ok (record { kind = k; size = size })
unfolding head_at
head_at-head at size k rest fits =
    let low = low_kind k in
    let small : nat_lt 4 (kind_number k) ≡ false = le-ltb 4 (kind_number k) (omega arith) in
    let positive : nat_le (2 ^ 63) size ≡ false = grind (arith, common_steps) in
    rw (number-of_head size k rest, size-of_head size k rest (omega arith), small, positive, kind_of-number k) refl
