-- The line that tells what a run came to, count by count.
use Rattle.std.proofs.Common.{ℕ, List, ◌++◌, ◌≡◌, append_assoc, codes}
use Rattle.std.specs.Fmt.{decimal}
use Rattle.cy_report.specs.Summary.{counts_line}

-- five texts one behind another, each but the last of two parts
joined : (old a b c d e f g h i : List ℕ)
    → ((((old ++ (a ++ b)) ++ (c ++ d)) ++ (e ++ f)) ++ (g ++ h)) ++ i ≡ old ++ (a ++ b ++ c ++ d ++ e ++ f ++ g ++ h ++ i)
joined old a b c d e f g h i = simp append_assoc

-- the parts of the line, behind some bytes
pub counts_line-parts : (old front : List ℕ) (played shadowed calls written : ℕ)
    → ((((old ++ (front ++ decimal played)) ++ (codes ", shadowed " ++ decimal shadowed))
    ++ (codes ", calls " ++ decimal calls)) ++ (codes ", written " ++ decimal written)) ++ codes "\n"
    ≡ old ++ counts_line front played shadowed calls written
counts_line-parts old front played shadowed calls written =
    joined old front (decimal played) (codes ", shadowed ") (decimal shadowed) (codes ", calls ")
    (decimal calls) (codes ", written ") (decimal written) (codes "\n")
