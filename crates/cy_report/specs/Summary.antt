-- The line that tells what a run came to.
use Rattle.std.specs.Prelude.{ℕ, List, ◌++◌, codes}
use Rattle.std.specs.Fmt.{decimal}

-- A line with the numbers of a run, behind these words.
abbrev pub counts_line : (front : List ℕ) → (played shadowed calls written : ℕ) → List ℕ
counts_line front played shadowed calls written =
    front ++ decimal played ++ codes ", shadowed " ++ decimal shadowed
    ++ codes ", calls " ++ decimal calls
    ++ codes ", written " ++ decimal written ++ codes "\n"

-- That of a run which was made, and that of one of which a trace was found to tell.
abbrev pub summary_line : (played shadowed calls written : ℕ) → List ℕ
summary_line played shadowed calls written =
    counts_line (codes "done: played ") played shadowed calls written

abbrev pub lawful_line : (played shadowed calls written : ℕ) → List ℕ
lawful_line played shadowed calls written =
    counts_line (codes "lawful: played ") played shadowed calls written
