use Rattle.std.proofs.Common.{◌≡◌, ◌-◌, ◌<◌, ◌≤◌, ◌∷◌, [], ℕ, length}
use Rattle.cy_cut.specs.Sections.{sections_in, sections_from, header_end}
use Rattle.cy_reader.specs.Record.{nothing}
use Rattle.cy_reader.specs.private.Loading.{IsSound, met_of}
use Rattle.cy_reader.proofs.Meeting.{finish}
use Rattle.cy_reader.proofs.loading.add_sections.Given as goal

abbrev pub invariant-loop-loading : goal.invariant-loop-loading
invariant-loop-loading l =
    (more : ℕ) × (length l.file - l.at < more) × (l.at ≤ length l.file) × IsSound 1 l.loading
    × (finish (met_of (l.file ∷ []) l.loading) (sections_in more l.file l.at) ≡ finish nothing (sections_from l.file header_end)) × (length l.loading.messages.items ≤ l.at)

abbrev pub decreases-loop-loading : goal.decreases-loop-loading
decreases-loop-loading l = length l.file - l.at
