use Rattle.std.proofs.Common.{◌<◌, subst, sym, ℕ}
use Rattle.cy_tools.proofs.Searching.{passed_over}
use Rattle.cy_tools.proofs.numbering.Numbering.look.Goals as goal

pub note-requires : goal.note-requires
note-requires c = subst (λ (n : ℕ). c.in-Some.found.channel < n) (sym c.requires.fits.all) c.in-Some.ensures.1.below

pub returns-in-None-clause-looked : goal.returns-in-None-clause-looked
returns-in-None-clause-looked c = passed_over c.args.kept.now c.args.place c.args.self.now c.in-None.ensures
