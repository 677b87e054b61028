use Rattle.std.proofs.Common.{subst}
use Rattle.cy_reader.specs.Said.{StandOnChannels}
use Rattle.cy_salvage.specs.Joined.{Gathered}
use Rattle.cy_salvage.proofs.merged.Merged.loaded.Goals as goal

pub returns-clause-stand : goal.returns-clause-stand
returns-clause-stand c =
    subst (λ (g : Gathered). StandOnChannels g.met.channels g.met.messages) c.self.view_is
    (record { once = c.self.invariant.once; on_channels = c.loaded.ensures.stand })
