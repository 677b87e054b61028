use Rattle.std.proofs.Common.{◌∙◌, refl, sym}
use Rattle.cy_tools.proofs.Searching.{missed, found}
use Rattle.cy_tools.proofs.kept.Kept.at.Goals as goal

pub returns-then-keeps : goal.returns-then-keeps
returns-then-keeps c = (
  refl,
  found c.args.self.now c.args.place c.message-channel.result.0 c.message-channel.result.1 c.requires.there c.requires.countable c.message-channel.ensures.message c.message-channel.ensures.channel
      (sym c.keeps.ensures ∙ c.if-keeps.true),
)

pub returns-else-keeps : goal.returns-else-keeps
returns-else-keeps c =
    missed c.args.self.now c.args.place c.message-channel.result.0 c.message-channel.result.1 c.requires.there c.message-channel.ensures.message (sym c.keeps.ensures ∙ c.if-keeps.false)
