use Rattle.std.proofs.Common.{◌∙◌, drop, refl, ap}
use Rattle.cy_section.specs.declared.types.SectionKind.TheVariants as kind
use Rattle.cy_section.specs.Section.{section}
use Rattle.cy_writer.proofs.Chunks.{headed, finished}
use Rattle.cy_writer.proofs.chunk.Chunk.finish.Goals as goal

pub invariant_of-self : goal.invariant_of-self
invariant_of-self c = record { headed = λ _. headed kind.ChunkBody (drop 16 c.args.self.now.section) c.set_head.new.piece c.set_head.ensures }

pub returns-clause-same : goal.returns-clause-same
returns-clause-same c messages held = finished c.args.self.now _ messages held refl refl c.set_head.ensures

pub returns-clause-section : goal.returns-clause-section
returns-clause-section c messages held = c.set_head.ensures ∙ ap (section kind.ChunkBody) held.body
