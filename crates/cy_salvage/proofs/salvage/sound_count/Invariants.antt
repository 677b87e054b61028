use Rattle.std.proofs.Common.{◌≡◌, map, take, drop, Option}
use Rattle.cy_section.specs.declared.error.SectionError.{SectionError}
use Rattle.cy_salvage.specs.Salvage.{until_fault}
use Rattle.cy_cut.specs.Cutting.{seen_part}
use Rattle.cy_salvage.specs.private.Salvaging.{AreJudged}
use Rattle.cy_salvage.proofs.Salvaging.{behind}
use Rattle.cy_salvage.proofs.salvage.sound_count.Given as goal

abbrev pub invariant-loop-count : goal.invariant-loop-count
invariant-loop-count g l = record {
  judged : AreJudged l.parts l.told-items;
  so_far : (fault : Option SectionError) → until_fault (map seen_part l.parts) fault ≡ behind (take l.count l.parts) (until_fault (map seen_part (drop l.count l.parts)) fault);
}
