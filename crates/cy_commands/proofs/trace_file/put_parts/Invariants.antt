use Rattle.std.proofs.Common.{length}
use Rattle.std.specs.List.{All}
use Rattle.cy_trace_text.specs.Parts.{IsPartOf, parts_text}
use Rattle.wake_core.specs.Rest.{run_shown}
use Rattle.wake_core.specs.WorldOf.{plain_of}
use Rattle.cy_commands.proofs.PiecesPut.{IsPutSoFar}
use Rattle.cy_commands.proofs.trace_file.put_parts.Given as goal

abbrev pub invariant-loop-rest : goal.invariant-loop-rest
invariant-loop-rest g l = record {
  fit : All (IsPartOf l.wiring.plans (run_shown (plain_of l.world))) l.rest;
  far : IsPutSoFar l.name (parts_text l.wiring.names l.wiring.plans l.shadowed (run_shown (plain_of l.world)) l.parts) (parts_text l.wiring.names l.wiring.plans l.shadowed (run_shown (plain_of l.world)) l.rest) l.at
      (g.S.Store.shows l.fn.store) (g.S.Store.shows l.store);
}

abbrev pub decreases-loop-rest : goal.decreases-loop-rest
decreases-loop-rest g l = length l.rest
