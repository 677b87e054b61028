use Rattle.std.proofs.Common.{◌≡◌, ◌++◌, ℕ, drop, length}
use Rattle.std.specs.List.{All}
use Rattle.wake_core.specs.Run.{routes_of, played_of}
use Rattle.wake_core.specs.Rest.{run_shown}
use Rattle.wake_core.specs.WorldOf.{plain_of}
use Rattle.cy_trace_text.specs.TraceText.{components_text, title, played_line}
use Rattle.cy_trace.specs.LineParts.{version_of}
use Rattle.cy_trace_text.specs.Parts.{parts_text, IsPartOf}
use Rattle.cy_trace_text.proofs.parts.trace_parts.Given as goal

abbrev pub invariant-loop-component : goal.invariant-loop-component
invariant-loop-component l = record {
  fit : All (IsPartOf l.wiring.plans (run_shown (plain_of l.world))) l.parts.items;
  text : (shadowed : ℕ) → parts_text l.wiring.names l.wiring.plans shadowed (run_shown (plain_of l.world)) l.parts.items
      ++ components_text (version_of l.wiring.plans) (run_shown (plain_of l.world)) l.component (drop l.component l.wiring.plans)
      ≡ title (version_of l.wiring.plans) ++ played_line (length (played_of (routes_of l.wiring.plans) (plain_of l.world).tape)) shadowed
      ++ components_text (version_of l.wiring.plans) (run_shown (plain_of l.world)) 0 l.wiring.plans;
}
