-- Laws on the traces of runs.
use Rattle.std.specs.Prelude.{ℕ, ◌≡◌, ◌≤◌, List, length, slice_get, Some, Result}
use Rattle.std.specs.Prelude.{IfOk}
use Rattle.std.specs.Str.{IsUtf8}
use Rattle.cy_msg.specs.declared.token.Token.{Token}
use Rattle.cy_comp.specs.declared.answers.Answer.{Answer}
use Rattle.cy_comp.specs.declared.plan.Plan.{Plan}
use Rattle.cy_comp.specs.Laws.{IsGiven}
use Rattle.cy_comp.specs.Wiring.{IsWiring}
use Rattle.wake_core.specs.declared.entries.TheConstants.{MOST_PLANNED}
use Rattle.wake_core.specs.Plain.{Plain}
use Rattle.wake_core.specs.Planned.{planned}
use Rattle.wake_core.specs.Rest.{run_shown}
use Rattle.wake_core.specs.Run.{Run, routes_of, played_of}
use Rattle.wake_core.specs.Sound.{Sound}
use Rattle.cy_trace.specs.declared.error.TraceError.{TraceError}
use Rattle.cy_trace.specs.declared.trace.Trace.{Trace}
use Rattle.cy_trace.specs.TraceForm.{IsLong, IsShort, IsTrace, IsValue, ReadsTrace, text_of_trace}
use Rattle.cy_trace.specs.TraceOfRun.{trace_of_run}
use Rattle.cy_trace_text.specs.TraceText.{trace_text}

-- What is written of a run is the text of its trace.
abbrev pub RunsAreTraces : Type 0
RunsAreTraces = (names : List (List ℕ)) (plans : List Plan) (shadowed : ℕ) (w : Run)
    → trace_text names plans shadowed w ≡ text_of_trace (trace_of_run names plans shadowed w)

-- A world was made for these components over channels with these names, and for no more planned
-- entries than a world keeps.
pub record IsOf (names : List (List ℕ)) (plans : List Plan) (w : Plain) : Type 0 where
  pub wiring : IsWiring names plans
  pub routes : w.routes ≡ routes_of plans
  pub channels : length w.counts ≡ length names
  pub limited : planned w.routes w.counts ≤ MOST_PLANNED

-- The time and the value of a message fit 64 bits.
abbrev pub Suits : Token → Type 0
Suits m = IsLong m.time × IsValue m.whole

-- What values of the code's types keep: names are texts, and what is played and what classes have
-- from files fits 64 bits.
pub record AreTyped (names : List (List ℕ)) (plans : List Plan) (w : Plain) : Type 0 where
  pub channels : (n : ℕ) (name : List ℕ) → slice_get names n ≡ Some name → IsUtf8 name
  pub components : (c : ℕ) (p : Plan) → slice_get plans c ≡ Some p → IsUtf8 p.name
  pub answers : (c : ℕ) (p : Plan) (a : Answer) → slice_get plans c ≡ Some p → IsGiven p.kind a
      → IsValue a.whole
  pub played : (n : ℕ) (t : Token) → slice_get (played_of w.routes w.tape) n ≡ Some t → Suits t

-- The numbers of every sound world fit those of a trace,
abbrev pub RunsFit : Type 0
RunsFit = (names : List (List ℕ)) (plans : List Plan) (shadowed : ℕ) (w : Plain)
    → IsOf names plans w → AreTyped names plans w → IsShort shadowed → Sound w
    → IsTrace (trace_of_run names plans shadowed (run_shown w))

-- so that what is written of it is read back as its trace.
abbrev pub RunsReadBack : Type 0
RunsReadBack = (names : List (List ℕ)) (plans : List Plan) (shadowed : ℕ) (w : Plain)
    → IsOf names plans w → AreTyped names plans w → IsShort shadowed → Sound w
    → (result : Result Trace TraceError)
    → ReadsTrace (trace_text names plans shadowed (run_shown w)) result
    → IfOk result (λ t. t ≡ trace_of_run names plans shadowed (run_shown w))
