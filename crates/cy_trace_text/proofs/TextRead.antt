-- That a world's trace is read back.
use Rattle.std.proofs.Common.{ℕ, ◌≤◌, ◌≡◌, ◌∙◌, ap, subst, sym, List, Bool, length, slice_get, get_or, Some}
use Rattle.std.specs.Prelude.{filter, not, is_some}
use Rattle.std.proofs.lemmas.List.Elements.{All-filter}
use Rattle.std.proofs.lemmas.Option.{slice_get-get_or, get_or_from_slice_get, slice_get_within}
use Rattle.std.specs.Str.{IsUtf8}
use Rattle.cy_msg.specs.declared.token.Token.{Token}
use Rattle.cy_comp.specs.declared.plan.Plan.{Plan}
use Rattle.cy_comp.specs.Wiring.{IsWiring}
use Rattle.cy_trace_text.proofs.StepSuits.{GivenSuit}
use Rattle.wake_core.specs.declared.entries.TheConstants.{MOST_PLANNED}
use Rattle.wake_core.specs.Plain.{Plain}
use Rattle.wake_core.specs.Planned.{planned}
use Rattle.wake_core.specs.Rest.{run_shown}
use Rattle.wake_core.specs.Run.{played_of, routes_of, writes_from}
use Rattle.wake_core.specs.Sound.{Sound}
use Rattle.cy_trace_text.specs.Laws.{Suits, IsOf, AreTyped, RunsFit, RunsAreTraces}
use Rattle.cy_trace.specs.TraceForm.{IsTrace, IsTraceText, IsShort}
use Rattle.cy_trace.specs.TraceOfRun.{trace_of_run}
use Rattle.cy_trace_text.specs.TraceText.{trace_text}

-- What holds of all messages holds of those that are kept of them.
kept_hold : (P : Token → Type 0) (keep : Token → Bool) (ts : List Token) → ((n : ℕ) (t : Token) → slice_get ts n ≡ Some t → P t) → (n : ℕ) (t : Token) → slice_get (filter keep ts) n ≡ Some t → P t
kept_hold P keep ts all n t here =
    let each = All-filter keep P ts (λ k d low. all k (get_or ts k d) (slice_get-get_or ts k d low)) in
    subst P (get_or_from_slice_get (filter keep ts) n t t here) (each n t (slice_get_within (filter keep ts) n t here))

-- What is written of a sound world is the text of a trace, where no more is planned than a world keeps.
pub text_is_read : (names : List (List ℕ)) (plans : List Plan) (shadowed : ℕ) (w : Plain) → IsWiring names plans → w.routes ≡ routes_of plans → length w.counts ≡ length names → ((n : ℕ) (name : List ℕ) → slice_get names n ≡ Some name → IsUtf8 name) → ((c : ℕ) (p : Plan) → slice_get plans c ≡ Some p → IsUtf8 p.name) → ((c : ℕ) (p : Plan) → slice_get plans c ≡ Some p → GivenSuit p.kind) → ((n : ℕ) (t : Token) → slice_get w.tape n ≡ Some t → Suits t) → IsShort shadowed → Sound w → RunsFit → RunsAreTraces → planned w.routes w.counts ≤ MOST_PLANNED → IsTraceText (trace_text names plans shadowed (run_shown w))
text_is_read names plans shadowed w wiring routes channels texts named given suit short sound fit same limited =
    let of : IsOf names plans w = record { wiring = wiring; routes = routes; channels = channels; limited = limited } in
    let typed : AreTyped names plans w = record {
      channels = texts;
      components = named;
      answers = λ c p a at is. given c p at a is;
      played = kept_hold Suits (λ t. not (is_some (writes_from 0 w.routes t.channel))) w.tape suit;
    } in
    (trace_of_run names plans shadowed (run_shown w), fit names plans shadowed w of typed short sound, same names plans shadowed (run_shown w))

-- So has a world in which these messages were played a trace of the form.
pub traces_fit : (names : List (List ℕ)) (plans : List Plan) (shadowed : ℕ) (messages : List Token) → IsWiring names plans → ((n : ℕ) (name : List ℕ) → slice_get names n ≡ Some name → IsUtf8 name) → ((c : ℕ) (p : Plan) → slice_get plans c ≡ Some p → IsUtf8 p.name) → ((c : ℕ) (p : Plan) → slice_get plans c ≡ Some p → GivenSuit p.kind) → ((n : ℕ) (t : Token) → slice_get messages n ≡ Some t → Suits t) → IsShort shadowed → RunsFit → (w : Plain) → w.routes ≡ routes_of plans → length w.counts ≡ length names → planned w.routes w.counts ≤ MOST_PLANNED → played_of w.routes w.tape ≡ messages → Sound w → IsTrace (trace_of_run names plans shadowed (run_shown w))
traces_fit names plans shadowed messages wiring texts named given suit short fit w routes channels limited same sound =
    let of : IsOf names plans w = record { wiring = wiring; routes = routes; channels = channels; limited = limited } in
    let typed : AreTyped names plans w = record {
      channels = texts;
      components = named;
      answers = λ c p a at is. given c p at a is;
      played = λ n t at. suit n t (ap (λ (l : List Token). slice_get l n) (sym same) ∙ at);
    } in
    fit names plans shadowed w of typed short sound
