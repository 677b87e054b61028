-- The component that passes messages on is wired.
use Rattle.std.proofs.Common.{ℕ, ◌≡◌, ◌≢◌, ◌∙◌, Bool, true, false, if◌then◌else◌, nat_lt, List, [], ◌∷◌, ◌++◌, length, Option, Some, None, refl, sym, ap}
use Rattle.std.specs.Option.{option_or}
use Rattle.std.specs.Str.{bytes_eq}
use Rattle.std.proofs.lemmas.Slice.Eq.{bytes_eq-Decides}
use Rattle.cy_store.specs.Reads.{Reads, Accepts, Refuses}
use Rattle.cy_wiring.specs.Given.{differs_refusal, written_refusal}
use Rattle.cy_dag.specs.DagFile.{count_of, refuse_if}
use Rattle.cy_wiring.specs.Triggers.{writers_refusal, ticks_refusal, cycle_refusal, way_back, writer_named}
use Rattle.cy_wiring.specs.Wiring.{named, wire_refusal, channels_refusal}
use Rattle.cy_dag.specs.declared.error.DagError.{DagError}
use Rattle.cy_dag.specs.declared.error.DagError.TheVariants.{TooManyChannels}
use Rattle.cy_setup.specs.declared.error.Fault.TheVariants as fault
use Rattle.cy_setup.specs.declared.error.Refusal.{Refusal}
use Rattle.cy_setup.specs.Faults.{in_file, unless}
use Rattle.cy_setup.specs.Passing.{PassIsWired, pass_component, pass_config, pass_wired}
use Rattle.cy_setup.specs.Wiring.{Wired}

-- it doesn't trigger itself
no_writer : (b : Bool) (from to message_type : List ℕ) → bytes_eq to from ≡ b → from ≢ to → writer_named (pass_config to message_type ∷ []) from ≡ None
no_writer true from to message_type e differ = absurd (differ (sym ((bytes_eq-Decides to from).0 e)))
no_writer false from to message_type e differ = rw e refl

no_cycle : (trigger : Option ℕ) → trigger ≡ None → cycle_refusal (trigger ∷ []) ≡ None
unfolding cycle_refusal way_back
no_cycle trigger e = rw e refl

writes_alone : (to message_type : List ℕ) → writers_refusal (pass_config to message_type ∷ []) ≡ None
unfolding writers_refusal
writes_alone to message_type = refl

no_ticks : (from to message_type : List ℕ) → ticks_refusal (pass_component from ∷ []) (pass_config to message_type ∷ []) ≡ None
unfolding ticks_refusal
no_ticks from to message_type = refl

-- so only its channels may be too many
last_stands : (found : Option DagError) → option_or found None ≡ found
last_stands None = refl
last_stands (Some e) = refl

refused_alone : (from to message_type : List ℕ) (channels : List (List ℕ)) → from ≢ to
    → wire_refusal channels (pass_component from ∷ []) (pass_config to message_type ∷ []) ≡ channels_refusal (length (named (channels ++ from ∷ to ∷ [])))
unfolding differs_refusal written_refusal
refused_alone from to message_type channels differ =
    let found = channels_refusal (length (named (channels ++ from ∷ to ∷ []))) in
    let cycle = no_cycle (writer_named (pass_config to message_type ∷ []) from) (no_writer (bytes_eq to from) from to message_type refl differ) in
    let rest = option_or (cycle_refusal (writer_named (pass_config to message_type ∷ []) from ∷ [])) (option_or found None) in
    ap (λ (w : Option DagError). option_or (option_or w (option_or (ticks_refusal (pass_component from ∷ []) (pass_config to message_type ∷ [])) None)) rest) (writes_alone to message_type)
    ∙ ap (λ (t : Option DagError). option_or (option_or t None) rest) (no_ticks from to message_type)
    ∙ ap (λ (c : Option DagError). option_or c (option_or found None)) cycle ∙ last_stands found

by_count : (many : Bool) (file : List ℕ) (count : ℕ) (w : Wired) → in_file file fault.Dag (unless (refuse_if many (TooManyChannels (count_of count))) w)
    ≡ (let r : Reads Refusal Wired = if many then Refuses record { file = file; fault = fault.Dag (TooManyChannels (count_of count)) } else Accepts w in r)
by_count true file count w = refl
by_count false file count w = refl

pub pass_is_wired : PassIsWired
pass_is_wired file from to message_type channels differ =
    let names = named (channels ++ from ∷ to ∷ []) in
    ap (λ (refusal : Option DagError). in_file file fault.Dag (unless refusal (pass_wired names from to message_type))) (refused_alone from to message_type channels differ)
    ∙ by_count (nat_lt 1024 (length names)) file (length names) (pass_wired names from to message_type)
