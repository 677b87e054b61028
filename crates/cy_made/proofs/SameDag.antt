-- What a DAG file says, and why it is refused, is the same wherever its fields stand.
use Rattle.std.proofs.Common.{◌≡◌, ◌++◌, ℕ, List, [], ◌∷◌, Option, Some, None, option_map, unwrap_or, length, map, codes, refl, sym, ap, ◌∙◌}
use Rattle.std.proofs.lemmas.List.{map-append, length-map}
use Rattle.std.specs.List.{flat_map}
use Rattle.std.specs.Option.{option_or}
use Rattle.cy_text.specs.Fields.{Fields, Nothing}
use Rattle.cy_text.specs.Printable.{without_spans}
use Rattle.cy_config.specs.Checks.{first_misfit}
use Rattle.cy_config.specs.Lookups.{message_under, messages_under}
use Rattle.cy_config.specs.Refusals.{first_of}
use Rattle.cy_dag.specs.DagFile.{component_of, component_refusal, components_of, dag_refusal, described_refusal, in_modules, interval_of, interval_refusal, reader_of, settings_of, text_in, timer_of, timer_refusal, timers_refusal}
use Rattle.cy_dag.specs.Format.{dag_field}
use Rattle.cy_dag.specs.declared.dag.DagComponent.{DagComponent}
use Rattle.cy_dag.specs.declared.error.DagError.{DagError}
use Rattle.cy_dag.specs.declared.error.DagError.TheVariants.{Shape}
use Rattle.cy_dag.specs.declared.format.DagMessage.TheVariants.{File}
use Rattle.cy_made.proofs.SameFields.{message_same, messages_same, misfit_same, text_same, whole_same}

-- each of a list
mapped_same : {A : Type 0} (f : Fields → A) (xs : List Fields) → ((x : Fields) → f (without_spans x) ≡ f x) → map f (map without_spans xs) ≡ map f xs
mapped_same f [] same = refl
mapped_same f (x ∷ xs) same = rw (same x, mapped_same f xs same) refl

-- the message there is, or none
or_nothing : (o : Option Fields) → unwrap_or (option_map without_spans o) Nothing ≡ without_spans (unwrap_or o Nothing)
or_nothing None = refl
or_nothing (Some fields) = refl

settings_same : (fields : Fields) → settings_of (without_spans fields) ≡ without_spans (settings_of fields)
settings_same fields = rw (message_same (codes "config") fields) (or_nothing (message_under (codes "config") fields))

text_there : (name : List ℕ) (fields : Fields) → text_in name (without_spans fields) ≡ text_in name fields
text_there name fields = rw (text_same name fields) refl

reader_same : (fields : Fields) → reader_of (without_spans fields) ≡ reader_of fields
reader_same fields = rw (text_same (codes "channel") fields, whole_same (codes "pending_queue_size") fields) refl

component_same : (fields : Fields) → component_of (without_spans fields) ≡ component_of fields
component_same fields =
    rw (
      settings_same fields,
      text_same (codes "class_name") fields,
      text_same (codes "name") (settings_of fields),
      text_same (codes "config_file_path") (settings_of fields),
      messages_same (codes "readers") (settings_of fields),
      mapped_same reader_of (messages_under (codes "readers") (settings_of fields)) reader_same,
    ) refl

interval_same : (fields : Fields) → interval_of (without_spans fields) ≡ interval_of fields
interval_same fields = rw (settings_same fields, whole_same (codes "interval") (settings_of fields)) refl

timer_same : (fields : Fields) → timer_of (without_spans fields) ≡ timer_of fields
timer_same fields =
    rw (
      settings_same fields,
      text_same (codes "class_name") fields,
      text_same (codes "name") (settings_of fields),
      text_same (codes "config_file_path") (settings_of fields),
      whole_same (codes "interval") (settings_of fields),
    ) refl

-- the messages of all modules
flat_same : (name : List ℕ) (modules : List Fields) → flat_map (messages_under name) (map without_spans modules) ≡ map without_spans (flat_map (messages_under name) modules)
flat_same name [] = refl
flat_same name (m ∷ rest) =
    rw (messages_same name m, flat_same name rest) (sym (map-append without_spans (messages_under name m) (flat_map (messages_under name) rest)))

modules_same : (name : List ℕ) (file : Fields) → in_modules name (without_spans file) ≡ map without_spans (in_modules name file)
modules_same name file = rw (messages_same (codes "module_config") file) (flat_same name (messages_under (codes "module_config") file))

pub components_same : (file : Fields) → components_of (without_spans file) ≡ components_of file
components_same file =
    rw (
      modules_same (codes "components") file,
      modules_same (codes "timer_components") file,
      mapped_same component_of (in_modules (codes "components") file) component_same,
      mapped_same timer_of (in_modules (codes "timer_components") file) timer_same,
    ) refl

-- Refusals.

timer_refused : (earlier : List DagComponent) (timer : Fields) → timer_refusal earlier (without_spans timer) ≡ timer_refusal earlier timer
timer_refused earlier timer =
    ap (λ (c : DagComponent). first_of (component_refusal earlier c ∷ interval_refusal (length earlier) (interval_of (without_spans timer)) ∷ [])) (timer_same timer)
    ∙ ap (λ (i : Option ℕ). first_of (component_refusal earlier (timer_of timer) ∷ interval_refusal (length earlier) i ∷ [])) (interval_same timer)

timers_refused : (earlier : List DagComponent) (timers : List Fields) → timers_refusal earlier (map without_spans timers) ≡ timers_refusal earlier timers
timers_refused earlier [] = refl
timers_refused earlier (t ∷ rest) =
    ap (λ (r : Option DagError). option_or r (timers_refusal (earlier ++ timer_of (without_spans t) ∷ []) (map without_spans rest))) (timer_refused earlier t)
    ∙ ap (λ (c : DagComponent). option_or (timer_refusal earlier t) (timers_refusal (earlier ++ c ∷ []) (map without_spans rest))) (timer_same t)
    ∙ ap (option_or (timer_refusal earlier t)) (timers_refused (earlier ++ timer_of t ∷ []) rest)

described_same : (components timers : List Fields) → described_refusal (map without_spans components) (map without_spans timers) ≡ described_refusal components timers
described_same components timers =
    rw (length-map components without_spans, length-map timers without_spans, mapped_same component_of components component_same, timers_refused (map component_of components) timers) refl

pub dag_same : (file : Fields) → dag_refusal (without_spans file) ≡ dag_refusal file
dag_same file =
    rw (misfit_same dag_field File [] file, modules_same (codes "components") file, modules_same (codes "timer_components") file)
    (ap (λ (r : Option DagError). first_of (option_map (λ path. Shape path) (first_misfit dag_field File [] file) ∷ r ∷ []))
    (described_same (in_modules (codes "components") file) (in_modules (codes "timer_components") file)))
