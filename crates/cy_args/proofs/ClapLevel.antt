-- A command that takes its words, and what it keeps of them.
use Rattle.std.proofs.Common.{◌≡◌, ◌&&◌, ℕ, List, [], ◌∷◌, ◌++◌, Bool, true, false, not, Option, Some, None, is_some, if◌then◌else◌, cond, refl, sym, ap, ◌∙◌, subst}
use Rattle.std.proofs.Common.{codes, option_map, bytes_eq, append-nil}
use Rattle.std.specs.Prelude.{option_and_then, slice_get}
use Rattle.std.specs.List.{find, fold, list_all}
use Rattle.std.specs.Option.{option_map_or, option_or}
use Rattle.std.proofs.lemmas.List.Folds.{find-append}
use Rattle.clap.specs.Walk.{Held, Names, Row, Text, Walk, answers_to, finished, has_row, more_values, nothing_held, reading_by, rows_after, stop_after, with_values, walk, walk_from, walked, with_default}
use Rattle.clap.specs.Simple.{App, Shape, entered, index_after, label_of, names_of}
use Rattle.clap.specs.Takes.{built_takes, default_passes, entered_passes, is_valid, level_passes, settle_passes, turn_passes, walk_passes}
use Rattle.clap.specs.declared.parser.matches.ValueSource.TheVariants.{DefaultValue}
use Rattle.clap.proofs.WalkLemmas.{both, walk_stopped}
use Rattle.cy_args.specs.private.Kept.{kept_as}
use Rattle.cy_args.specs.Options.{Flag, Kind, Known, Options, Place, Value, is_flag, kind_of}
use Rattle.cy_args.specs.private.Program.{rule_of_known}
use Rattle.cy_args.proofs.OptionsRead.{none_of, same_name}
use Rattle.cy_args.proofs.ClapOptions.{Shows, built_as, built_at, built_from, has_id, missing_row, row_there}
use Rattle.cy_args.proofs.ClapWalk.{GoesTo, Settles}

-- ---- one level

-- the command's defaults pass, and it asks for nothing that may be missing
pub record IsOpen (s : Shape) : Type 0 where
  pub defaults : list_all default_passes s.rules ≡ true
  pub valid : (rows : List Row) → is_valid s rows false ≡ true

pub level_ends : (s : Shape) (h : Held) (words : List Text) (to : Walk) → GoesTo s (walk_from h) words to → walk s.rules [] h words ≡ to
level_ends s h words to goes = ap (fold (walked s.rules []) (walk_from h)) (sym (append-nil words)) ∙ goes.walks []

pub level_taken : (s : Shape) (h : Held) (words : List Text) (to : Walk) → IsOpen s → GoesTo s (walk_from h) words to → Settles s to.held → level_passes s [] h words false ≡ true
unfolding walk_passes
level_taken s h words to is_open goes settles =
    let passed = ap (walk_passes s [] (walk_from h)) (sym (append-nil words)) ∙ goes.passes [] refl in
    let rest : Held → Bool = λ end. settle_passes s.rules s.args_override_self end && (list_all default_passes s.rules && is_valid s (finished s.rules end) false) in
    ap (λ (t : Bool). t && rest (walk s.rules [] h words).held) passed
    ∙ (ap (λ (w : Walk). rest w.held) (level_ends s h words to goes)
    ∙ (ap (λ (t : Bool). t && (list_all default_passes s.rules && is_valid s (finished s.rules to.held) false)) settles
    ∙ (ap (λ (t : Bool). t && is_valid s (finished s.rules to.held) false) is_open.defaults ∙ is_open.valid (finished s.rules to.held))))

pub level_rows : (s : Shape) (words : List Text) (to : Walk) → GoesTo s (walk_from nothing_held) words to → rows_after s.rules [] words ≡ finished s.rules to.held
level_rows s words to goes = ap (λ (w : Walk). finished s.rules w.held) (level_ends s nothing_held words to goes)

-- ---- the command above it

-- its commands are entered by their names
pub record Enters (a : App) (name : Text) (sub : Shape) : Type 0 where
  pub met : walked a.top.rules (names_of a) (walk_from nothing_held) name ≡ record (walk_from nothing_held) { stopped = Some (name, []) }
  pub asked : turn_passes a.top (names_of a) (walk_from nothing_held) name ≡ true
  pub found : find (λ s. answers_to name (label_of s)) a.subs ≡ Some sub
  pub defaults : list_all default_passes a.top.rules ≡ true
  pub valid : (rows : List Row) → is_valid a.top rows true ≡ true

stopped_passes : (s : Shape) (names : Names) (w : Walk) (p : Text × List Text) (words : List Text) → walk_passes s names (record w { stopped = Some p }) words ≡ true
unfolding walk_passes walked
stopped_passes s names w p [] = refl
stopped_passes s names w p (x ∷ xs) = stopped_passes s names w (p.0, p.1 ++ x ∷ []) xs

abbrev inside : Text → List Text → Walk
inside name words = record (walk_from nothing_held) { stopped = Some (name, words) }

top_walk : (a : App) (name : Text) (words : List Text) (sub : Shape) → Enters a name sub → walk a.top.rules (names_of a) nothing_held (name ∷ words) ≡ inside name words
top_walk a name words sub e =
    ap (λ (w : Walk). fold (walked a.top.rules (names_of a)) w words) e.met ∙ sym (walk_stopped a.top.rules (names_of a) (walk_from nothing_held) name [] words)

top_passes : (a : App) (name : Text) (words : List Text) (sub : Shape) → Enters a name sub → walk_passes a.top (names_of a) (walk_from nothing_held) (name ∷ words) ≡ true
unfolding walk_passes
top_passes a name words sub e =
    ap (λ (t : Bool). t && walk_passes a.top (names_of a) (walked a.top.rules (names_of a) (walk_from nothing_held) name) words) e.asked
    ∙ (ap (λ (w : Walk). walk_passes a.top (names_of a) w words) e.met ∙ stopped_passes a.top (names_of a) (walk_from nothing_held) (name, []) words)

pub entered_at : (a : App) (name : Text) (words : List Text) (sub : Shape) → Enters a name sub
    → entered a (stop_after a.top.rules (names_of a) (name ∷ words)) ≡ Some (sub.name, rows_after sub.rules [] words)
entered_at a name words sub e =
    ap (λ (w : Walk). entered a w.stopped) (top_walk a name words sub e)
    ∙ ap (option_map (λ (s : Shape). (s.name, rows_after s.rules [] words))) e.found

pub taken_at : (a : App) (name : Text) (words : List Text) (sub : Shape) → Enters a name sub → level_passes sub [] nothing_held words false ≡ true
    → built_takes a nothing_held (name ∷ words) ≡ true
taken_at a name words sub e level =
    let stop = (walk a.top.rules (names_of a) nothing_held (name ∷ words)).stopped in
    let inner : entered_passes a stop ≡ true =
    ap (λ (w : Walk). entered_passes a w.stopped) (top_walk a name words sub e)
    ∙ (ap (λ (x : Option Shape). option_map_or (λ s. level_passes s [] nothing_held words false) x true) e.found ∙ level) in
    let is_in : is_some (entered a stop) ≡ true = ap is_some (entered_at a name words sub e) in
    let rest : Bool → Held → Bool = λ has end. settle_passes a.top.rules a.top.args_override_self end && (list_all default_passes a.top.rules && is_valid a.top (finished a.top.rules end) has) in
    ap (λ (t : Bool). t && level_passes a.top (names_of a) nothing_held (name ∷ words) (is_some (entered a stop))) inner
    ∙ (ap (λ (t : Bool). level_passes a.top (names_of a) nothing_held (name ∷ words) t) is_in
    ∙ (ap (λ (t : Bool). t && rest true (walk a.top.rules (names_of a) nothing_held (name ∷ words)).held) (top_passes a name words sub e)
    ∙ (ap (λ (w : Walk). rest true w.held) (top_walk a name words sub e)
    ∙ (ap (λ (t : Bool). t && is_valid a.top (finished a.top.rules nothing_held) true) e.defaults ∙ e.valid (finished a.top.rules nothing_held)))))

-- ---- what is kept of options, and the defaults

same_either : (b : Bool) (rows : List Row) → (if b then rows else rows) ≡ rows
same_either true rows = refl
same_either false rows = refl

or_none : (x : Option Row) → option_or x None ≡ x
or_none None = refl
or_none (Some r) = refl

-- a flag that isn't given
abbrev default_row : Text → Row
default_row name = record {
  id = name;
  values = codes "false" ∷ [];
  count = None;
  source = Some DefaultValue;
  reading = reading_by (built_as name Flag);
}

abbrev shown_of : List Known → Text → Option Row → Option Text
shown_of known name found = kept_as (not (is_flag (kind_of known name))) (option_and_then (λ (r : Row). slice_get r.values 0) found)

flag_default : (known : List Known) (flag : Text) (o : Options) (rows : List Row) → is_flag (kind_of known flag) ≡ true → find (has_id flag) rows ≡ None → Shows known o rows
    → Shows known o (rows ++ default_row flag ∷ [])
flag_default known flag o rows is_one none shows name =
    ap (shown_of known name) (find-append (has_id name) rows (default_row flag ∷ [])) ∙ (by (bytes_eq flag name) refl ∙ shows name)
  where
    by : (t : Bool) → bytes_eq flag name ≡ t → shown_of known name (option_or (find (has_id name) rows) (cond t (Some (default_row flag)) None)) ≡ shown_of known name (find (has_id name) rows)
    by true is =
        let same = same_name flag name is in
        let absent = subst (λ (n : Text). find (has_id n) rows ≡ None) same none in
        ap (λ (x : Option Row). shown_of known name (option_or x (Some (default_row flag)))) absent
        ∙ (ap (λ (t : Bool). kept_as (not t) (Some (codes "false"))) (subst (λ (n : Text). is_flag (kind_of known n) ≡ true) same is_one) ∙ sym (ap (shown_of known name) absent))
    by false other = ap (shown_of known name) (or_none (find (has_id name) rows))

-- the command knows no flag as something else
abbrev pub knows_flag : List Known → Text → Kind → Bool
knows_flag known name Flag = is_flag (kind_of known name)
knows_flag known name kind = true

one_default : (known : List Known) (i : ℕ) (name : Text) (kind : Kind) (o : Options) (rows : List Row) → knows_flag known name kind ≡ true → Shows known o rows → Shows known o (with_default rows (built_at i name kind))
one_default known i name Place o rows first shows = subst (Shows known o) (sym (same_either (has_row name rows) rows)) shows
one_default known i name Value o rows first shows = subst (Shows known o) (sym (same_either (has_row name rows) rows)) shows
one_default known i name Flag o rows first shows = by (has_row name rows) refl
  where
    by : (t : Bool) → has_row name rows ≡ t → Shows known o (if t then rows else with_values name (reading_by (built_as name Flag)) DefaultValue (codes "false" ∷ []) rows)
    by true given = shows
    by false unused =
        let none = none_of (find (has_id name) rows) (sym (row_there name rows) ∙ unused) in
        subst (Shows known o) (sym (missing_row name (more_values DefaultValue (codes "false" ∷ [])) (default_row name ∷ []) rows none)) (flag_default known name o rows first none shows)

abbrev pub knows_flags : List Known → List Known → Bool
knows_flags known ks = list_all (λ k. knows_flag known k.name k.kind) ks

pub all_default : (known : List Known) (i : ℕ) (ks : List Known) (o : Options) (rows : List Row) → knows_flags known ks ≡ true → Shows known o rows → Shows known o (fold with_default rows (built_from i ks))
all_default known i [] o rows first shows = shows
all_default known i (k ∷ ks) o rows first shows =
    all_default known (index_after i (rule_of_known k)) ks o (with_default rows (built_at i k.name k.kind)) (both _ _ first).1 (one_default known i k.name k.kind o rows (both _ _ first).0 shows)
