-- `clap` walks over options, and keeps the value of each.
use Rattle.std.proofs.Common.{◌≡◌, ◌<◌, ◌+◌, ◌==◌, ◌||◌, ℕ, List, [], ◌∷◌, ◌++◌, Bool, true, false, not, Option, Some, None, is_some, if◌then◌else◌, cond, refl, sym, ap, ◌∙◌, subst, min, true≢false, arith}
use Rattle.std.proofs.Common.{codes, flat_map, length, map, option_map, option_to_list, bytes_eq, append-nil}
use Rattle.std.specs.List.{find, list_all}
use Rattle.std.specs.Prelude.{slice_get}
use Rattle.clap.specs.Lexer.{usize_max}
use Rattle.clap.specs.Walk.{Row, Rule, Text, arg_by_id, arg_by_index, arg_by_long, at_row, first_of, has_row, more_values, reading_by, used, with_values}
use Rattle.clap.specs.Simple.{filled, filled_from, index_after, with_index}
use Rattle.clap.specs.declared.parser.matches.ValueSource.TheVariants.{CommandLine}
use Rattle.clap.proofs.WalkLemmas.{both}
use Rattle.cy_args.specs.private.Kept.{kept_as, options_in}
use Rattle.cy_args.specs.Options.{Alone, Apart, AreOptions, Filled, Flag, Given, Joined, Kind, Known, Options, Place, Value, is_flag, is_known, is_place, kind_of, name_in, places, value_in, values_under}
use Rattle.cy_args.specs.private.Program.{rule_of_known}
use Rattle.cy_args.proofs.OptionsRead.{flag_known, nothing, place_known, same_name, some_same, valued_known}

-- ---- what building makes of what a command knows

-- a row at a place has that place's number
abbrev pub built_at : ℕ → Text → Kind → Rule
built_at i name kind = with_index i (filled (rule_of_known (record { name = name; kind = kind })))

abbrev pub built_as : Text → Kind → Rule
built_as name kind = built_at 0 name kind

abbrev pub built_from : ℕ → List Known → List Rule
built_from i known = filled_from i (map rule_of_known known)

-- a command that is told of these finds each option by its name
long_step : (n : Text) (h : Kind) (known : List Known) (i : ℕ) (name : Text) (kind : Kind) → is_place (Some kind) ≡ false
    → ((j : ℕ) → kind_of known name ≡ Some kind → arg_by_long (built_from j known) name ≡ Some (built_as name kind))
    → kind_of (record { name = n; kind = h } ∷ known) name ≡ Some kind → arg_by_long (built_from i (record { name = n; kind = h } ∷ known)) name ≡ Some (built_as name kind)
long_step n Place known i name kind option rest e = by (bytes_eq n name) e
  where
    by : (t : Bool) → option_map (λ (k : Known). k.kind) (cond t (Some (record { name = n; kind = Place })) (find (λ (k : Known). bytes_eq k.name name) known)) ≡ Some kind
        → arg_by_long (built_from (index_after i (rule_of_known (record { name = n; kind = Place }))) known) name ≡ Some (built_as name kind)
    by true e = absurd (true≢false (ap is_place e ∙ option))
    by false e = rest _ e
long_step n Value known i name kind option rest e = by (bytes_eq n name) refl e
  where
    by : (t : Bool) → bytes_eq n name ≡ t → option_map (λ (k : Known). k.kind) (cond t (Some (record { name = n; kind = Value })) (find (λ (k : Known). bytes_eq k.name name) known)) ≡ Some kind
        → cond (t || false) (Some (built_at i n Value)) (arg_by_long (built_from i known) name) ≡ Some (built_as name kind)
    by true same e = λ x. Some (built_as (same_name n name same x) (some_same Value kind e x))
    by false other e = rest i e
long_step n Flag known i name kind option rest e = by (bytes_eq n name) refl e
  where
    by : (t : Bool) → bytes_eq n name ≡ t → option_map (λ (k : Known). k.kind) (cond t (Some (record { name = n; kind = Flag })) (find (λ (k : Known). bytes_eq k.name name) known)) ≡ Some kind
        → cond (t || false) (Some (built_at i n Flag)) (arg_by_long (built_from i known) name) ≡ Some (built_as name kind)
    by true same e = λ x. Some (built_as (same_name n name same x) (some_same Flag kind e x))
    by false other e = rest i e

long_found : (known : List Known) (i : ℕ) (name : Text) (kind : Kind) → is_place (Some kind) ≡ false → kind_of known name ≡ Some kind
    → arg_by_long (built_from i known) name ≡ Some (built_as name kind)
long_found [] i name kind option e = absurd (nothing kind e)
long_found (k ∷ known) i name kind option e = long_step k.name k.kind known i name kind option (λ j. long_found known j name kind option) e

abbrev pub FoundById : List Rule → Text → Kind → Type 0
FoundById c name kind = (j : ℕ) × (arg_by_id c name ≡ Some (built_at j name kind))

id_found : (known : List Known) (i : ℕ) (name : Text) (kind : Kind) → kind_of known name ≡ Some kind → FoundById (built_from i known) name kind
id_found [] i name kind e = absurd (nothing kind e)
id_found (k ∷ known) i name kind e = by (bytes_eq k.name name) refl (id_found known (index_after i (rule_of_known k)) name kind) e
  where
    by : (t : Bool) → bytes_eq k.name name ≡ t → (kind_of known name ≡ Some kind → FoundById (built_from (index_after i (rule_of_known k)) known) name kind)
        → option_map (λ (k : Known). k.kind) (cond t (Some k) (find (λ (k : Known). bytes_eq k.name name) known)) ≡ Some kind
        → (j : ℕ) × (cond t (Some (built_at i k.name k.kind)) (arg_by_id (built_from (index_after i (rule_of_known k)) known) name) ≡ Some (built_at j name kind))
    by true same rest e = (i, λ x. Some (built_at i (same_name k.name name same x) (some_same k.kind kind e x)))
    by false other rest e = rest e

pub record Has (c : List Rule) (name : Text) (kind : Kind) : Type 0 where
  pub by_long : arg_by_long c name ≡ Some (built_as name kind)
  pub by_id : FoundById c name kind

pub id_rule : (c : List Rule) (known : List Known) (name : Text) (kind : Kind) → c ≡ built_from 1 known → kind_of known name ≡ Some kind → FoundById c name kind
id_rule c known name kind rules e =
    let f = id_found known 1 name kind e in
    (f.0, ap (λ (l : List Rule). arg_by_id l name) rules ∙ f.1)

pub has_rule : (c : List Rule) (known : List Known) (name : Text) (kind : Kind) → is_place (Some kind) ≡ false → c ≡ built_from 1 known → kind_of known name ≡ Some kind → Has c name kind
has_rule c known name kind option rules e = record {
  by_long = ap (λ (l : List Rule). arg_by_long l name) rules ∙ long_found known 1 name kind option e;
  by_id = id_rule c known name kind rules e;
}

-- and each place by its number
not_empty : (ds : List Text) (name : Text) (rest : List Text) → [] ≡ ds ++ name ∷ rest → ⊥
not_empty [] name rest e = let h : [] ≡ name ∷ rest = e in cc
not_empty (d ∷ ds) name rest e = let h : [] ≡ d ∷ ds ++ name ∷ rest = e in cc

place_step : (n : Text) (h : Kind) (known : List Known) (i : ℕ) (ds : List Text) (name : Text) (rest : List Text)
    → ((j : ℕ) (ds : List Text) → places known ≡ ds ++ name ∷ rest → length ds + j < usize_max → arg_by_index (built_from j known) (length ds + j) ≡ Some (built_at (length ds + j) name Place))
    → places (record { name = n; kind = h } ∷ known) ≡ ds ++ name ∷ rest → length ds + i < usize_max
    → arg_by_index (built_from i (record { name = n; kind = h } ∷ known)) (length ds + i) ≡ Some (built_at (length ds + i) name Place)
place_step n Place known i [] name rest next e less =
    let first : n ≡ name = let h : n ∷ places known ≡ name ∷ rest = e in cc in
    let same : (i == i) ≡ true = grind arith in
    let number : length {A = Text} [] + i ≡ i = omega arith in
    let here : arg_by_index (built_from i (record { name = n; kind = Place } ∷ known)) i ≡ Some (built_at i name Place) =
    ap (λ (t : Bool). cond t (Some (built_at i n Place)) (arg_by_index (built_from (min (i + 1) usize_max) known) i)) same ∙ (λ x. Some (built_at i (first x) Place)) in
    subst (λ (m : ℕ). arg_by_index (built_from i (record { name = n; kind = Place } ∷ known)) m ≡ Some (built_at m name Place)) (sym number) here
place_step n Place known i (d ∷ ds) name rest next e less =
    let others : places known ≡ ds ++ name ∷ rest = let h : n ∷ places known ≡ d ∷ ds ++ name ∷ rest = e in cc in
    let number = length (d ∷ ds) + i in
    let other : (i == number) ≡ false = grind arith in
    let then_next : min (i + 1) usize_max ≡ i + 1 = omega (arith, less) in
    let moved : number ≡ length ds + (i + 1) = omega arith in
    ap (λ (t : Bool). cond t (Some (built_at i n Place)) (arg_by_index (built_from (min (i + 1) usize_max) known) number)) other
    ∙ (ap (λ (j : ℕ). arg_by_index (built_from j known) number) then_next
    ∙ (ap (λ (j : ℕ). arg_by_index (built_from (i + 1) known) j) moved
    ∙ (next (i + 1) ds others (omega (arith, less)) ∙ ap (λ (j : ℕ). Some (built_at j name Place)) (sym moved))))
place_step n Value known i ds name rest next e less = absurd (not_empty ds name rest e)
place_step n Flag known i ds name rest next e less = absurd (not_empty ds name rest e)

index_found : (known : List Known) (name : Text) (rest : List Text) (i : ℕ) (ds : List Text) → places known ≡ ds ++ name ∷ rest → length ds + i < usize_max
    → arg_by_index (built_from i known) (length ds + i) ≡ Some (built_at (length ds + i) name Place)
index_found [] name rest i ds e less = absurd (not_empty ds name rest e)
index_found (k ∷ known) name rest i ds e less = place_step k.name k.kind known i ds name rest (index_found known name rest) e less

pub index_rule : (c : List Rule) (known : List Known) (ds : List Text) (name : Text) (rest : List Text) → c ≡ built_from 1 known → places known ≡ ds ++ name ∷ rest → length ds + 1 < usize_max
    → arg_by_index c (length ds + 1) ≡ Some (built_at (length ds + 1) name Place)
index_rule c known ds name rest rules e less = ap (λ (l : List Rule). arg_by_index l (length ds + 1)) rules ∙ index_found known name rest 1 ds e less

-- ---- the rows

-- what is kept of an option
abbrev pub row_as : Text → Kind → Text → Row
row_as name kind text = record {
  id = name;
  values = text ∷ [];
  count = None;
  source = Some CommandLine;
  reading = reading_by (built_as name kind);
}

abbrev kind_in : Given → Kind
kind_in (Filled name value) = Place
kind_in (Alone name) = Flag
kind_in (Apart name value) = Value
kind_in (Joined name value) = Value

abbrev text_in : Given → Text
text_in (Filled name value) = value
text_in (Alone name) = codes "true"
text_in (Apart name value) = value
text_in (Joined name value) = value

abbrev pub kept_row : Given → Row
kept_row g = row_as (name_in g) (kind_in g) (text_in g)

abbrev pub has_id : Text → Row → Bool
has_id id r = bytes_eq r.id id

pub missing_row : (id : Text) (change : Row → List Row) (missing rows : List Row) → find (has_id id) rows ≡ None → at_row id change missing rows ≡ rows ++ missing
missing_row id change missing [] e = refl
missing_row id change missing (r ∷ rows) e = by (has_id id r) (missing_row id change missing rows) e
  where
    by : (b : Bool) → (find (has_id id) rows ≡ None → at_row id change missing rows ≡ rows ++ missing)
        → cond b (Some r) (find (has_id id) rows) ≡ None → (if b then change r ++ rows else r ∷ at_row id change missing rows) ≡ r ∷ rows ++ missing
    by true rest e = absurd (nothing r (sym e))
    by false rest e = ap (λ (l : List Row). r ∷ l) (rest e)

pub row_there : (id : Text) (rows : List Row) → has_row id rows ≡ is_some (find (has_id id) rows)
row_there id [] = refl
row_there id (r ∷ rows) = by (has_id id r) (row_there id rows)
  where
    by : (b : Bool) → has_row id rows ≡ is_some (find (has_id id) rows) → (b || has_row id rows) ≡ is_some (cond b (Some r) (find (has_id id) rows))
    by true rest = refl
    by false rest = rest

pub no_row : (id : Text) (rows : List Row) → find (has_id id) rows ≡ None → has_row id rows ≡ false
no_row id rows none = row_there id rows ∙ ap is_some none

-- a use of an option that has no row yet
pub option_used : (name v : Text) (rows : List Row) → find (has_id name) rows ≡ None → used (built_as name Value) (v ∷ []) rows ≡ rows ++ row_as name Value v ∷ []
option_used name v rows none =
    let gone = missing_row name (λ _. []) [] rows none ∙ append-nil rows in
    ap (λ (l : List Row). with_values name (reading_by (built_as name Value)) CommandLine (v ∷ []) l) gone ∙ missing_row name (more_values CommandLine (v ∷ [])) (row_as name Value v ∷ []) rows none

pub place_used : (j : ℕ) (name v : Text) (rows : List Row) → find (has_id name) rows ≡ None → used (built_at j name Place) (v ∷ []) rows ≡ rows ++ row_as name Place v ∷ []
place_used j name v rows none =
    let gone = missing_row name (λ _. []) [] rows none ∙ append-nil rows in
    ap (λ (l : List Row). with_values name (reading_by (built_as name Place)) CommandLine (v ∷ []) l) gone ∙ missing_row name (more_values CommandLine (v ∷ [])) (row_as name Place v ∷ []) rows none

pub flag_used : (name : Text) (rows : List Row) → find (has_id name) rows ≡ None → used (built_as name Flag) [] rows ≡ rows ++ row_as name Flag (codes "true") ∷ []
flag_used name rows none =
    let gone = missing_row name (λ _. []) [] rows none ∙ append-nil rows in
    ap (λ (l : List Row). with_values name (reading_by (built_as name Flag)) CommandLine (codes "true" ∷ []) l) gone
    ∙ missing_row name (more_values CommandLine (codes "true" ∷ [])) (row_as name Flag (codes "true") ∷ []) rows none

-- what isn't given has no row
pub unkept : (gs : List Given) (name : Text) → flat_map (values_under name) gs ≡ [] → find (has_id name) (map kept_row gs) ≡ None
unkept [] name e = refl
unkept (g ∷ gs) name e = by (bytes_eq (name_in g) name) (unkept gs name) e
  where
    by : (t : Bool) → (flat_map (values_under name) gs ≡ [] → find (has_id name) (map kept_row gs) ≡ None) → (if t then value_in g ∷ [] else []) ++ flat_map (values_under name) gs ≡ []
        → cond t (Some (kept_row g)) (find (has_id name) (map kept_row gs)) ≡ None
    by true rest e = absurd (let h : value_in g ∷ flat_map (values_under name) gs ≡ [] = e in cc)
    by false rest e = rest e

-- ---- what the rows say of options

one_shown : (known : List Known) (g : Given) → is_known known g ≡ true → kept_as (not (is_flag (kind_of known (name_in g)))) (Some (text_in g)) ≡ Some (value_in g)
one_shown known (Filled name v) e = ap (λ (x : Option Kind). kept_as (not (is_flag x)) (Some v)) (place_known (kind_of known name) (both _ _ e).0)
one_shown known (Alone name) e = ap (λ (x : Option Kind). kept_as (not (is_flag x)) (Some (codes "true"))) (flag_known (kind_of known name) e)
one_shown known (Apart name v) e = ap (λ (x : Option Kind). kept_as (not (is_flag x)) (Some v)) (valued_known (kind_of known name) (both _ _ e).0)
one_shown known (Joined name v) e = ap (λ (x : Option Kind). kept_as (not (is_flag x)) (Some v)) (valued_known (kind_of known name) (both _ _ e).0)

first_shown : (known : List Known) (gs : List Given) (name : Text) → list_all (is_known known) gs ≡ true
    → kept_as (not (is_flag (kind_of known name))) (first_of name (map kept_row gs)) ≡ slice_get (flat_map (values_under name) gs) 0
first_shown known [] name all = refl
first_shown known (g ∷ gs) name all = by (bytes_eq (name_in g) name) refl (first_shown known gs name (both _ _ all).1)
  where
    by : (t : Bool) → bytes_eq (name_in g) name ≡ t → kept_as (not (is_flag (kind_of known name))) (first_of name (map kept_row gs)) ≡ slice_get (flat_map (values_under name) gs) 0
        → kept_as (not (is_flag (kind_of known name))) (Rattle.std.specs.Prelude.option_and_then (λ (r : Row). slice_get r.values 0) (cond t (Some (kept_row g)) (find (has_id name) (map kept_row gs))))
        ≡ slice_get ((if t then value_in g ∷ [] else []) ++ flat_map (values_under name) gs) 0
    by true same rest = ap (λ (n : Text). kept_as (not (is_flag (kind_of known n))) (Some (text_in g))) (sym (same_name (name_in g) name same)) ∙ one_shown known g (both _ _ all).0
    by false other rest = rest

first_value : (x : Option Text) → slice_get (option_to_list x) 0 ≡ x
first_value None = refl
first_value (Some v) = refl

abbrev pub Shows : List Known → Options → List Row → Type 0
Shows known o rows = (name : Text) → kept_as (not (is_flag (kind_of known name))) (first_of name rows) ≡ o name

pub rows_show : (known : List Known) (words : List Text) (o : Options) (p : AreOptions known words o) → Shows known o (map kept_row p.given)
rows_show known words o p name = first_shown known p.given name p.are_known ∙ (ap (λ (l : List Text). slice_get l 0) (p.values name) ∙ first_value (o name))

pub shown_options : (known : List Known) (o : Options) (rows : List Row) → Shows known o rows → options_in known rows ≡ o
unfolding options_in
shown_options known o rows shows = λ i name. shows name i
