-- The rows of names in a table, and the values that are kept there.
use Rattle.std.proofs.Common.{◌≡◌, ◌≢◌, ◌<◌, ◌≤◌, ◌+◌, ℕ, zero, suc, List, [], ◌∷◌, Bool, true, false, not, Option, Some, None, is_some, if◌then◌else◌, cond, refl, sym, ap, ◌∙◌, true≢false, arith}
use Rattle.std.proofs.Common.{length, get_or, set, option_map, bytes_eq}
use Rattle.std.specs.Borrow.{Bor}
use Rattle.std.specs.List.{list_all, position, position_or_len}
use Rattle.std.specs.Prelude.{nat_lt, slice_get, option_and_then}
use Rattle.std.proofs.lemmas.Grind.{common_steps}
use Rattle.std.proofs.lemmas.List.{get_or-set_same}
use Rattle.std.proofs.lemmas.List.Folds.{find_at}
use Rattle.std.proofs.lemmas.List.Quantifiers.{position-Some}
use Rattle.std.proofs.lemmas.Option.{slice_get-get_or, slice_get_past}
use Rattle.cy_args.specs.Options.{Flag, Kind, Known, Options, kind_of}
use Rattle.cy_args.specs.declared.options.Options as code
use Rattle.cy_args.specs.private.OptionViews.{Row, kind_as, known_as, options_of, place_in, table_of, value_at}
use Rattle.cy_args.specs.private.Scan.{no_options, put, put_known, put_once}
use Rattle.cy_args.proofs.OptionsRead.{itself, same_name}

abbrev Code : Type 0
Code = List Row

pub length_table : (known : Code) → length (table_of known) ≡ length known
length_table [] = refl
length_table (k ∷ known) = omega (arith, length_table known)

first_mapped : (known : Code) (name : List ℕ) → position_or_len (λ (k : Row). bytes_eq k.0.now name) known ≡ position_or_len (λ (k : Known). bytes_eq k.name name) (table_of known)
first_mapped [] name = refl
first_mapped (k ∷ known) name = ap (λ (n : ℕ). cond (not (bytes_eq k.0.now name)) (1 + n) 0) (first_mapped known name)

pub place_mapped : (known : Code) (name : List ℕ) → position (λ (k : Row). bytes_eq k.0.now name) known ≡ place_in (table_of known) name
place_mapped known name = λ i. cond (nat_lt (first_mapped known name i) (sym (length_table known) i)) (Some (first_mapped known name i)) None

-- what the name at a row is
abbrev kind_at : List Known → Option ℕ → Option Kind
kind_at known None = None
kind_at known (Some place) = option_map (λ k. k.kind) (slice_get known place)

has_at : (known : List Known) (name : List ℕ) → kind_of known name ≡ kind_at known (place_in known name)
has_at known name =
    let n = position_or_len (λ (k : Known). bytes_eq k.name name) known in
    ap (option_map (λ (k : Known). k.kind)) (find_at (λ (k : Known). bytes_eq k.name name) known) ∙ by n (nat_lt n (length known)) refl
  where
    by : (n : ℕ) (t : Bool) → nat_lt n (length known) ≡ t → option_map (λ (k : Known). k.kind) (slice_get known n) ≡ kind_at known (cond t (Some n) None)
    by n true is = refl
    by n false is =
        let past : length known ≤ n = grind (arith, common_steps) in
        ap (option_map (λ (k : Known). k.kind)) (slice_get_past known n past)

pub none_has : (known : List Known) (name : List ℕ) → place_in known name ≡ None → kind_of known name ≡ None
none_has known name none = has_at known name ∙ ap (kind_at known) none

pub place_within : (known : Code) (name : List ℕ) (place : ℕ) → place_in (table_of known) name ≡ Some place → place < length known
place_within known name place is =
    let at = position-Some (λ (k : Known). bytes_eq k.name name) (table_of known) place (record { name = []; kind = Flag }) is in
    omega (arith, at.0, length_table known)

slice_mapped : (known : Code) (place : ℕ) → slice_get (table_of known) place ≡ option_map known_as (slice_get known place)
slice_mapped [] place = refl
slice_mapped (k ∷ known) zero = refl
slice_mapped (k ∷ known) (suc place) = slice_mapped known place

pub has_there : (known : Code) (name : List ℕ) (place : ℕ) (d : Row) → place_in (table_of known) name ≡ Some place → kind_of (table_of known) name ≡ Some (kind_as (get_or known place d).1)
has_there known name place d is =
    has_at (table_of known) name
    ∙ (ap (kind_at (table_of known)) is
    ∙ (ap (option_map (λ (k : Known). k.kind)) (slice_mapped known place)
    ∙ ap (λ (x : Option (Row)). option_map (λ (k : Known). k.kind) (option_map known_as x)) (slice_get-get_or known place d (place_within known name place is))))

-- ---- one more value is the one under its name, and no other name has another one

abbrev Slots : Type 0
Slots = List (Option (Bor (List ℕ)))

abbrev now : Option (Bor (List ℕ)) → Option (List ℕ)
now x = option_map (λ (v : Bor (List ℕ)). v.now) x

same_place : (values : Slots) (place : ℕ) (v : Bor (List ℕ)) → place < length values → value_at (set values place (Some v)) (Some place) ≡ Some v.now
same_place values place v within =
    let there : place < length (set values place (Some v)) = grind (arith, common_steps) in
    ap (option_and_then now) (slice_get-get_or (set values place (Some v)) place None there ∙ ap Some (get_or-set_same values place (Some v) None within))

other_place : (values : Slots) (place other : ℕ) (v : Bor (List ℕ)) → other ≢ place → slice_get (set values place (Some v)) other ≡ slice_get values other
other_place [] place other v differ = refl
other_place (x ∷ values) zero zero v differ = absurd (differ refl)
other_place (x ∷ values) zero (suc other) v differ = refl
other_place (x ∷ values) (suc place) zero v differ = refl
other_place (x ∷ values) (suc place) (suc other) v differ = other_place values place other v (λ e. differ (ap suc e))

value_put : (known : List Known) (values : Slots) (name : List ℕ) (v : Bor (List ℕ)) (place : ℕ) (other : List ℕ) → place_in known name ≡ Some place → place < length values
    → value_at (set values place (Some v)) (place_in known other) ≡ (if bytes_eq name other then Some v.now else value_at values (place_in known other))
value_put known values name v place other is within = by (bytes_eq name other) refl
  where
    elsewhere : (x : Option ℕ) → bytes_eq name other ≡ false → place_in known other ≡ x → value_at (set values place (Some v)) x ≡ value_at values x
    elsewhere None apart at = refl
    elsewhere (Some j) apart at =
        let d : Known = record { name = []; kind = Flag } in
        let mine = same_name (get_or known place d).name name (position-Some (λ (k : Known). bytes_eq k.name name) known place d is).1 in
        let its = same_name (get_or known j d).name other (position-Some (λ (k : Known). bytes_eq k.name other) known j d at).1 in
        let differ : j ≢ place = λ same. true≢false (sym (itself name) ∙ (ap (bytes_eq name) (sym mine ∙ (ap (λ (n : ℕ). (get_or known n d).name) (sym same) ∙ its)) ∙ apart)) in
        ap (option_and_then now) (other_place values place j v differ)

    by : (t : Bool) → bytes_eq name other ≡ t → value_at (set values place (Some v)) (place_in known other) ≡ (if t then Some v.now else value_at values (place_in known other))
    by true same = ap (value_at (set values place (Some v))) (ap (place_in known) (sym (same_name name other same)) ∙ is) ∙ same_place values place v within
    by false apart = elsewhere (place_in known other) apart refl

-- ---- one more option

pub put_unknown : (known : List Known) (name value : List ℕ) (o : Options) → place_in known name ≡ None → None ≡ put_known known name value o
unfolding put_known
put_unknown known name value o none = sym (ap (λ (x : Option Kind). if is_some x then put_once name value o else None) (none_has known name none))

known_put : (known : Code) (name value : List ℕ) (place : ℕ) (d : Row) (o : Options) → place_in (table_of known) name ≡ Some place
    → put_known (table_of known) name value o ≡ put_once name value o
unfolding put_known
known_put known name value place d o is = ap (λ (x : Option Kind). if is_some x then put_once name value o else None) (has_there known name place d is)

some_now : (x : Option (Bor (List ℕ))) → is_some (now x) ≡ is_some x
some_now None = refl
some_now (Some v) = refl

now_at : (values : Slots) (place : ℕ) → value_at values (Some place) ≡ now (get_or values place None)
now_at [] place = refl
now_at (x ∷ values) zero = refl
now_at (x ∷ values) (suc place) = now_at values place

there : (known : Code) (name : List ℕ) (o : code.Options) (place : ℕ) → place_in (table_of known) name ≡ Some place
    → is_some (options_of (table_of known) o name) ≡ is_some (get_or o.values place None)
unfolding options_of
there known name o place is = ap (λ (x : Option ℕ). is_some (value_at o.values x)) is ∙ (ap is_some (now_at o.values place) ∙ some_now (get_or o.values place None))

pub put_again : (known : Code) (name value : List ℕ) (o : code.Options) (place : ℕ) (d : Row) → place_in (table_of known) name ≡ Some place
    → is_some (get_or o.values place None) ≡ true → None ≡ put_known (table_of known) name value (options_of (table_of known) o)
unfolding put_once
put_again known name value o place d is given = sym (
    known_put known name value place d (options_of (table_of known) o) is
    ∙ ap (λ (t : Bool). if t then None else Some (put name value (options_of (table_of known) o))) (there known name o place is ∙ given))

pub put_first : (known : Code) (name : List ℕ) (value : Bor (List ℕ)) (o : code.Options) (place : ℕ) (d : Row) → place_in (table_of known) name ≡ Some place → place < length o.values
    → is_some (get_or o.values place None) ≡ false
    → Some (options_of (table_of known) (record { values = set o.values place (Some value) })) ≡ put_known (table_of known) name value.now (options_of (table_of known) o)
unfolding put_once options_of
put_first known name value o place d is within none =
    let new : options_of (table_of known) (record { values = set o.values place (Some value) }) ≡ put name value.now (options_of (table_of known) o) =
    λ i other. value_put (table_of known) o.values name value place other is within i in
    ap Some new
    ∙ (ap (λ (t : Bool). if t then None else Some (put name value.now (options_of (table_of known) o))) (sym (there known name o place is ∙ none))
    ∙ sym (known_put known name value.now place d (options_of (table_of known) o) is))

pub met_at : (known : List Known) (name : List ℕ) (o : code.Options) (place : ℕ) → place_in known name ≡ Some place → now (get_or o.values place None) ≡ options_of known o name
unfolding options_of
met_at known name o place is = sym (ap (value_at o.values) is ∙ now_at o.values place)

pub none_met : (known : List Known) (name : List ℕ) (o : code.Options) → place_in known name ≡ None → None ≡ options_of known o name
unfolding options_of
none_met known name o none = sym (ap (value_at o.values) none)

-- no values are no options
all_none : (values : Slots) → list_all (λ (x : Option (Bor (List ℕ))). not (is_some x)) values ≡ true → (place : Option ℕ) → None ≡ value_at values place
all_none values none None = refl
all_none [] none (Some place) = refl
all_none (Some v ∷ values) none (Some place) = absurd (true≢false (sym none))
all_none (None ∷ values) none (Some zero) = refl
all_none (None ∷ values) none (Some (suc place)) = all_none values none (Some place)

pub no_values : (known : List Known) (values : Slots) → list_all (λ (x : Option (Bor (List ℕ))). not (is_some x)) values ≡ true → no_options ≡ options_of known (record { values = values })
unfolding options_of
no_values known values none = λ i name. all_none values none (place_in known name) i
