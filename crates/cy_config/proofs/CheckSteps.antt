-- What a check knows, one entry further on.
use Rattle.std.proofs.Common.{ℕ, zero, suc, ◌≡◌, ◌+◌, ◌≤◌, ◌<◌, Bool, true, false, Option, Some, None, if◌then◌else◌, List, [], ◌∷◌, ◌++◌, length, take, drop, get_or, codes, refl, ap, sym, ◌∙◌, append-nil, append_assoc, add-zero, length-append, length-take, arith}
use Rattle.std.specs.Bool.{then_some}
use Rattle.std.specs.Str.{bytes_eq}
use Rattle.std.proofs.lemmas.Option.{none-some}
use Rattle.std.proofs.lemmas.Slice.Eq.{bytes_eq-Decides}
use Rattle.cy_text.specs.Fields.{Fields, Held, Nothing, And, Message, size_of, size_held}
use Rattle.cy_text.specs.Entries.{and_entries, fields_of, held_of}
use Rattle.cy_text.specs.declared.tree.Entry.{Entry}
use Rattle.cy_config.specs.declared.field.Kind.{Kind}
use Rattle.cy_config.specs.declared.field.Kind.TheVariants as kind
use Rattle.cy_config.specs.declared.field.Field.{Field}
use Rattle.cy_config.specs.declared.error.ConfigError.{ConfigError}
use Rattle.cy_config.specs.declared.error.ConfigError.TheVariants.{Shape, Memory}
use Rattle.cy_config.specs.Kinds.{is_of_kind, inside_of}
use Rattle.cy_config.specs.Lookups.{all_under}
use Rattle.cy_config.proofs.TallySteps.{by_cases}
use Rattle.cy_config.specs.Checks.{Table, IsMisfit, index_of, index_text, first_misfit, misfit_of, unknown_paths, unknown_in, path_of}
use Rattle.cy_config.proofs.EntrySteps.{one_more}

-- A field that the table doesn't have.
pub misfit_unknown : {M : Type 0} (table : Table M) (m : M) (path : List ℕ) (es : List Entry) (k : ℕ) (e : Entry) → k < length es → e ≡ get_or es k e
    → first_misfit table m path (fields_of (take k es)) ≡ None → table m e.name ≡ None
    → first_misfit table m path (fields_of (take (k + 1) es)) ≡ None
misfit_unknown table m path es k e there here before none = rw (one_more es k e there here, before, none) refl

pub unknown_unknown : {M : Type 0} (table : Table M) (m : M) (path : List ℕ) (es : List Entry) (k : ℕ) (e : Entry) → k < length es → e ≡ get_or es k e
    → table m e.name ≡ None
    → unknown_paths table m path (fields_of (take (k + 1) es)) ≡ unknown_paths table m path (fields_of (take k es)) ++ (path ++ e.name) ∷ []
unknown_unknown table m path es k e there here none = rw (one_more es k e there here, none) refl

-- A field that it has.
pub misfit_known : {M : Type 0} (table : Table M) (m : M) (path : List ℕ) (es : List Entry) (k : ℕ) (e : Entry) (f : Field M) → k < length es → e ≡ get_or es k e
    → first_misfit table m path (fields_of (take k es)) ≡ None → table m e.name ≡ Some f
    → first_misfit table m path (fields_of (take (k + 1) es)) ≡ misfit_of table f.kind (path_of f path (fields_of (take k es)) e.name) (held_of e.value)
misfit_known table m path es k e f there here before some = rw (one_more es k e there here, before, some) refl

pub unknown_known : {M : Type 0} (table : Table M) (m : M) (path : List ℕ) (es : List Entry) (k : ℕ) (e : Entry) (f : Field M) → k < length es → e ≡ get_or es k e
    → table m e.name ≡ Some f
    → unknown_paths table m path (fields_of (take (k + 1) es))
    ≡ unknown_paths table m path (fields_of (take k es)) ++ unknown_in table f.kind (path_of f path (fields_of (take k es)) e.name) (held_of e.value)
unknown_known table m path es k e f there here some = rw (one_more es k e there here, some) refl

-- The first field that doesn't fit stays the first.
misfit_stays : {M : Type 0} (table : Table M) (m : M) (path : List ℕ) (fields : Fields) (es : List Entry) (p : List ℕ)
    → first_misfit table m path fields ≡ Some p → first_misfit table m path (and_entries fields es) ≡ Some p
misfit_stays table m path fields [] p h = h
misfit_stays table m path fields (e ∷ es) p h = misfit_stays table m path (And fields e.name e.span (held_of e.value)) es p (rw h refl)

-- A message that is looked into, and any other value.
pub misfit_inside : {M : Type 0} (table : Table M) (k : Kind M) (path : List ℕ) (h : Held) (i : M) (fields : Fields) → inside_of k h ≡ Some (i, fields)
    → misfit_of table k path h ≡ first_misfit table i (path ++ codes ".") fields
misfit_inside table (kind.Message m) path (Message inner) i fields is =
    ap (λ o. elim o as (λ o. Option (List ℕ)) [ None ↦ None | Some x ↦ first_misfit table x.0 (path ++ codes ".") x.1 ]) is
misfit_inside table k path h i fields is = cc

pub misfit_outside : {M : Type 0} (table : Table M) (k : Kind M) (path : List ℕ) (h : Held) → inside_of k h ≡ None
    → misfit_of table k path h ≡ (if is_of_kind k h then None else Some path)
misfit_outside table (kind.Message m) path (Message inner) is = cc
misfit_outside table k path h is = refl

pub unknown_inside : {M : Type 0} (table : Table M) (k : Kind M) (path : List ℕ) (h : Held) (i : M) (fields : Fields) → inside_of k h ≡ Some (i, fields)
    → unknown_in table k path h ≡ unknown_paths table i (path ++ codes ".") fields
unknown_inside table (kind.Message m) path (Message inner) i fields is =
    ap (λ o. elim o as (λ o. List (List ℕ)) [ None ↦ [] | Some x ↦ unknown_paths table x.0 (path ++ codes ".") x.1 ]) is
unknown_inside table k path h i fields is = cc

pub unknown_outside : {M : Type 0} (table : Table M) (k : Kind M) (path : List ℕ) (h : Held) → inside_of k h ≡ None → unknown_in table k path h ≡ []
unknown_outside table (kind.Message m) path (Message inner) is = cc
unknown_outside table k path h is = refl

-- What a message holds is smaller than the fields among which it stands.
more_entries : (fields : Fields) (es : List Entry) → size_of fields ≤ size_of (and_entries fields es)
more_entries fields [] = omega arith
more_entries fields (e ∷ es) = omega (arith, more_entries (And fields e.name e.span (held_of e.value)) es)

entry_size : (fields : Fields) (es : List Entry) (k : ℕ) (d : Entry) → k < length es → size_held (held_of (get_or es k d).value) < size_of (and_entries fields es)
entry_size fields [] k d there = absurd (omega arith)
entry_size fields (e ∷ es) zero d there = omega (arith, more_entries (And fields e.name e.span (held_of e.value)) es)
entry_size fields (e ∷ es) (suc k) d there = entry_size (And fields e.name e.span (held_of e.value)) es k d (omega arith)

pub entry_below : (es : List Entry) (k : ℕ) (e : Entry) → k < length es → e ≡ get_or es k e → size_held (held_of e.value) < size_of (fields_of es)
entry_below es k e there here =
    let at : size_held (held_of (get_or es k e).value) ≡ size_held (held_of e.value) = ap (λ (x : Entry). size_held (held_of x.value)) (sym here) in
    omega (arith, entry_size Nothing es k e there, at)

pub inside_size : {M : Type 0} (k : Kind M) (h : Held) (i : M) (fields : Fields) → inside_of k h ≡ Some (i, fields) → size_of fields ≡ size_held h
inside_size (kind.Message m) (Message inner) i fields is =
    sym (ap (λ o. elim o as (λ o. ℕ) [ None ↦ 0 | Some x ↦ size_of x.1 ]) is)
inside_size k h i fields is = cc

-- How many of a name stand so far.
under_step : (same : Bool) (xs : List Held) (h : Held) → length (if same then xs ++ h ∷ [] else xs) ≡ length xs + (if same then 1 else 0)
under_step true xs h = length-append xs (h ∷ [])
under_step false xs h = sym (add-zero (length xs))

pub under_more : (name : List ℕ) (es : List Entry) (k : ℕ) (e : Entry) → k < length es → e ≡ get_or es k e
    → length (all_under name (fields_of (take (k + 1) es))) ≡ length (all_under name (fields_of (take k es))) + (if bytes_eq e.name name then 1 else 0)
under_more name es k e there here =
    rw (one_more es k e there here) (under_step (bytes_eq e.name name) (all_under name (fields_of (take k es))) (held_of e.value))

-- A field that the table has is none that it doesn't have.
under_other : {M : Type 0} (table : Table M) (m : M) (name : List ℕ) (f : Field M) (es : List Entry) (k : ℕ) (e : Entry) → k < length es → e ≡ get_or es k e
    → table m e.name ≡ None → table m name ≡ Some f
    → length (all_under name (fields_of (take (k + 1) es))) ≡ length (all_under name (fields_of (take k es)))
under_other table m name f es k e there here none some =
    let differs : bytes_eq e.name name ≡ false =
    by_cases (bytes_eq e.name name)
    (λ same. absurd (none-some f (sym none ∙ ap (table m) ((bytes_eq-Decides e.name name).0 same) ∙ some)))
    (λ differs. differs) in
    rw (under_more name es k e there here, differs) (add-zero _)

pub count_stays : {M : Type 0} (table : Table M) (m : M) (name : List ℕ) (f : Field M) (es : List Entry) (k : ℕ) (e : Entry) (n : ℕ) → k < length es → e ≡ get_or es k e
    → table m e.name ≡ None → table m name ≡ Some f → n ≡ length (all_under name (fields_of (take k es))) → n ≡ length (all_under name (fields_of (take (k + 1) es)))
count_stays table m name f es k e n there here none some before = before ∙ sym (under_other table m name f es k e there here none some)

most_one : (b : Bool) → (if b then 1 else 0) ≤ 1
most_one true = omega arith
most_one false = omega arith

most_under : (name : List ℕ) (fields : Fields) (es : List Entry) → length (all_under name (and_entries fields es)) ≤ length (all_under name fields) + length es
most_under name fields [] = omega arith
most_under name fields (e ∷ es) =
    omega (arith, most_under name (And fields e.name e.span (held_of e.value)) es, under_step (bytes_eq e.name name) (all_under name fields) (held_of e.value), most_one (bytes_eq e.name name))

pub few_under : (name : List ℕ) (es : List Entry) (k : ℕ) → length (all_under name (fields_of (take k es))) ≤ k
few_under name es k = omega (arith, most_under name Nothing (take k es), length-take k es)

-- More paths behind those that are found.
pub more_paths : (start old new paths more : List (List ℕ)) (p q : List ℕ) → old ≡ start ++ paths → new ≡ old ++ p ∷ [] → p ≡ q → more ≡ paths ++ q ∷ [] → new ≡ start ++ more
more_paths start old new paths more p q before pushed is after = rw (after, pushed, before, is) (append_assoc start paths (q ∷ []))

pub path_name : (path name : List ℕ) → path ++ name ++ [] ≡ path ++ name
path_name path name = append-nil (path ++ name)

-- The first field that doesn't fit among some entries is the first of all.
fields_split : (fields : Fields) (es : List Entry) (k : ℕ) → and_entries fields es ≡ and_entries (and_entries fields (take k es)) (drop k es)
fields_split fields es zero = refl
fields_split fields [] (suc k) = refl
fields_split fields (e ∷ es) (suc k) = fields_split (And fields e.name e.span (held_of e.value)) es k

pub misfit_whole : {M : Type 0} (table : Table M) (m : M) (path : List ℕ) (es : List Entry) (k : ℕ) (p : List ℕ) (fields : Fields) → fields_of es ≡ fields
    → first_misfit table m path (fields_of (take k es)) ≡ Some p → first_misfit table m path fields ≡ Some p
misfit_whole table m path es k p fields shown h =
    ap (first_misfit table m path) (sym shown ∙ fields_split Nothing es k) ∙ misfit_stays table m path (fields_of (take k es)) (drop k es) p h

-- The path that is made is the path that is meant.
some_where : (b : Bool) (n : ℕ) → then_some b n ≡ (if b then Some n else None)
some_where true n = refl
some_where false n = refl

pub index_is : {M : Type 0} (f : Field M) (before : Fields) (name given : List ℕ) (i : Option ℕ) (n : ℕ) → given ≡ name → i ≡ then_some f.repeated n
    → n ≡ length (all_under given before) → i ≡ index_of f before name
index_is f before name given i n same is counted = is ∙ some_where f.repeated n ∙ rw (counted, same) refl

pub path_is : {M : Type 0} (f : Field M) (path : List ℕ) (before : Fields) (name given : List ℕ) (i : Option ℕ) → given ≡ name → i ≡ index_of f before name
    → path ++ given ++ index_text i ≡ path_of f path before name
path_is f path before name given i same is = rw (same, is) refl

pub misfit_err : {M : Type 0} (table : Table M) (m : M) (path : List ℕ) (es : List Entry) (k : ℕ) (inner : Option (List ℕ)) (fields : Fields) (e : ConfigError) → fields_of es ≡ fields
    → first_misfit table m path (fields_of (take k es)) ≡ inner → IsMisfit inner e → IsMisfit (first_misfit table m path fields) e
misfit_err table m path es k inner fields (Shape p) shown is misfit = misfit_whole table m path es k p fields shown (is ∙ misfit)
misfit_err table m path es k inner fields Memory shown is misfit = tt

-- What is known is counted.
pub counted_more : (name given : List ℕ) (es : List Entry) (k : ℕ) (e : Entry) (old new : ℕ) → k < length es → e ≡ get_or es k e → given ≡ e.name
    → old ≡ length (all_under name (fields_of (take k es))) → new ≡ old + (if bytes_eq given name then 1 else 0)
    → new ≡ length (all_under name (fields_of (take (k + 1) es)))
counted_more name given es k e old new there here same counted is = rw (under_more name es k e there here, is, counted, same) refl

-- More paths behind those that are found.
pub paths_join : (start old new paths more after : List (List ℕ)) → old ≡ start ++ paths → new ≡ old ++ more → after ≡ paths ++ more → new ≡ start ++ after
paths_join start old new paths more after before is joined = rw (joined, is, before) (append_assoc start paths more)
