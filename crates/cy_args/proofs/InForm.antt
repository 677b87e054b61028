-- A command that is asked for is in form.
use Rattle.std.proofs.Common.{◌≡◌, ◌<◌, ◌≤◌, ◌||◌, ◌==◌, All, zero, suc, ℕ, List, [], ◌∷◌, ◌++◌, Bool, true, false, Option, Some, None, is_some, if◌then◌else◌, cond, refl, sym, ap, ◌∙◌, subst, true≢false, arith}
use Rattle.std.proofs.Common.{codes, flat_map, not, option_map, option_to_list, bytes_eq, length}
use Rattle.std.specs.Bool.{⊤}
use Rattle.std.specs.List.{find, list_all}
use Rattle.std.specs.Prelude.{nat_lt, IfSome, IsSome}
use Rattle.std.proofs.lemmas.Slice.Eq.{bytes_eq-Decides}
use Rattle.clap.specs.Walk.{Text}
use Rattle.clap.proofs.WalkLemmas.{both}
use Rattle.cy_msg.specs.Request.{HasReader, OfPass}
use Rattle.cy_args.specs.declared.words.Command as code
use Rattle.cy_args.specs.declared.words.Command.TheVariants as asked
use Rattle.cy_args.specs.CheckWords.{check_asked}
use Rattle.cy_args.specs.Command.{Asks, Check, Command, Form, Info, Make, Merge, Play, Recover, Split, Verify, form_of, forms, info_asked}
use Rattle.cy_args.specs.FilterWords.{◌>>=◌, filter_asked, names_in, spelled_number}
use Rattle.cy_args.specs.MakeWords.{MakeWords, count_of, longest_prefix, made_by, make_asked, most_made, where_made}
use Rattle.cy_args.specs.MergeWords.{MergeWords, are_inputs, is_input, merge_asked, merged_by}
use Rattle.cy_args.specs.Options.{Alone, Apart, AreOptions, Filled, Given, Joined, Known, Options, Place, is_known, is_place, kind_of, name_in, value_in, values_under}
use Rattle.cy_args.specs.PassWords.{pass_asked, pass_known, passed_by}
use Rattle.cy_args.specs.PlayWords.{PlayWords, is_play, play_asked, play_given, play_of_all, where_play}
use Rattle.cy_args.specs.RecoverWords.{RecoverWords, apart_from, recover_asked}
use Rattle.cy_args.specs.SplitWords.{SplitWords, split_asked}
use Rattle.cy_args.specs.VerifyWords.{is_apart, verify_asked, where_apart}
use Rattle.cy_args.specs.private.Scan.{command_of}
use Rattle.cy_args.specs.Views.{IsInForm, command_asked}
use Rattle.cy_args.specs.Words.{is_word}
use Rattle.cy_args.proofs.Asked.{asks}
use Rattle.cy_args.proofs.Named.{named}
use Rattle.cy_args.proofs.OptionsRead.{bound, flag_known, guarded, mapped, nothing, same_name, some_same, unguarded}

-- ---- what stands at a place is a word

one_word : (known : List Known) (g : Given) → is_known known g ≡ true → kind_of known (name_in g) ≡ Some Place → is_word (value_in g) ≡ true
one_word known (Filled name v) e is = (both _ _ e).1
one_word known (Alone name) e is = absurd (true≢false (sym (ap is_place is) ∙ ap is_place (flag_known (kind_of known name) e)))
one_word known (Apart name v) e is = (both _ _ e).1
one_word known (Joined name v) e is = (both _ _ e).1

first_word : (known : List Known) (gs : List Given) (name v : Text) (rest : List Text) → list_all (is_known known) gs ≡ true → kind_of known name ≡ Some Place → flat_map (values_under name) gs ≡ v ∷ rest
    → is_word v ≡ true
first_word known [] name v rest all is e = absurd (let h : [] ≡ v ∷ rest = e in cc)
first_word known (g ∷ gs) name v rest all is e = by (bytes_eq (name_in g) name) refl (first_word known gs name v rest (both _ _ all).1 is) e
  where
    by : (t : Bool) → bytes_eq (name_in g) name ≡ t → (flat_map (values_under name) gs ≡ v ∷ rest → is_word v ≡ true)
        → (if t then value_in g ∷ [] else []) ++ flat_map (values_under name) gs ≡ v ∷ rest → is_word v ≡ true
    by true same others e =
        let first : value_in g ≡ v = let h : value_in g ∷ flat_map (values_under name) gs ≡ v ∷ rest = e in cc in
        subst (λ (x : Text). is_word x ≡ true) first (one_word known g (both _ _ all).0 (ap (kind_of known) (same_name (name_in g) name same) ∙ is))
    by false other others e = others e

placed_word : (known : List Known) (words : List Text) (o : Options) (name v : Text) → AreOptions known words o → kind_of known name ≡ Some Place → o name ≡ Some v → is_word v ≡ true
placed_word known words o name v p is e = first_word known p.given name v [] p.are_known is (p.values name ∙ ap option_to_list e)

-- ---- form by form

-- what holds of a command that is asked for
abbrev pub IsFit : Command → Type 0
IsFit (Play w) = HasReader w.request.components × (w.output ≡ w.trace → ⊥)
IsFit (Verify w) = HasReader w.request.components
IsFit (Recover w) = w.input ≡ w.output → ⊥
IsFit (Split w) = w.input ≡ w.output → ⊥
IsFit (Merge w) = All (λ (input : Text). input ≡ w.output → ⊥) w.inputs
IsFit (Make w) = (0 < w.count) × (w.count ≤ most_made) × (length w.prefix ≤ longest_prefix)
IsFit c = ⊤

abbrev Fits : Form → Type 0
Fits f = (words : List Text) (o : Options) (c : Command) → AreOptions f.known words o → f.asked o ≡ Some c → IsFit c

fit_by : {A : Type 0} (x : Option A) (view : A → Command) (c : Command) → ((a : A) → x ≡ Some a → IsFit (view a)) → option_map view x ≡ Some c → IsFit c
fit_by x view c fit e = let m = mapped x view c e in subst IsFit m.2 (fit m.0 m.1)

abbrev ReaderOf : PlayWords → Type 0
ReaderOf w = HasReader w.request.components

where_is : (w other : PlayWords) → where_play w ≡ Some other → w ≡ other
where_is w other e = some_same w other (guarded (is_play w) (Some w) other e).1

-- the two files of a play
apart : (w : PlayWords) → is_play w ≡ true → w.output ≡ w.trace → ⊥
unfolding is_play
apart w e same =
    let no : not (bytes_eq w.output w.trace) ≡ true = (both _ _ (both _ _ e).0).0 in
    true≢false (sym no ∙ ap not ((bytes_eq-Decides w.output w.trace).1 same))

where_apart_is : (w other : PlayWords) → where_play w ≡ Some other → other.output ≡ other.trace → ⊥
where_apart_is w other e =
    subst (λ (x : PlayWords). x.output ≡ x.trace → ⊥) (where_is w other e) (apart w (guarded (is_play w) (Some w) other e).0)

bound_holds : {A : Type 0} (x : Option A) (f : A → Option PlayWords) → ((a : A) → IfSome (f a) ReaderOf) → IfSome (x >>= f) ReaderOf
bound_holds None f h = tt
bound_holds (Some a) f h = h a

play_reader : (o : Options) → IfSome (play_given o) ReaderOf
unfolding play_given
play_reader o = search bound_holds depth 12

given_fit : (o : Options) (w : PlayWords) → play_given o ≡ Some w → ReaderOf w
given_fit o w e = subst (λ (x : Option PlayWords). IfSome x ReaderOf) e (play_reader o)

play_fit : (o : Options) (w : PlayWords) → play_asked o ≡ Some w → IsFit (Play w)
unfolding play_asked
play_fit o w e =
    let b = bound (play_given o) where_play w e in
    (subst ReaderOf (where_is b.0 w b.2) (given_fit o b.0 b.1), where_apart_is b.0 w b.2)

verify_fit : (o : Options) (w : PlayWords) → verify_asked o ≡ Some w → ReaderOf w
unfolding verify_asked
verify_fit o w e =
    let b = bound (play_given o) where_apart w e in
    subst ReaderOf (some_same b.0 w (guarded (is_apart b.0) (Some b.0) w b.2).1) (given_fit o b.0 b.1)

pass_fit : (words : List Text) (o : Options) (w : PlayWords) → AreOptions pass_known words o → pass_asked o ≡ Some w → IsFit (Play w)
pass_fit words o w p e =
    let input = bound (o (codes "record")) _ w e in
    let output = bound (o (codes "out")) _ w input.2 in
    let trace = bound (o (codes "trace")) _ w output.2 in
    let from = bound (o (codes "from")) _ w trace.2 in
    let to = bound (o (codes "to")) (passed_by input.0 output.0 trace.0 from.0) w from.2 in
    let play = play_of_all (OfPass from.0 to.0) input.0 output.0 trace.0 in
    let is = (unguarded (bytes_eq from.0 to.0) (where_play play) w to.2).1 in
    (subst ReaderOf (where_is play w is) (named from.0 (placed_word pass_known words o (codes "from") from.0 p refl from.1)), where_apart_is play w is)

in_range : (n m : ℕ) → where_made n ≡ Some m → (0 < m) × (m ≤ most_made)
in_range n m e = by (nat_lt n 1) (nat_lt most_made n) refl refl e
  where
    by : (t u : Bool) → nat_lt n 1 ≡ t → nat_lt most_made n ≡ u → (if t || u then None else Some n) ≡ Some m → (0 < m) × (m ≤ most_made)
    by true u p q e = absurd (nothing m e)
    by false true p q e = absurd (nothing m e)
    by false false p q e =
        let low : 0 < n = grind arith in
        let high : n ≤ most_made = grind arith in
        subst (λ (x : ℕ). (0 < x) × (x ≤ most_made)) (some_same n m e) (low, high)

make_fit : (o : Options) (w : MakeWords) → make_asked o ≡ Some w → IsFit (Make w)
make_fit o w e =
    let text = bound (o (codes "count")) _ w e in
    let prefix = bound (o (codes "prefix")) (made_by text.0) w text.2 in
    let s = unguarded (nat_lt longest_prefix (length prefix.0)) (option_map (λ n. record { count = n; prefix = prefix.0 }) (count_of text.0)) w prefix.2 in
    let m = mapped (count_of text.0) (λ n. record { count = n; prefix = prefix.0 }) w s.1 in
    let b = bound (spelled_number text.0) where_made m.0 m.1 in
    let range = in_range b.0 m.0 b.2 in
    let short : length prefix.0 ≤ longest_prefix = grind (arith, s.0) in
    subst (λ (x : MakeWords). IsFit (Make x)) m.2 (range.0, range.1, short)

differ : (input output : Text) (w : RecoverWords) → apart_from input output ≡ Some w → w.input ≡ w.output → ⊥
differ input output w e =
    let u = unguarded (bytes_eq input output) (Some record { input = input; output = output }) w e in
    subst (λ (x : RecoverWords). x.input ≡ x.output → ⊥) (some_same (record { input = input; output = output }) w u.1)
    (λ same. true≢false (sym ((bytes_eq-Decides input output).1 same) ∙ u.0))

recover_fit : (o : Options) (w : RecoverWords) → recover_asked o ≡ Some w → IsFit (Recover w)
unfolding recover_asked
recover_fit o w e =
    let input = bound (o (codes "in")) _ w e in
    let output = bound (o (codes "out")) (apart_from input.0) w input.2 in
    differ input.0 output.0 w output.2

split_fit : (o : Options) (w : SplitWords) → split_asked o ≡ Some w → IsFit (Split w)
unfolding split_asked
split_fit o w e =
    let files = bound (recover_asked o) _ w e in
    let filter = bound (filter_asked o) _ w files.2 in
    subst (λ (x : SplitWords). IsFit (Split x)) (some_same _ w filter.2) (recover_fit o files.0 files.1)

inputs_apart : (output : Text) (names : List Text) → list_all (is_input output) names ≡ true → All (λ (input : Text). input ≡ output → ⊥) names
inputs_apart output [] e k d h = absurd (omega (arith, h))
inputs_apart output (name ∷ names) e zero d h = λ same. true≢false (sym (both _ _ (both _ _ e).0).1 ∙ ap not ((bytes_eq-Decides name output).1 same))
inputs_apart output (name ∷ names) e (suc k) d h = inputs_apart output names (both _ _ e).1 k d (omega (arith, h))

merge_fit : (o : Options) (w : MergeWords) → merge_asked o ≡ Some w → IsFit (Merge w)
unfolding merge_asked are_inputs
merge_fit o w e =
    let list = bound (o (codes "list")) _ w e in
    let output = bound (o (codes "out")) (merged_by list.0) w list.2 in
    let made : MergeWords = record { inputs = names_in list.0; output = output.0 } in
    let is = guarded (are_inputs output.0 list.0) (Some made) w output.2 in
    subst (λ (x : MergeWords). IsFit (Merge x)) (some_same made w is.1) (inputs_apart output.0 (names_in list.0) is.0)

abbrev EachFits : List Form → Type 0
EachFits [] = ⊤
EachFits (f ∷ fs) = Fits f × EachFits fs

each_fits : EachFits forms
each_fits = (
  λ words o c p. fit_by (play_asked o) Play c (play_fit o),
  (
    λ words o c p. fit_by (pass_asked o) Play c (λ w. pass_fit words o w p),
    (
      λ words o c p. fit_by (check_asked o) Check c (λ w e. tt),
      (
        λ words o c p. fit_by (info_asked o) Info c (λ w e. tt),
        (
          λ words o c p. fit_by (make_asked o) Make c (make_fit o),
          (
            λ words o c p. fit_by (verify_asked o) Verify c (verify_fit o),
            (
              λ words o c p. fit_by (recover_asked o) Recover c (recover_fit o),
              (
                λ words o c p. fit_by (split_asked o) Split c (split_fit o),
                (λ words o c p. fit_by (merge_asked o) Merge c (merge_fit o), tt),
              ),
            ),
          ),
        ),
      ),
    ),
  ),
)

found_fits : (fs : List Form) (name : Text) (f : Form) → find (λ (f : Form). bytes_eq name f.name) fs ≡ Some f → EachFits fs → Fits f
found_fits [] name f e each = absurd (nothing f e)
found_fits (g ∷ fs) name f e each = by (bytes_eq name g.name) (λ e. found_fits fs name f e each.1) e
  where
    by : (t : Bool) → (find (λ (f : Form). bytes_eq name f.name) fs ≡ Some f → Fits f) → cond t (Some g) (find (λ (f : Form). bytes_eq name f.name) fs) ≡ Some f → Fits f
    by true rest e = subst Fits (some_same g f e) each.0
    by false rest e = rest e

pub asked_fits : (words : List Text) (c : Command) → Asks words c → IsFit c
unfolding form_of
asked_fits [] c h = absurd h
asked_fits (name ∷ words) c h = found_fits forms name h.0 h.1 each_fits words h.2.options c h.2.are_options h.2.asks

pub play_files_apart : (words : List Text) (w : PlayWords) → Asks words (Play w) → w.output ≡ w.trace → ⊥
play_files_apart words w h = (asked_fits words (Play w) h).1

pub recover_files_apart : (words : List Text) (w : RecoverWords) → Asks words (Recover w) → w.input ≡ w.output → ⊥
recover_files_apart words w h = asked_fits words (Recover w) h

pub split_files_apart : (words : List Text) (w : SplitWords) → Asks words (Split w) → w.input ≡ w.output → ⊥
split_files_apart words w h = asked_fits words (Split w) h

pub merge_files_apart : (words : List Text) (w : MergeWords) → Asks words (Merge w) → All (λ (input : Text). input ≡ w.output → ⊥) w.inputs
merge_files_apart words w h = asked_fits words (Merge w) h

-- the same of the code's command
in_form_by : (c : code.Command) → IsFit (command_asked c) → IsInForm c
in_form_by (asked.Play w) fit = fit.0
in_form_by (asked.Make w) fit = record { some = fit.0; few = fit.1; short = fit.2 }
in_form_by (asked.Verify w) fit = fit
in_form_by c fit = tt

pub in_form : (words : List Text) (found : Option code.Command) → option_map command_asked found ≡ command_of words → IfSome found IsInForm
in_form words None e = tt
in_form words (Some c) e = in_form_by c (asked_fits words (command_asked c) (asks words (command_asked c) (sym e)))

-- a command that is asked for was found
pub was_found : (found : Option code.Command) (words : List Text) → option_map command_asked found ≡ command_of words → is_some (command_of words) ≡ true → IsSome found
was_found None words e some = absurd (true≢false (sym some ∙ sym (ap is_some e)))
was_found (Some c) words e some = refl
