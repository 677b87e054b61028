-- `clap` takes the words of each form, and keeps their values.
use Rattle.std.proofs.Common.{◌≡◌, ◌<◌, ◌&&◌, ◌||◌, List, [], ◌∷◌, Bool, true, false, not, Option, Some, cond, refl, sym, ap, ◌∙◌, subst, arith}
use Rattle.std.proofs.Common.{ℕ, codes, length, option_map, bytes_eq, fold, map}
use Rattle.std.specs.Prelude.{nat_lt}
use Rattle.std.specs.List.{find, list_all}
use Rattle.clap.specs.Walk.{Row, Text, after_step, answers_to, finished, idle, nothing_held, rows_after, subcommand_met, subcommand_or_other, walk_from, walked, with_default}
use Rattle.clap.specs.Simple.{Shape, built, built_leaf, index_after, inherited, is_simple, label_of, marked_built, names_of, new_shape, on_top, subcommand_of, with_leaf_noted}
use Rattle.clap.specs.Takes.{default_passes, is_given, level_passes, other_passes, step_passes, takes}
use Rattle.clap.proofs.WalkLemmas.{both}
use Rattle.cy_args.specs.Command.{Form, form_of, forms}
use Rattle.cy_args.specs.private.Kept.{options_in}
use Rattle.cy_args.specs.Options.{AreOptions, Flag, Kind, Known, Options, Place, Value, places}
use Rattle.cy_args.specs.private.Program.{Head, heads, program, rule_of_known}
use Rattle.cy_args.proofs.Forms.{found_has, found_mapped, found_named, head_of, swapped}
use Rattle.cy_args.proofs.OptionsRead.{AreNames, is_name, nothing, some_same}
use Rattle.cy_args.proofs.ClapOptions.{built_at, built_from, kept_row, rows_show, shown_options}
use Rattle.cy_args.proofs.ClapWalk.{GoesTo, at_place, given_steps}
use Rattle.cy_args.proofs.ClapLevel.{Enters, IsOpen, all_default, knows_flags, entered_at, level_rows, level_taken, taken_at}

-- ---- what holds of any form

-- what any form has to be: names, no flag that is something else too, few places
abbrev is_sound : Form → Bool
is_sound f = list_all (λ k. is_name k.name) f.known && (knows_flags f.known f.known && nat_lt (length (places f.known)) 100)

all_sound : list_all is_sound forms ≡ true
all_sound = refl

sound : (name : Text) (f : Form) → form_of name ≡ Some f → is_sound f ≡ true
unfolding form_of
sound name f e = found_has is_sound forms name f e all_sound

pub names_of_form : (name : Text) (f : Form) → form_of name ≡ Some f → AreNames f.known
names_of_form name f e = (both _ _ (sound name f e)).0

below : (n : ℕ) → nat_lt n 100 ≡ true → n < 100
below n e = grind arith

-- ---- the program as it is built

pub is_simple_program : is_simple program ≡ true
is_simple_program = refl

abbrev above : Shape
above = (on_top with_leaf_noted (on_top marked_built program)).top

abbrev leaf : Head → Shape
leaf h = built_leaf (inherited above (record (new_shape h.name) { rules = map rule_of_known h.known }))

subs_are : (built program).subs ≡ map leaf heads
subs_are = refl

abbrev one_of : Form → List Form → Text → Bool → Option Shape
one_of g fs name t = cond (t || false) (Some (leaf (head_of g))) (find (λ (s : Shape). answers_to name (label_of s)) (map leaf (map head_of fs)))

sub_found : (fs : List Form) (name : Text) (f : Form) → find (λ (f : Form). bytes_eq name f.name) fs ≡ Some f
    → find (λ (s : Shape). answers_to name (label_of s)) (map leaf (map head_of fs)) ≡ Some (leaf (head_of f))
sub_found [] name f e = absurd (nothing f e)
sub_found (g ∷ fs) name f e = by (bytes_eq name g.name) refl (sub_found fs name f) e
  where
    by : (t : Bool) → bytes_eq name g.name ≡ t
        → (find (λ (f : Form). bytes_eq name f.name) fs ≡ Some f → find (λ (s : Shape). answers_to name (label_of s)) (map leaf (map head_of fs)) ≡ Some (leaf (head_of f)))
        → cond t (Some g) (find (λ (f : Form). bytes_eq name f.name) fs) ≡ Some f → one_of g fs name (bytes_eq g.name name) ≡ Some (leaf (head_of f))
    by true same rest e = ap (one_of g fs name) (swapped g.name name ∙ same) ∙ ap (λ (f : Form). Some (leaf (head_of f))) (some_same g f e)
    by false other rest e = ap (one_of g fs name) (swapped g.name name ∙ other) ∙ rest e

or_true : (b : Bool) → (b || true) ≡ true
or_true true = refl
or_true false = refl

sub_of_form : (name : Text) (f : Form) → form_of name ≡ Some f → find (λ (s : Shape). answers_to name (label_of s)) (built program).subs ≡ Some (leaf (head_of f))
unfolding form_of
sub_of_form name f e = ap (find (λ (s : Shape). answers_to name (label_of s))) subs_are ∙ sub_found forms name f e

named_form : (name : Text) (f : Form) → form_of name ≡ Some f → name ≡ f.name
unfolding form_of
named_form name f e = found_named forms name f e

-- the command of a form is entered by its name
enters : (name : Text) (f : Form) → form_of name ≡ Some f → Enters (built program) name (leaf (head_of f))
unfolding walked
enters name f e =
    let a = built program in
    let w = walk_from nothing_held in
    let found = sub_of_form name f e in
    let met : subcommand_met (names_of a) idle name ≡ Some name =
    ap (option_map (λ (p : Text × List Text). p.0)) (found_mapped (answers_to name) label_of a.subs ∙ ap (option_map label_of) found) ∙ ap Some (sym (named_form name f e)) in
    record {
      met = ap (λ (x : Option Text). after_step a.top.rules name w (subcommand_or_other a.top.rules x idle 1 name nothing_held).0 (subcommand_or_other a.top.rules x idle 1 name nothing_held).1) met;
      asked = ap (λ (x : Option Text). other_passes a.top x name nothing_held && step_passes a.top 1 (subcommand_or_other a.top.rules x idle 1 name nothing_held).0 (subcommand_or_other a.top.rules x idle 1 name nothing_held).1) met
          ∙ ap (λ (t : Bool). t && true) (or_true (not (bytes_eq name (codes "help"))));
      found = found;
      defaults = refl;
      valid = λ rows. refl;
    }

-- ---- what any command is that is told of rows

all_free : (known : List Known) (i : ℕ) → list_all (λ a. a.is_free) (built_from i known) ≡ true
all_free [] i = refl
all_free (k ∷ known) i = all_free known _

none_required : (known : List Known) (i : ℕ) (rows : List Row) → list_all (λ a. not a.required || is_given a.id rows) (built_from i known) ≡ true
none_required [] i rows = refl
none_required (k ∷ known) i rows = none_required known _ rows

default_of_one : (i : ℕ) (name : Text) (kind : Kind) → default_passes (built_at i name kind) ≡ true
default_of_one i name Place = refl
default_of_one i name Value = refl
default_of_one i name Flag = refl

defaults_pass : (known : List Known) (i : ℕ) → list_all default_passes (built_from i known) ≡ true
defaults_pass [] i = refl
defaults_pass (k ∷ known) i = ap (λ (t : Bool). t && list_all default_passes (built_from (index_after i (rule_of_known k)) known)) (default_of_one i k.name k.kind) ∙ defaults_pass known _

is_open : (h : Head) → IsOpen (leaf h)
is_open h = record {
  defaults = defaults_pass h.known 1;
  valid = λ rows. ap (λ (t : Bool). t && list_all (λ a. not a.required || is_given a.id rows) (built_from 1 h.known)) (all_free h.known 1) ∙ none_required h.known 1 rows;
}

-- ---- what is taken

-- the words are taken, and these rows are what is kept of them
pub record Reads (name : Text) (words : List Text) (rows : List Row) : Type 0 where
  pub taken : takes program (name ∷ words) ≡ true
  pub found : subcommand_of program (name ∷ words) ≡ Some (name, rows)

reads : (name : Text) (sub : Shape) (words : List Text) (rows : List Row) → Enters (built program) name sub → sub.name ≡ name → level_passes sub [] nothing_held words false ≡ true
    → rows_after sub.rules [] words ≡ rows → Reads name words rows
reads name sub words rows enters called passes kept = record {
  taken = ap (λ (t : Bool). is_simple program && t) (taken_at (built program) name words sub enters passes) ∙ is_simple_program;
  found = entered_at (built program) name words sub enters ∙ (ap (λ (n : Text). Some (n, rows_after sub.rules [] words)) called ∙ ap (λ (r : List Row). Some (name, r)) kept);
}

-- the words of a form are taken, and what they give is kept
pub form_read : (name : Text) (f : Form) (words : List Text) (o : Options) → form_of name ≡ Some f → AreOptions f.known words o → (rows : List Row) × Reads name words rows × (options_in f.known rows ≡ o)
form_read name f words o e p =
    let s = leaf (head_of f) in
    let tested : (knows_flags f.known f.known ≡ true) × (nat_lt (length (places f.known)) 100 ≡ true) = both _ _ (both _ _ (sound name f e)).1 in
    let steps = given_steps s f.known 1 [] p.given o nothing_held (record { rules = refl; names = names_of_form name f e; few = below (length (places f.known)) tested.1 }) p.are_known p.values (sym p.are_placed) refl (record { rows = refl; settles = refl }) in
    let goes = subst (λ (w : List Text). GoesTo s (walk_from nothing_held) w (at_place steps.number steps.to)) (sym p.are_spelled) steps.goes in
    let kept = finished s.rules steps.to in
    let is : kept ≡ fold with_default (map kept_row p.given) (built_from 1 f.known) = ap (λ (rows : List Row). fold with_default rows (built_from 1 f.known)) steps.ready.rows in (
      kept,
      reads name s words kept (enters name f e) (sym (named_form name f e)) (level_taken s nothing_held words (at_place steps.number steps.to) (is_open (head_of f)) goes steps.ready.settles)
          (level_rows s words (at_place steps.number steps.to) goes),
      ap (options_in f.known) is ∙ shown_options f.known o (fold with_default (map kept_row p.given) (built_from 1 f.known)) (all_default f.known 1 f.known o (map kept_row p.given) tested.0 (rows_show f.known words o p)),
    )
