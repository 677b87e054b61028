-- The form of a name among all forms.
use Rattle.std.proofs.Common.{◌≡◌, List, [], ◌∷◌, Bool, true, false, Option, Some, None, cond, refl, sym, ap, ◌∙◌, subst, true≢false}
use Rattle.std.proofs.Common.{bytes_eq, map, option_map}
use Rattle.std.specs.Borrow.{Bor}
use Rattle.std.specs.List.{find, list_all}
use Rattle.clap.specs.Walk.{Text}
use Rattle.clap.proofs.WalkLemmas.{both}
use Rattle.cy_args.specs.Command.{Form}
use Rattle.cy_args.specs.private.OptionViews.{Row}
use Rattle.cy_args.specs.private.Program.{Head}
use Rattle.cy_args.proofs.OptionsRead.{itself, nothing, same_name, some_same}

pub swapped : (a b : Text) → bytes_eq a b ≡ bytes_eq b a
swapped a b = by (bytes_eq a b) (bytes_eq b a) refl refl
  where
    by : (t u : Bool) → bytes_eq a b ≡ t → bytes_eq b a ≡ u → t ≡ u
    by true true p q = refl
    by false false p q = refl
    by true false p q = absurd (true≢false (sym (itself a) ∙ ap (λ (x : Text). bytes_eq x a) (same_name a b p) ∙ q))
    by false true p q = absurd (true≢false (sym (itself b) ∙ ap (λ (x : Text). bytes_eq x b) (same_name b a q) ∙ p))

-- what is found has the name, and what all have
pub found_named : (fs : List Form) (name : Text) (f : Form) → find (λ (f : Form). bytes_eq name f.name) fs ≡ Some f → name ≡ f.name
found_named [] name f e = absurd (nothing f e)
found_named (g ∷ fs) name f e = by (bytes_eq name g.name) refl (found_named fs name f) e
  where
    by : (t : Bool) → bytes_eq name g.name ≡ t → (find (λ (f : Form). bytes_eq name f.name) fs ≡ Some f → name ≡ f.name)
        → cond t (Some g) (find (λ (f : Form). bytes_eq name f.name) fs) ≡ Some f → name ≡ f.name
    by true same rest e = same_name name g.name same ∙ ap (λ (f : Form). f.name) (some_same g f e)
    by false other rest e = rest e

pub found_has : (test : Form → Bool) (fs : List Form) (name : Text) (f : Form) → find (λ (f : Form). bytes_eq name f.name) fs ≡ Some f → list_all test fs ≡ true → test f ≡ true
found_has test [] name f e all = absurd (nothing f e)
found_has test (g ∷ fs) name f e all = by (bytes_eq name g.name) (λ e. found_has test fs name f e (both _ _ all).1) e
  where
    by : (t : Bool) → (find (λ (f : Form). bytes_eq name f.name) fs ≡ Some f → test f ≡ true) → cond t (Some g) (find (λ (f : Form). bytes_eq name f.name) fs) ≡ Some f → test f ≡ true
    by true rest e = subst (λ (f : Form). test f ≡ true) (some_same g f e) (both _ _ all).0
    by false rest e = rest e

pub found_mapped : {X Y : Type 0} (p : Y → Bool) (g : X → Y) (xs : List X) → find p (map g xs) ≡ option_map g (find (λ x. p (g x)) xs)
found_mapped p g [] = refl
found_mapped {X} p g (x ∷ xs) = by (p (g x)) (found_mapped p g xs)
  where
    by : (t : Bool) → find p (map g xs) ≡ option_map g (find (λ x. p (g x)) xs) → cond t (Some (g x)) (find p (map g xs)) ≡ option_map g (cond t (Some x) (find (λ x. p (g x)) xs))
    by true rest = refl
    by false rest = rest

-- ---- the code's table has the same names, and what is known of the words behind them

abbrev pub head_of : Form → Head
head_of f = record { name = f.name; known = f.known }

pub both_mapped : {A B C : Type 0} (f : A → B) (g : B → C) (x : Option A) → option_map g (option_map f x) ≡ option_map (λ a. g (f a)) x
both_mapped f g None = refl
both_mapped f g (Some a) = refl

abbrev pub Code : Type 0
Code = Bor Text × Bor (List Row)

pub known_found : (fs : List Form) (name : Text) → option_map (λ (h : Head). h.known) (find (λ (h : Head). bytes_eq name h.name) (map head_of fs)) ≡ option_map (λ (f : Form). f.known) (find (λ (f : Form). bytes_eq name f.name) fs)
known_found fs name =
    ap (option_map (λ (h : Head). h.known)) (found_mapped (λ (h : Head). bytes_eq name h.name) head_of fs) ∙ both_mapped head_of (λ (h : Head). h.known) (find (λ (f : Form). bytes_eq name f.name) fs)
