-- The code finds the command that words ask for, and none where they ask for none.
use Rattle.std.proofs.Common.{◌≡◌, ℕ, List, [], ◌∷◌, Bool, true, false, Option, Some, None, is_some, if◌then◌else◌, refl, sym, ap, ◌∙◌, subst, true≢false}
use Rattle.std.proofs.Common.{option_map, option_and_then}
use Rattle.cy_args.specs.declared.words.Command as code
use Rattle.cy_args.specs.Asking.{IsSomeAsked}
use Rattle.cy_args.specs.Command.{Command, Play, AskForOne, Asks, AsksStill, Form, IsAsked, IsOnlyAsked, IsStill, form_of}
use Rattle.cy_args.specs.Options.{Options}
use Rattle.cy_args.specs.FilterWords.{◌>>=◌}
use Rattle.cy_args.specs.private.Scan.{command_of, read_options, still_command_of, still_one}
use Rattle.cy_args.specs.Views.{command_asked}
use Rattle.cy_args.proofs.ClapProgram.{names_of_form}
use Rattle.cy_args.proofs.OptionsRead.{bound, nothing, options_are, options_found, some_same}

pub found : (words : List (List ℕ)) (c : Command) → Asks words c → command_of words ≡ Some c
found [] c h = absurd h
found (name ∷ words) c h =
    ap (λ (x : Option Form). x >>= λ f. read_options f.known words >>= f.asked) h.1
    ∙ (ap (λ (x : Option Options). x >>= h.0.asked) (options_found h.0.known (names_of_form name h.0 h.1) words h.2.options h.2.are_options) ∙ h.2.asks)

pub asks : (words : List (List ℕ)) (c : Command) → command_of words ≡ Some c → Asks words c
asks [] c e = absurd (nothing c e)
asks (name ∷ words) c e =
    let b = bound (form_of name) (λ f. read_options f.known words >>= f.asked) c e in
    let d = bound (read_options b.0.known words) b.0.asked c b.2 in
    (b.0, b.1, record { options = d.0; are_options = options_are b.0.known words d.0 d.1; asks = d.2 })

by_what : (asks : Command → Type 0) (x asked : Option Command) → ((c : Command) → asks c → x ≡ Some c) → ((c : Command) → x ≡ Some c → asks c) → IsAsked asks asked → x ≡ asked
by_what asks None None one back h = refl
by_what asks (Some c) None one back h = absurd (h c (back c refl))
by_what asks x (Some c) one back h = one c h

still_found : (c : Command) → IsStill c → still_one c ≡ Some c
still_found (Play w) h = ap (λ (b : Bool). if b then Some (Play w) else None) h
still_found c h = refl

still_is : (c other : Command) → still_one c ≡ Some other → (c ≡ other) × IsStill c
still_is (Play w) other e = by w.serial e
  where
    by : (b : Bool) → (if b then Some (Play w) else None) ≡ Some other → (Play w ≡ other) × (b ≡ true)
    by true e = (some_same (Play w) other e, refl)
    by false e = absurd (nothing other e)
still_is c other e = (some_same c other e, tt)

found_by : (x : Option Command) (f : Command → Option Command) (c : Command) → option_and_then f x ≡ Some c → (a : Command) × (x ≡ Some a) × (f a ≡ Some c)
found_by None f c e = absurd (nothing c e)
found_by (Some a) f c e = (a, refl, e)

once : (asks : Command → Type 0) (x : Option Command) → ((c : Command) → asks c → x ≡ Some c) → ((c : Command) → x ≡ Some c → asks c) → IsOnlyAsked asks x
once asks x one back = (by x refl, λ other h. sym (by_what asks x other one back h))
  where
    by : (y : Option Command) → x ≡ y → IsAsked asks y
    by None e = λ c h. nothing c (sym e ∙ one c h)
    by (Some c) e = back c e

still_one_found : (words : List (List ℕ)) (c : Command) → AsksStill words c → still_command_of words ≡ Some c
still_one_found words c h = ap (option_and_then still_one) (found words c h.0) ∙ still_found c h.1

still_asks : (words : List (List ℕ)) (c : Command) → still_command_of words ≡ Some c → AsksStill words c
still_asks words c e =
    let b = found_by (command_of words) still_one c e in
    let s = still_is b.0 c b.2 in
    (subst (Asks words) s.0 (asks words b.0 b.1), subst IsStill s.0 s.1)

pub ask_for_one : AskForOne
ask_for_one words = (
  (command_of words, once (Asks words) (command_of words) (found words) (asks words)),
  (still_command_of words, once (AsksStill words) (still_command_of words) (still_one_found words) (still_asks words)),
)

-- no words ask for two commands
pub one_asked : (words : List (List ℕ)) (a b : Command) → Asks words a → Asks words b → a ≡ b
one_asked words a b h k = some_same a b (sym (found words a h) ∙ found words b k)

-- what the scan says of the words, where it finds no command and where it finds one
none_there : (asks : Command → Type 0) (x : Option Command) (f : Option code.Command) → ((c : Command) → asks c → x ≡ Some c) → option_map command_asked f ≡ x
    → is_some f ≡ false → IsAsked asks None
none_there asks x None one is none = λ c h. nothing c (is ∙ one c h)
none_there asks x (Some f) one is none = absurd (true≢false none)

one_there : (asks : Command → Type 0) (x : Option Command) (f : Option code.Command) → ((c : Command) → x ≡ Some c → asks c) → option_map command_asked f ≡ x
    → is_some f ≡ true → IsSomeAsked asks
one_there asks x None back is some = absurd (true≢false (sym some))
one_there asks x (Some f) back is some = (command_asked f, back (command_asked f) (sym is))

pub none_asked : (words : List (List ℕ)) (f : Option code.Command) → option_map command_asked f ≡ command_of words → is_some f ≡ false → IsAsked (Asks words) None
none_asked words f = none_there (Asks words) (command_of words) f (found words)

pub some_asked : (words : List (List ℕ)) (f : Option code.Command) → option_map command_asked f ≡ command_of words → is_some f ≡ true → IsSomeAsked (Asks words)
some_asked words f = one_there (Asks words) (command_of words) f (asks words)

pub none_asked_still : (words : List (List ℕ)) (f : Option code.Command) → option_map command_asked f ≡ still_command_of words → is_some f ≡ false
    → IsAsked (AsksStill words) None
none_asked_still words f = none_there (AsksStill words) (still_command_of words) f (still_one_found words)

pub some_asked_still : (words : List (List ℕ)) (f : Option code.Command) → option_map command_asked f ≡ still_command_of words → is_some f ≡ true
    → IsSomeAsked (AsksStill words)
some_asked_still words f = one_there (AsksStill words) (still_command_of words) f (still_asks words)

-- what asks for a command where there are no threads asks for one where there are
pub still_some : (words : List (List ℕ)) → is_some (still_command_of words) ≡ true → is_some (command_of words) ≡ true
still_some words e = by (command_of words) e
  where
    by : (x : Option Command) → is_some (option_and_then still_one x) ≡ true → is_some x ≡ true
    by None e = e
    by (Some c) e = refl
