use Rattle.std.proofs.Common.{◌≡◌, ◌∙◌, true, List, Option, Some, None, is_some, ap, option_map, refl, sym}
use Rattle.std.specs.Borrow.{Bor}
use Rattle.clap.specs.Words.{App, Row, Text, found_of, is_simple, rows_of, subcommand_of, takes}
use Rattle.clap.specs.Walk.{texts}
use Rattle.clap.specs.declared.parser.matches.ArgMatches.{ArgMatches}
use Rattle.cy_args.specs.private.Program.{program}
use Rattle.cy_args.proofs.ClapProgram.{is_simple_program}
use Rattle.cy_args.proofs.program.matches_of.Goals as goal

is_some_map : {A B : Type 0} (f : A → B) (x : Option A) → is_some (option_map f x) ≡ is_some x
is_some_map f None = refl
is_some_map f (Some a) = refl

kept_some : {A B C : Type 0} (f : A → C) (g : B → C) (x : Option A) (y z : Option B) → option_map f x ≡ option_map g y → y ≡ z → is_some z ≡ true → is_some x ≡ true
kept_some f g x y z e same some = sym (is_some_map f x) ∙ (ap is_some e ∙ (is_some_map g y ∙ (ap is_some same ∙ some)))

pub unwrap-found-requires : goal.unwrap-found-requires
unwrap-found-requires c =
    let entered = (c.in-Ok.ensures.matches (ap is_simple c.in_ok-program.ensures ∙ is_simple_program)).1 in
    kept_some (λ (p : Bor Text × ArgMatches). rows_of (found_of p.1)) (λ (p : Text × List Row). p.1) c.remove_subcommand.result _ (subcommand_of program (texts c.args.words.now)) c.remove_subcommand.ensures.rows
    (entered ∙ ap (λ (a : App). subcommand_of a (texts c.args.words.now)) c.in_ok-program.ensures) c.requires.named

pub returns-in-Ok : goal.returns-in-Ok
returns-in-Ok c =
    let entered = (c.in-Ok.ensures.matches (ap is_simple c.in_ok-program.ensures ∙ is_simple_program)).1 in
    sym (ap (option_map (λ (p : Bor Text × ArgMatches). rows_of (found_of p.1))) c.unwrap-found.ensures)
    ∙ (c.remove_subcommand.ensures.rows
    ∙ ap (option_map (λ (p : Text × List Row). p.1)) (entered ∙ ap (λ (a : App). subcommand_of a (texts c.args.words.now)) c.in_ok-program.ensures))

pub of_taken-requires : goal.of_taken-requires
of_taken-requires c = c.in-Err.ensures.passes (ap (λ (a : App). takes a (texts c.args.words.now)) c.in_ok-program.ensures ∙ c.requires.taken)
