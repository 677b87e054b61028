use Rattle.std.proofs.Common.{◌≡◌, ◌∙◌, List, Some, true, is_some, option_map, ap, subst, sym}
use Rattle.std.specs.Borrow.{Bor}
use Rattle.clap.specs.Walk.{texts}
use Rattle.clap.specs.Words.{Text, found_of, rows_of, subcommand_of, takes}
use Rattle.cy_args.specs.Command.{Asks}
use Rattle.cy_args.specs.private.Program.{program}
use Rattle.cy_args.specs.private.Scan.{command_of}
use Rattle.cy_args.specs.Views.{command_asked}
use Rattle.cy_args.proofs.Asked.{asks}
use Rattle.cy_args.proofs.InForm.{in_form, was_found}
use Rattle.cy_args.proofs.Read.{all_read, same_kept, then_asked}
use Rattle.cy_args.proofs.command_words.CommandWords.command.Goals as goal

pub matches_of-requires-clause-taken : goal.matches_of-requires-clause-taken
matches_of-requires-clause-taken c =
    subst (λ (l : List (Bor Text)). takes program (texts l) ≡ true) (sym c.as_slice.ensures.value) (all_read c.self.inside.words.items c.self.inside.asks).taken

pub matches_of-requires-clause-named : goal.matches_of-requires-clause-named
matches_of-requires-clause-named c =
    subst (λ (l : List (Bor Text)). is_some (subcommand_of program (texts l)) ≡ true) (sym c.as_slice.ensures.value) (all_read c.self.inside.words.items c.self.inside.asks).named

found_is : (c : goal.After-asked_of) → option_map command_asked c.asked_of.result ≡ command_of (texts c.self.inside.words.items)
found_is c =
    let r = all_read c.self.inside.words.items c.self.inside.asks in
    let kept = same_kept c.self.inside.words.items c.as_slice.result.now r (rows_of (found_of c.in_ok-found.found)) c.as_slice.ensures.value c.in_ok-found.ensures in
    then_asked c.self.inside.words.items r c.index.result.now (rows_of (found_of c.in_ok-found.found)) (option_map command_asked c.asked_of.result) c.index.ensures c.asked_of.ensures kept

pub unwrap-requires : goal.unwrap-requires
unwrap-requires c = was_found c.asked_of.result (texts c.self.inside.words.items) (found_is c) c.self.inside.asks

pub returns-clause-asked : goal.returns-clause-asked
returns-clause-asked c =
    let r = all_read c.self.inside.words.items c.self.inside.asks in
    let kept = same_kept c.self.inside.words.items c.as_slice.result.now r (rows_of (found_of c.in_ok-found.found)) c.as_slice.ensures.value c.in_ok-found.ensures in
    let is = then_asked c.self.inside.words.items r c.index.result.now (rows_of (found_of c.in_ok-found.found)) (option_map command_asked c.asked_of.result) c.index.ensures c.asked_of.ensures kept in
    subst (λ (words : List Text). Asks words (command_asked c.unwrap.result)) c.self.view_is
    (asks (texts c.self.inside.words.items) (command_asked c.unwrap.result) (sym is ∙ ap (option_map command_asked) c.unwrap.ensures))

pub returns-clause-form : goal.returns-clause-form
returns-clause-form c =
    let r = all_read c.self.inside.words.items c.self.inside.asks in
    let kept = same_kept c.self.inside.words.items c.as_slice.result.now r (rows_of (found_of c.in_ok-found.found)) c.as_slice.ensures.value c.in_ok-found.ensures in
    let is = then_asked c.self.inside.words.items r c.index.result.now (rows_of (found_of c.in_ok-found.found)) (option_map command_asked c.asked_of.result) c.index.ensures c.asked_of.ensures kept in
    in_form (texts c.self.inside.words.items) (Some c.unwrap.result) (sym (ap (option_map command_asked) c.unwrap.ensures) ∙ is)
