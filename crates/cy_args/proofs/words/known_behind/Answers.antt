use Rattle.std.proofs.Common.{◌≡◌, ◌∙◌, List, None, Option, Some, ap, option_map, rules, sym}
use Rattle.std.specs.Borrow.{Bor}
use Rattle.cy_args.specs.Command.{form_of, forms}
use Rattle.cy_args.specs.private.OptionViews.{Row, head_as, table_of}
use Rattle.cy_args.specs.Options.{Known}
use Rattle.cy_args.specs.private.Program.{Head}
use Rattle.cy_args.proofs.Forms.{Code, known_found}
use Rattle.cy_args.proofs.words.known_behind.Goals as goal

abbrev known_in : Head → List Known
known_in h = h.known

pub returns-in_err-form-clause-known : goal.returns-in_err-form-clause-known
unfolding form_of
returns-in_err-form-clause-known c =
    let none : c.form_in.result ≡ None = search rules in
    let result : c.from_residual.result ≡ None = search rules in
    ap (option_map (λ (k : Bor (List Row)). table_of k.now)) result
    ∙ (ap (λ (x : Option (Bor Code)). option_map known_in (option_map (λ f. head_as f.now) x)) (sym none) ∙ (ap (option_map known_in) c.form_in.ensures ∙ known_found forms c.args.name.now))

pub returns-clause-known : goal.returns-clause-known
unfolding form_of
returns-clause-known c =
    let some : Some c.in_ok-form.form ≡ c.form_in.result = search rules in
    ap (λ (x : Option (Bor Code)). option_map known_in (option_map (λ f. head_as f.now) x)) some ∙ (ap (option_map known_in) c.form_in.ensures ∙ known_found forms c.args.name.now)
