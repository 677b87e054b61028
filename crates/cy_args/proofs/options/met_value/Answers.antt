use Rattle.std.proofs.Common.{◌≡◌, ◌∙◌, None, Some, ap, option_map, rules}
use Rattle.std.specs.Borrow.{Bor}
use Rattle.std.proofs.Common.{List, ℕ}
use Rattle.cy_args.specs.private.OptionViews.{place_in, table_of}
use Rattle.cy_args.proofs.Places.{met_at, none_met}
use Rattle.cy_args.proofs.options.met_value.Goals as goal

pub returns-in_err-place : goal.returns-in_err-place
returns-in_err-place c =
    let none : place_in (table_of c.args.known.now) c.args.name.now ≡ None = search rules in
    let result : c.from_residual.result ≡ None = search rules in
    ap (option_map (λ (v : Bor (List ℕ)). v.now)) result ∙ none_met (table_of c.args.known.now) c.args.name.now c.args.options.now none

pub returns : goal.returns
returns c =
    let is : place_in (table_of c.args.known.now) c.args.name.now ≡ Some c.in_ok-place.place = search rules in
    met_at (table_of c.args.known.now) c.args.name.now c.args.options.now c.in_ok-place.place is
