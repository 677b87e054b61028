use Rattle.std.proofs.Common.{◌≡◌, ◌∙◌, None, Some, ap, option_map, rules, sym}
use Rattle.cy_args.specs.private.OptionViews.{kind_as, place_in, table_of}
use Rattle.cy_args.proofs.Places.{has_there, none_has}
use Rattle.cy_args.proofs.options.kind_of.Goals as goal

pub returns-in_err-place : goal.returns-in_err-place
returns-in_err-place c =
    let none : place_in (table_of c.args.known.now) c.args.name.now ≡ None = search rules in
    let result : c.from_residual.result ≡ None = search rules in
    ap (option_map kind_as) result ∙ sym (none_has (table_of c.args.known.now) c.args.name.now none)

pub returns : goal.returns
returns c =
    let is : place_in (table_of c.args.known.now) c.args.name.now ≡ Some c.in_ok-place.place = search rules in
    sym (has_there c.args.known.now c.args.name.now c.in_ok-place.place _ is)
