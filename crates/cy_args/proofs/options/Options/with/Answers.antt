use Rattle.std.proofs.Common.{◌≡◌, ◌∙◌, None, Some, ap, arith, is_some, get_or, option_map, rules, false}
use Rattle.cy_args.specs.declared.options.Kind.TheVariants as kind
use Rattle.cy_args.specs.private.OptionViews.{options_of, place_in, table_of}
use Rattle.cy_args.proofs.Places.{place_within, put_again, put_first, put_unknown}
use Rattle.cy_args.proofs.options.Options.with.Goals as goal

pub returns-in_err-place : goal.returns-in_err-place
returns-in_err-place c =
    let none : place_in (table_of c.args.known.now) c.args.name.now ≡ None = search rules in
    let result : c.from_residual.result ≡ None = search rules in
    ap (option_map (options_of (table_of c.args.known.now))) result
    ∙ put_unknown (table_of c.args.known.now) c.args.name.now c.args.value.now (options_of (table_of c.args.known.now) c.args.self) none

pub returns-then-is_some : goal.returns-then-is_some
returns-then-is_some c =
    let is : place_in (table_of c.args.known.now) c.args.name.now ≡ Some c.in_ok-place.place = search rules in
    put_again c.args.known.now c.args.name.now c.args.value.now c.args.self c.in_ok-place.place (c.args.name, kind.Flag) is (search rules)

pub with_value_at-requires : goal.with_value_at-requires
with_value_at-requires c =
    let is : place_in (table_of c.args.known.now) c.args.name.now ≡ Some c.in_ok-place.place = search rules in
    omega (arith, place_within c.args.known.now c.args.name.now c.in_ok-place.place is)

pub returns : goal.returns
returns c =
    let is : place_in (table_of c.args.known.now) c.args.name.now ≡ Some c.in_ok-place.place = search rules in
    let none : is_some (get_or c.args.self.values c.in_ok-place.place None) ≡ false = search rules in
    ap (λ values. Some (options_of (table_of c.args.known.now) (record { values = values }))) c.with_value_at.ensures.values
    ∙ put_first c.args.known.now c.args.name.now c.args.value c.args.self c.in_ok-place.place (c.args.name, kind.Flag) is c.with_value_at.ensures.within none
