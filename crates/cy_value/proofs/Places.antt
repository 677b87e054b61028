-- The first form that is given for a channel, and its place.
use Rattle.std.proofs.Common.{◌≡◌, ℕ, List, refl, ap, sym, ◌∙◌, Some, None, Bool, true, false}
use Rattle.std.proofs.Common.{option_map, cond, length, ltb-false}
use Rattle.std.specs.Prelude.{find, nat_lt}
use Rattle.std.specs.List.{position_or_len}
use Rattle.std.specs.Str.{bytes_eq}
use Rattle.std.proofs.lemmas.List.Folds.{find_at}
use Rattle.std.proofs.lemmas.Option.{slice_get_past}
use Rattle.cy_value.specs.Values.{form_at, form_of, place_of}
use Rattle.cy_value.specs.declared.form.ValueForm.{ValueForm}
use Rattle.cy_value.specs.declared.values.ChannelValue.{ChannelValue}

abbrev its_form : ChannelValue → ValueForm
its_form value = value.form

by_test : (p : ChannelValue → Bool) (values : List ChannelValue) (b : Bool)
    → nat_lt (position_or_len p values) (length values) ≡ b
    → form_at values (cond b (Some (position_or_len p values)) None)
    ≡ option_map its_form (find p values)
by_test p values true e = ap (option_map its_form) (sym (find_at p values))
by_test p values false e =
    let past = ltb-false _ _ e in
    sym (ap (option_map its_form)
    (find_at p values ∙ slice_get_past values (position_or_len p values) past))

pub form-at_place : (values : List ChannelValue) (channel : List ℕ)
    → form_at values (place_of values channel) ≡ form_of values channel
form-at_place values channel =
    let p : ChannelValue → Bool = λ v. bytes_eq v.channel channel in
    by_test p values (nat_lt (position_or_len p values) (length values)) refl
