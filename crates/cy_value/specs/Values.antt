-- Which form the values of a channel have.
use Rattle.std.specs.Prelude.{ℕ, ℤ, List, Option, Some, None, find, option_map, slice_get}
use Rattle.std.specs.List.{position}
use Rattle.std.specs.Str.{bytes_eq}
use Rattle.cy_wire.specs.Whole.{whole_value}
use Rattle.cy_value.specs.Value.{value_in}
use Rattle.cy_value.specs.declared.form.ValueForm.{ValueForm}
use Rattle.cy_value.specs.declared.values.ChannelValue.{ChannelValue}

-- The first one that is given for a channel.
abbrev pub form_of : List ChannelValue → (channel : List ℕ) → Option ValueForm
form_of values channel =
    option_map (λ value. value.form) (find (λ value. bytes_eq value.channel channel) values)

-- The same by its place among them.
abbrev pub place_of : List ChannelValue → (channel : List ℕ) → Option ℕ
place_of values channel = position (λ value. bytes_eq value.channel channel) values

abbrev pub form_at : List ChannelValue → Option ℕ → Option ValueForm
form_at values None = None
form_at values (Some place) = option_map (λ value. value.form) (slice_get values place)

-- The value of a content: where no form is given, it is read as the message Whole.
abbrev pub value_by : Option ValueForm → List ℕ → Option ℤ
value_by None content = whole_value content
value_by (Some form) content = value_in form content
