use Rattle.std.proofs.Common.{◌∙◌, Bool, ap, bytes_eq, option_map, sym}
use Rattle.std.specs.Borrow.{Bor}
use Rattle.cy_args.specs.private.OptionViews.{head_as}
use Rattle.cy_args.specs.private.Program.{Head}
use Rattle.cy_args.proofs.Forms.{Code, both_mapped, found_mapped}
use Rattle.cy_args.proofs.words.form_in.Goals as goal

pub returns : goal.returns
returns c =
    let named : Head → Bool = λ h. bytes_eq c.args.name.now h.name in
    sym (both_mapped (λ (f : Bor Code). f.now) head_as c.first_form.result) ∙ (ap (option_map head_as) c.first_form.ensures ∙ sym (found_mapped named head_as c.args.forms.now))
