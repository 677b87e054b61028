-- Answers that got their values by a form: their origins stay, and so do the numbers of their calls.
use Rattle.std.proofs.Common.{ℕ, ◌≡◌, ◌∙◌, List, [], ◌∷◌, Option, Some, None, refl, ap, arith}
use Rattle.std.specs.Prelude.{map, nat_le, ◌&&◌, option_map, unwrap_or, slice_get}
use Rattle.std.proofs.lemmas.List.{length-map}
use Rattle.std.proofs.lemmas.Option.{slice_get-map}
use Rattle.cy_msg.specs.Tokens.{most_played}
use Rattle.cy_value.specs.declared.form.ValueForm.{ValueForm}
use Rattle.cy_comp.specs.Answers.{CallsRise, call_at}
use Rattle.cy_comp.specs.Kind.{is_kind_in_range}
use Rattle.cy_comp.specs.declared.answers.Answer.{Answer}
use Rattle.cy_comp.specs.declared.kind.Kind.TheVariants.{External}
use Rattle.cy_answers.specs.Valued.{valued_by}

pub in_range_valued : (form : ValueForm) (answers : List Answer) → is_kind_in_range (External (map (valued_by form) answers)) ≡ is_kind_in_range (External answers)
in_range_valued form [] = refl
in_range_valued form (a ∷ rest) = ap (λ b. nat_le most_played a.origin && b) (in_range_valued form rest)

same_call : (form : ValueForm) (o : Option Answer) → unwrap_or (option_map (λ (a : Answer). a.call) (option_map (valued_by form) o)) 0 ≡ unwrap_or (option_map (λ (a : Answer). a.call) o) 0
same_call form None = refl
same_call form (Some a) = refl

call_valued : (form : ValueForm) (answers : List Answer) (place : ℕ) → call_at (map (valued_by form) answers) place ≡ call_at answers place
call_valued form answers place =
    ap (λ o. unwrap_or (option_map (λ (a : Answer). a.call) o) 0) (slice_get-map (valued_by form) answers place)
    ∙ same_call form (slice_get answers place)

pub rise_valued : (form : ValueForm) (answers : List Answer) → CallsRise answers → CallsRise (map (valued_by form) answers)
rise_valued form answers rise i j less below =
    let rises = rise i j less (omega (arith, below, length-map answers (valued_by form))) in
    omega (arith, rises, call_valued form answers i, call_valued form answers j)
