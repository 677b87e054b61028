-- What a file comes to, by its configuration and its groups.
use Rattle.std.proofs.Common.{ℕ, ◌≡◌, Bool, false, Option, Some, None, Result, Ok, Err, if◌then◌else◌, List, [], ◌∷◌, refl, ap, sym, subst, ◌∙◌}
use Rattle.std.specs.Prelude.{IfOk, IfErr, option_map}
use Rattle.std.specs.Option.{option_or}
use Rattle.cy_text.specs.Fields.{Fields}
use Rattle.cy_config.specs.Checks.{first_misfit, unknown_paths}
use Rattle.cy_config.specs.Refusals.{first_of}
use Rattle.cy_sched.specs.Format.{sched_field}
use Rattle.cy_sched.specs.Refusals.{IsDue}
use Rattle.cy_sched.specs.SchedFile.{classic_refusal, conf_of, conf_refusal, groups_of, groups_refusal, no_group, sched_in, sched_of, sched_refusal}
use Rattle.cy_sched.specs.declared.error.SchedError.{SchedError}
use Rattle.cy_sched.specs.declared.error.SchedError.TheVariants.{Shape, NoGroup, Memory}
use Rattle.cy_sched.specs.declared.format.SchedMessage.TheVariants.{File}
use Rattle.cy_sched.specs.declared.sched.Group.{Group}
use Rattle.cy_sched.specs.declared.sched.Sched.{Sched}

-- Behind a test that refuses nothing.
rest_due : (a b : Option SchedError) (e : SchedError) → a ≡ None → IsDue b e → IsDue (option_or a b) e
rest_due a b Memory none due = tt
rest_due a b e none due = rw (none, due) refl

rest_none : (a b : Option SchedError) → a ≡ None → b ≡ None → option_or a b ≡ None
rest_none a b none also = rw (none, also) refl

last_none : (a : Option SchedError) → option_or a None ≡ a
last_none None = refl
last_none (Some e) = refl

module _ (file conf : Fields) (fits : first_misfit sched_field File [] file ≡ None) (is : conf ≡ conf_of file) where
  abbrev shape : Option SchedError
  shape = option_map (λ path. Shape path) (first_misfit sched_field File [] file)

  fit : shape ≡ None
  fit = ap (option_map (λ path. Shape path)) fits

  -- A configuration is refused, or none is.
  pub file_refused : (r : Result Sched SchedError) → IfErr r (IsDue (conf_refusal conf)) → IfErr r (IsDue (sched_refusal file))
  file_refused (Ok s) due = tt
  file_refused (Err e) due = rest_due shape (first_of (conf_refusal (conf_of file) ∷ [])) e fit
      (subst (λ (o : Option SchedError). IsDue o e) (sym (last_none (conf_refusal (conf_of file)))) (subst (λ (x : Fields). IsDue (conf_refusal x) e) is due))

  pub file_accepted : (unknown : List (List ℕ)) (r : Result Sched SchedError) → unknown ≡ unknown_paths sched_field File [] file → IfOk r (λ s. (conf_refusal conf ≡ None) × (s ≡ sched_in conf unknown))
      → IfOk r (λ s. (sched_refusal file ≡ None) × (s ≡ sched_of file))
  file_accepted unknown (Ok s) paths so = (
    rest_none shape (first_of (conf_refusal (conf_of file) ∷ [])) fit (last_none (conf_refusal (conf_of file)) ∙ ap conf_refusal (sym is) ∙ so.0),
    so.1 ∙ ap (λ (x : Fields). sched_in x unknown) is ∙ ap (sched_in (conf_of file)) paths,
  )
  file_accepted unknown (Err e) paths so = tt

-- Groups are refused, or none is.
none_where : (b : Bool) → b ≡ false → (let o : Option SchedError = if b then Some NoGroup else None in o ≡ None)
none_where b is = rw is refl

module _ (conf : Fields) (groups : List Group) (some : no_group conf ≡ false) (are : groups ≡ groups_of conf) where
  pub groups_refused : (e : SchedError) → IsDue (groups_refusal groups) e → IsDue (classic_refusal conf) e
  groups_refused e due =
      rest_due (if no_group conf then Some NoGroup else None) (groups_refusal (groups_of conf)) e (none_where (no_group conf) some) (subst (λ (gs : List Group). IsDue (groups_refusal gs) e) are due)

  pub groups_accepted : groups_refusal groups ≡ None → classic_refusal conf ≡ None
  groups_accepted none =
      rest_none (if no_group conf then Some NoGroup else None) (groups_refusal (groups_of conf)) (none_where (no_group conf) some) (ap groups_refusal (sym are) ∙ none)
