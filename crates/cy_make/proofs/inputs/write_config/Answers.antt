use Rattle.std.proofs.lemmas.Result.{err_from_is_err_and}
use Rattle.std.proofs.Common.{rules, ◌≡◌, ◌++◌, ◌∷◌, [], ◌∙◌, ℕ, List, Err, ap, subst}
use Rattle.std.specs.Option.{option_map}
use Rattle.cy_store.specs.Write.{Write, after_writes}
use Rattle.cy_make.specs.declared.error.MakeError.{MakeError}
use Rattle.cy_make.specs.declared.error.MakeError.TheVariants.{Config as AtConfig, Memory}
use Rattle.cy_make.specs.Inputs.{config_writes, MakesFiles}
use Rattle.cy_make.proofs.Writing.{config_same, not_begun, not_written, written}
use Rattle.cy_make.proofs.inputs.write_config.Goals as goal

pub returns-in_err-name : goal.returns-in_err-name
returns-in_err-name g c =
    let p = err_from_is_err_and c.from_residual.result c.from_residual.ensures.1 in
    not_begun c.from_residual.result c.args.prefix.now (config_writes c.args.prefix.now c.args.config) (g.S.Store.shows c.args.store.now) (p.1 ∙ ap (λ (e : MakeError). Err e) p.2)

pub returns-in_err-text : goal.returns-in_err-text
returns-in_err-text g c =
    let none : c.from_residual-in_err-text.result ≡ Err Memory = search rules in
    not_begun c.from_residual-in_err-text.result c.args.prefix.now (config_writes c.args.prefix.now c.args.config) (g.S.Store.shows c.args.store.now) none

pub returns-in-Ok : goal.returns-in-Ok
returns-in-Ok g c =
    let prefix = c.args.prefix.now in
    let config = c.args.config in
    let old = g.S.Store.shows c.args.store.now in
    let new = g.S.Store.shows c.write_file.new.store in
    let named = c.as_str.ensures.value ∙ c.in_ok-name.ensures ∙ ap (λ (s : List ℕ). prefix ++ s) c.suffix.ensures in
    let same = config_same prefix c.as_str.result.now c.as_slice.result.now config named (c.as_slice.ensures ∙ c.in_ok-text.ensures.text) in
    written prefix (config_writes prefix config) old new
    (c.in-Ok.ensures.makes.done ∙ ap (λ (ws : List Write). option_map (after_writes ws) old.files) same)
    (c.in-Ok.ensures.causes.quiet (λ e. cc))

pub returns : goal.returns
returns g c =
    let prefix = c.args.prefix.now in
    let config = c.args.config in
    let old = g.S.Store.shows c.args.store.now in
    let new = g.S.Store.shows c.write_file.new.store in
    let named = c.as_str.ensures.value ∙ c.in_ok-name.ensures ∙ ap (λ (s : List ℕ). prefix ++ s) c.suffix.ensures in
    let same = config_same prefix c.as_str.result.now c.as_slice.result.now config named (c.as_slice.ensures ∙ c.in_ok-text.ensures.text) in
    subst (λ (ws : List Write). MakesFiles {T = Unit {0}} prefix ws old new (Err c.blamed.result)) same
    (not_written (AtConfig config) c.blamed.result c.in-Err.error prefix c.as_str.result.now ((0, c.as_slice.result.now) ∷ []) old new named
    (record { failed = c.blamed.ensures.failed; memory = c.blamed.ensures.memory }) c.in-Err.ensures.unbroken c.in-Err.ensures.makes c.in-Err.ensures.causes)
