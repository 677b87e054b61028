use Rattle.std.proofs.lemmas.Result.{err_from_is_err_and}
use Rattle.std.proofs.Common.{rules, ◌≡◌, ◌∙◌, ℕ, List, Err, ap, subst}
use Rattle.std.specs.Option.{option_map}
use Rattle.cy_store.specs.Write.{Write, after_writes}
use Rattle.cy_writer.specs.Record.{messages_on}
use Rattle.cy_writer.specs.RecordWrites.{record_puts, chunks_given}
use Rattle.cy_make.specs.declared.error.MakeError.{MakeError}
use Rattle.cy_make.specs.declared.error.MakeError.TheVariants.{Record}
use Rattle.cy_make.specs.Messages.{channels_of}
use Rattle.cy_make.specs.private.Steps.{given_after}
use Rattle.cy_make.specs.Inputs.{made_record_writes, MakesFiles}
use Rattle.cy_make.proofs.Writing.{record_same, not_begun, not_written, written}
use Rattle.cy_make.proofs.inputs.write_record.Goals as goal

pub returns-in_err-name : goal.returns-in_err-name
returns-in_err-name g c =
    let p = err_from_is_err_and c.from_residual.result c.from_residual.ensures.1 in
    not_begun c.from_residual.result c.args.prefix.now (made_record_writes c.args.count c.args.prefix.now) (g.S.Store.shows c.args.store.now) (p.1 ∙ ap (λ (e : MakeError). Err e) p.2)

pub returns-in-Ok : goal.returns-in-Ok
returns-in-Ok g c =
    let prefix = c.args.prefix.now in
    let n = c.args.count in
    let old = g.S.Store.shows c.args.store.now in
    let new = g.S.Store.shows c.write_made_record.new.store in
    let same = record_same n prefix c.as_str.result.now (c.as_str.ensures.value ∙ c.in_ok-name.ensures) in
    written prefix (made_record_writes n prefix) old new
    (c.in-Ok.ensures.makes.done ∙ ap (λ (ws : List Write). option_map (after_writes ws) old.files) same)
    (c.in-Ok.ensures.causes.quiet (λ e. cc))

pub returns : goal.returns
returns g c =
    let prefix = c.args.prefix.now in
    let n = c.args.count in
    let name = c.as_str.result.now in
    let old = g.S.Store.shows c.args.store.now in
    let new = g.S.Store.shows c.write_made_record.new.store in
    let named = c.as_str.ensures.value ∙ c.in_ok-name.ensures in
    let puts = record_puts (channels_of n) (chunks_given name (channels_of n) (messages_on (channels_of n) (given_after 0 n))) in
    subst (λ (ws : List Write). MakesFiles {T = Unit {0}} prefix ws old new (Err c.blamed.result)) (record_same n prefix name named)
    (not_written Record c.blamed.result c.in-Err.error prefix name puts old new named
    (record { failed = c.blamed.ensures.failed; memory = c.blamed.ensures.memory }) c.in-Err.ensures.unbroken c.in-Err.ensures.makes c.in-Err.ensures.causes)
