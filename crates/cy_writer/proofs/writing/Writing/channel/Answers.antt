use Rattle.std.proofs.Common.{rules, ◌≡◌, ◌++◌, ℕ, List, IsOkUnless, refl, ap, ◌∙◌}
use Rattle.cy_section.specs.declared.types.SectionKind.TheVariants as kind
use Rattle.cy_section.specs.Section.{section, channel_body}
use Rattle.std.proofs.lemmas.Result.{err_from_is_err_and, IfErr-at_err, IfOk-from_err}
use Rattle.cy_writer.specs.declared.error.WriteError.{WriteError}
use Rattle.cy_writer.specs.declared.error.WriteError.TheVariants as write_error
use Rattle.cy_writer.proofs.Puts.{causes_same}
use Rattle.cy_writer.proofs.Standing.{stands_channel}
use Rattle.cy_writer.proofs.Stopping.{stands_same}
use Rattle.cy_writer.proofs.Unput.{puts_without_memory, stays_without_memory, known_ok, puts_section, channel_unput, stays_unput}
use Rattle.cy_writer.proofs.Left.{left_channel}
use Rattle.cy_writer.proofs.writing.Writing.channel.Goals as goal

pub returns-in_err-put-clause-puts : goal.returns-in_err-put-clause-puts
returns-in_err-put-clause-puts g c =
    let p = err_from_is_err_and c.from_residual-in_err-put.result c.from_residual-in_err-put.ensures.1 in
    let added : c.put_channel.new.to ≡ c.new-section.result ++ section kind.Channel (channel_body c.args.channel) = search rules in
    channel_unput c.put.result c.from_residual-in_err-put.result _ c.in_err-put.field-0.0 c.args.self.now _ c.args.channel c.as_str.result.now c.bytes-2.result.now _ _ _ c.in_err-put.was p.1 p.2
    (λ given held. stands_same c.args.self.now _ given held refl c.reserve.ensures.items refl refl held.chunk refl)
    c.as_str.ensures.value (c.bytes-2.ensures ∙ added ∙ ap (λ (s : List ℕ). s ++ section kind.Channel (channel_body c.args.channel)) c.new-section.ensures) c.put.ensures.puts

pub returns-in_err-put-clause-stays : goal.returns-in_err-put-clause-stays
returns-in_err-put-clause-stays g c =
    let p = err_from_is_err_and c.from_residual-in_err-put.result c.from_residual-in_err-put.ensures.1 in
    stays_unput c.put.result c.from_residual-in_err-put.result _ c.in_err-put.field-0.0 c.args.self.now _ c.as_str.result.now (g.S.Store.shows c.args.store.now) _ c.in_err-put.was p.1 p.2
    c.as_str.ensures.value c.reserve.ensures.items c.requires c.put.ensures.kept c.put.ensures.unbroken

pub returns-clause-puts : goal.returns-clause-puts
returns-clause-puts g c =
    let old = g.S.Store.shows c.args.store.now in
    let new = g.S.Store.shows c.put.new.store in
    let added : c.put_channel.new.to ≡ c.new-section.result ++ section kind.Channel (channel_body c.args.channel) = search rules in
    let bytes : c.bytes-2.result.now ≡ section kind.Channel (channel_body c.args.channel) = c.bytes-2.ensures ∙ added ∙ ap (λ (s : List ℕ). s ++ section kind.Channel (channel_body c.args.channel)) c.new-section.ensures in
    record {
      given = λ given held closed gathered fresh.
          stands_channel c.args.self.now _ given c.args.channel held closed gathered fresh refl (search rules) refl (search rules) held.chunk refl;
      memory = λ given held e. search rules;
      makes = λ given held. known_ok c.put.result _ _ old new c.in_ok-put.was (puts_section c.put.result c.args.self.now given c.args.channel c.as_str.result.now c.bytes-2.result.now old new held c.as_str.ensures.value bytes c.put.ensures.puts.makes);
      left = λ given held closed gathered left.
          left_channel given c.args.channel old.files new.files closed gathered (known_ok c.put.result _ _ old new c.in_ok-put.was (puts_section c.put.result c.args.self.now given c.args.channel c.as_str.result.now c.bytes-2.result.now old new held c.as_str.ensures.value bytes c.put.ensures.puts.makes)).done left;
      causes = causes_same old new c.put.ensures.puts.causes (λ e. search rules) (λ e. search rules);
    }

pub returns-in_err-map_err-clause-puts : goal.returns-in_err-map_err-clause-puts
returns-in_err-map_err-clause-puts g c =
    let p = err_from_is_err_and c.from_residual.result c.from_residual.ensures.1 in
    let only : IsOkUnless c.from_residual.result write_error.Memory = search rules in
    puts_without_memory _ _ c.args.channel _ c.from_residual.result _ p.1 (IfErr-at_err (λ (e : WriteError). e ≡ write_error.Memory) p.1 only) (λ given held. held)

pub returns-in_err-map_err-clause-stays : goal.returns-in_err-map_err-clause-stays
returns-in_err-map_err-clause-stays g c =
    let p = err_from_is_err_and c.from_residual.result c.from_residual.ensures.1 in
    let only : IsOkUnless c.from_residual.result write_error.Memory = search rules in
    stays_without_memory c.args.self.now _ _ c.from_residual.result _ p.1 (IfErr-at_err (λ (e : WriteError). e ≡ write_error.Memory) p.1 only) c.requires refl

pub returns-in_err-map_err-clause-one_more : goal.returns-in_err-map_err-clause-one_more
returns-in_err-map_err-clause-one_more g c = IfOk-from_err c.from_residual.result _ c.from_residual.ensures.0

pub returns-in_err-end-clause-puts : goal.returns-in_err-end-clause-puts
returns-in_err-end-clause-puts g c =
    let p = err_from_is_err_and c.from_residual-in_err-end.result c.from_residual-in_err-end.ensures.1 in
    puts_without_memory _ _ c.args.channel _ c.from_residual-in_err-end.result _ p.1 (p.2 ∙ c.in_err-end.ensures.only_memory) (λ given held. held)

pub returns-in_err-end-clause-stays : goal.returns-in_err-end-clause-stays
returns-in_err-end-clause-stays g c =
    let p = err_from_is_err_and c.from_residual-in_err-end.result c.from_residual-in_err-end.ensures.1 in
    stays_without_memory c.args.self.now _ _ c.from_residual-in_err-end.result _ p.1 (p.2 ∙ c.in_err-end.ensures.only_memory) c.requires refl

pub returns-in_err-end-clause-one_more : goal.returns-in_err-end-clause-one_more
returns-in_err-end-clause-one_more g c = IfOk-from_err c.from_residual-in_err-end.result _ c.from_residual-in_err-end.ensures.0

pub returns-in_err-reserve-clause-puts : goal.returns-in_err-reserve-clause-puts
returns-in_err-reserve-clause-puts g c =
    let p = err_from_is_err_and c.from_residual-in_err-reserve.result c.from_residual-in_err-reserve.ensures.1 in
    puts_without_memory _ _ c.args.channel _ c.from_residual-in_err-reserve.result _ p.1 p.2 (λ given held. stands_same c.args.self.now _ given held refl c.reserve.ensures.items refl refl held.chunk refl)

pub returns-in_err-reserve-clause-stays : goal.returns-in_err-reserve-clause-stays
returns-in_err-reserve-clause-stays g c =
    let p = err_from_is_err_and c.from_residual-in_err-reserve.result c.from_residual-in_err-reserve.ensures.1 in
    stays_without_memory c.args.self.now _ _ c.from_residual-in_err-reserve.result _ p.1 p.2 c.requires c.reserve.ensures.items

pub returns-in_err-reserve-clause-one_more : goal.returns-in_err-reserve-clause-one_more
returns-in_err-reserve-clause-one_more g c = IfOk-from_err c.from_residual-in_err-reserve.result _ c.from_residual-in_err-reserve.ensures.0

pub returns-in_err-put-clause-one_more : goal.returns-in_err-put-clause-one_more
returns-in_err-put-clause-one_more g c = IfOk-from_err c.from_residual-in_err-put.result _ c.from_residual-in_err-put.ensures.0
