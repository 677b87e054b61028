use Rattle.std.proofs.Common.{List, sym, subst, arith}
use Rattle.cy_section.specs.declared.types.Channel.{Channel}
use Rattle.cy_writer.specs.Messages.{Message}
use Rattle.cy_writer.specs.Record.{HaveChannels, WritesRecord, channels_shown}
use Rattle.cy_writer.specs.Stands.{HaveOwnNames}
use Rattle.cy_make.specs.private.Steps.{given_after}
use Rattle.cy_make.proofs.RecordText.{own_names, have_channels}
use Rattle.cy_make.proofs.record.write_on.Goals as goal

pub write_record-requires-clause-own_names : goal.write_record-requires-clause-own_names
write_record-requires-clause-own_names g c = subst (λ (cs : List Channel). HaveOwnNames cs) (sym c.requires.channels) (own_names c.args.count)

pub write_record-requires-clause-on_channels : goal.write_record-requires-clause-on_channels
write_record-requires-clause-on_channels g c =
    let known = subst (λ (cs : List Channel). HaveChannels cs (given_after 0 c.args.count)) (sym c.requires.channels) (have_channels 0 c.args.count c.args.count (omega arith)) in
    subst (λ (ms : List Message). HaveChannels (channels_shown c.args.channels.now) ms) (sym c.to-messages.ensures.rest) known

pub returns : goal.returns
returns g c =
    let old = g.S.Store.shows c.args.store.now in
    let new = g.S.Store.shows c.write_record.new.store in
    let given = subst (λ (ms : List Message). WritesRecord c.args.name.now (channels_shown c.args.channels.now) ms old new c.write_record.result) c.to-messages.ensures.rest c.write_record.ensures in
    subst (λ (cs : List Channel). WritesRecord c.args.name.now cs (given_after 0 c.args.count) old new c.write_record.result) c.requires.channels given
