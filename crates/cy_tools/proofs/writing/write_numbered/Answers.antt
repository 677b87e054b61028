use Rattle.std.proofs.Common.{◌∙◌, ℕ, List, map, ap, sym, subst, slice_get}
use Rattle.cy_section.specs.declared.types.Channel.{Channel}
use Rattle.cy_writer.specs.Messages as given
use Rattle.cy_writer.specs.Record.{channels_shown, HaveChannels}
use Rattle.cy_writer.specs.Stands.{HaveOwnNames}
use Rattle.cy_tools.specs.Kept.{channel_at}
use Rattle.cy_tools.specs.private.Keeping.{all_kept}
use Rattle.cy_tools.specs.private.Giving.{ArePlaced, given_of, giving_of}
use Rattle.cy_tools.proofs.Records.{all_placed, have_channels, kept_names, kept_stand, numbers_below, recorded}
use Rattle.cy_tools.proofs.writing.write_numbered.Goals as goal

pub written_channels-requires : goal.written_channels-requires
written_channels-requires g c = λ n d there.
    let k = c.args.kept.now in
    numbers_below k.loaded.channels (all_kept k) (kept_stand k c.requires.ready) n d (ap (λ (l : List ℕ). slice_get l n) (sym (c.numbers.ensures ∙ c.requires.numbering.numbers)) ∙ there)

pub new-messages-requires-clause-placed : goal.new-messages-requires-clause-placed
new-messages-requires-clause-placed g c =
    let k = c.args.kept.now in
    subst (λ (l : List ℕ). ArePlaced l (all_kept k)) (sym c.requires.numbering.numbers) (all_placed (all_kept k))

pub write_record-requires-clause-own_names : goal.write_record-requires-clause-own_names
write_record-requires-clause-own_names g c =
    let k = c.args.kept.now in
    let is = ap channels_shown c.deref.ensures.value ∙ c.in_ok-written.ensures.channels ∙ ap (map (channel_at k.loaded.channels)) (c.numbers.ensures ∙ c.requires.numbering.numbers) in
    subst (λ (l : List Channel). HaveOwnNames l) (sym is) (kept_names k.loaded (all_kept k) (kept_stand k c.requires.ready))

pub write_record-requires-clause-on_channels : goal.write_record-requires-clause-on_channels
write_record-requires-clause-on_channels g c =
    let k = c.args.kept.now in
    let order = c.args.numbering.now.order.numbers in
    let is = ap channels_shown c.deref.ensures.value ∙ c.in_ok-written.ensures.channels ∙ ap (map (channel_at k.loaded.channels)) c.numbers.ensures in
    let placed = subst (λ (l : List ℕ). ArePlaced l (all_kept k)) (sym c.requires.numbering.numbers) (all_placed (all_kept k)) in
    subst (λ (l : List given.Message). HaveChannels (channels_shown c.deref.result.now) l) (sym c.new-messages.ensures.rest)
    (subst (λ (l : List Channel). HaveChannels l (map (given_of order) (all_kept k))) (sym is) (have_channels k.loaded.channels order (all_kept k) placed))

pub returns-clause-makes : goal.returns-clause-makes
returns-clause-makes g c =
    let k = c.args.kept.now in
    let order = c.args.numbering.now.order.numbers in
    let is = ap channels_shown c.deref.ensures.value ∙ c.in_ok-written.ensures.channels ∙ ap (map (channel_at k.loaded.channels)) c.numbers.ensures in
    recorded c.write_record.result c.args.name.now k.loaded (all_kept k) order (channels_shown c.deref.result.now) (giving_of c.new-messages.result).rest (g.S.Store.shows c.args.store.now)
    (g.S.Store.shows c.write_record.new.store) c.requires.numbering.numbers is c.new-messages.ensures.rest c.write_record.ensures
