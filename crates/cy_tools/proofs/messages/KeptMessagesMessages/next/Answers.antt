use Rattle.std.proofs.Common.{◌+◌}
use Rattle.std.proofs.lemmas.Option.{slice_get_within}
use Rattle.cy_tools.specs.private.Keeping.{kept_from}
use Rattle.cy_tools.proofs.Records.{rest_placed, first_placed, first_given}
use Rattle.cy_tools.proofs.Searching.{content_is}
use Rattle.cy_tools.proofs.messages.KeptMessagesMessages.next.Goals as goal

pub content-self-requires : goal.content-self-requires
content-self-requires c =
    let is = c.in-Some.ensures in
    slice_get_within c.args.self.now.kept.now.loaded.messages c.in-Some.found.place is.message is.there

pub place-requires : goal.place-requires
place-requires c =
    let m = c.args.self.now in
    let is = c.in-Some.ensures in
    first_placed m.order.now.numbers (kept_from m.kept.now m.place) (kept_from m.kept.now (c.in-Some.found.place + 1)) is.message c.in-Some.found.channel is.first is.channel c.requires.placed

pub returns-clause-next : goal.returns-clause-next
returns-clause-next c =
    let m = c.args.self.now in
    let is = c.in-Some.ensures in
    let lent = content_is m.kept.now.loaded.messages c.in-Some.found.place is.message c.content-self.result.now is.there c.content-self.ensures in
    record {
      gives = first_given m.order.now.numbers (kept_from m.kept.now m.place) (kept_from m.kept.now (c.in-Some.found.place + 1)) is.message c.in-Some.found.channel c.in-Some.found.time c.place.result c.content-self.result.now
          is.first is.channel is.time lent c.place.ensures;
      stays = tt;
      only_memory = tt;
    }

pub returns-clause-goes_on : goal.returns-clause-goes_on
returns-clause-goes_on c =
    let m = c.args.self.now in
    let is = c.in-Some.ensures in
    record {
      ready = c.requires.ready;
      placed = rest_placed m.order.now.numbers (kept_from m.kept.now m.place) (kept_from m.kept.now (c.in-Some.found.place + 1)) is.message is.first c.requires.placed;
    }
