use Rattle.std.proofs.Common.{refl}
use Rattle.wake_core.specs.WorldOf.{plain_of}
use Rattle.wake_core_tests.specs.Groups.{Shows, MayAskAgain, MaySendOn, after_take, after_fetching, after_output}
use Rattle.wake_core_tests.proofs.Together.{at, became}
use Rattle.wake_core_tests.proofs.groups.turn.Goals as goal

pub take-requires : goal.take-requires
take-requires c = c.requires.may.takes

pub call-requires : goal.call-requires
call-requires c =
    let w = plain_of c.args.world.now in
    let first : Shows w c.args.world.now = record { plain = refl; stepped = c.requires.stepped } in
    let taken = became after_take w c.args.world.now c.take.new.world first c.take.ensures.becomes in
    at MayAskAgain (after_take w) c.take.new.world taken c.requires.may.asks

pub send_on-requires : goal.send_on-requires
send_on-requires c =
    let w = plain_of c.args.world.now in
    let first : Shows w c.args.world.now = record { plain = refl; stepped = c.requires.stepped } in
    let taken = became after_take w c.args.world.now c.take.new.world first c.take.ensures.becomes in
    let called = became after_fetching (after_take w) c.take.new.world c.call.new.world taken c.call.ensures.becomes in
    record { may = at (MaySendOn c.args.token) (after_fetching (after_take w)) c.call.new.world called c.requires.may.sends; stepped = called.stepped }

pub returns : goal.returns
returns c =
    let w = plain_of c.args.world.now in
    let first : Shows w c.args.world.now = record { plain = refl; stepped = c.requires.stepped } in
    let taken = became after_take w c.args.world.now c.take.new.world first c.take.ensures.becomes in
    let called = became after_fetching (after_take w) c.take.new.world c.call.new.world taken c.call.ensures.becomes in
    let sent = became (after_output c.args.token) (after_fetching (after_take w)) c.call.new.world c.send_on.new.world called c.send_on.ensures in
    record { plain = sent.plain; stepped = λ _. sent.stepped }
