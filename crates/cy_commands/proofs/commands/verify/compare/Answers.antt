use Rattle.cy_args.specs.PlayViews.{play_words_of}
use Rattle.cy_commands.proofs.VerifyExits.{record_differs, record_same, record_unread, record_writable}
use Rattle.cy_commands.proofs.commands.verify.compare.Goals as goal

pub same_record-requires : goal.same_record-requires
same_record-requires g c =
    rw (c.as_slice.ensures, c.requires.told.tape)
    (record_writable (play_words_of c.args.play.now) c.args.replay.now c.requires.told.world c.played_places_are_there.ensures c.places.ensures c.requires.set_up c.requires.told.is_told.lawful)

pub returns-in-Ok-None : goal.returns-in-Ok-None
returns-in-Ok-None g c =
    record_same (play_words_of c.args.play.now) c.args.replay.now c.args.told.now (g.S.Store.shows c.args.store.now) (g.S.Store.shows c.same_record.new.store) c.requires.told tt
    (rw (c.in-Ok-None.field-0-is, c.as_slice.ensures) at c.in-Ok-None.ensures)

pub returns-in-Ok-Some : goal.returns-in-Ok-Some
returns-in-Ok-Some g c =
    record_differs (play_words_of c.args.play.now) c.args.replay.now c.args.told.now (g.S.Store.shows c.args.store.now) (g.S.Store.shows c.same_record.new.store) c.requires.told c.in-Ok-Some.place c.refused.result
    (rw (c.in-Ok-Some.field-0-is, c.as_slice.ensures) at c.in-Ok-Some.ensures) c.refused.ensures

pub returns-in-Err-Store : goal.returns-in-Err-Store
returns-in-Err-Store g c =
    record_unread (play_words_of c.args.play.now) c.args.replay.now c.args.told.now (g.S.Store.shows c.args.store.now) (g.S.Store.shows c.same_record.new.store) c.requires.told c.failed.result
    (rw (c.in-Err-Store.field-0-is, c.as_slice.ensures) at c.in-Err-Store.ensures) c.failed.ensures
