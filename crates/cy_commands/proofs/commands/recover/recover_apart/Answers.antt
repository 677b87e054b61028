use Rattle.cy_args.specs.Views.{recover_words_of}
use Rattle.cy_commands.proofs.KeptExits.{recovered, unrecovered}
use Rattle.cy_commands.proofs.commands.recover.recover_apart.Goals as goal

pub returns-in-Ok-recover : goal.returns-in-Ok-recover
returns-in-Ok-recover g c =
    recovered (recover_words_of c.args.recover.now) (g.S.Store.shows c.args.store.now) (g.S.Store.shows c.recover.new.store) c.in-Ok-recover.made _ _ c.requires c.in-Ok-recover.ensures c.due_kept.ensures

pub returns-in-Err : goal.returns-in-Err
returns-in-Err g c =
    unrecovered (recover_words_of c.args.recover.now) (g.S.Store.shows c.args.store.now) (g.S.Store.shows c.recover.new.store) c.in-Err.error _ _ c.requires c.in-Err.ensures c.due_unkept.ensures
