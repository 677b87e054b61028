use Rattle.cy_store.proofs.Found.{plans-insert}
use Rattle.cy_store.proofs.memory.MemStore.fail_at.Goals as goal

pub returns-clause-ok : goal.returns-clause-ok
returns-clause-ok c =
    rw (← c.self.view_is, plans-insert c.self.inside.failing_calls c.insert.new.self c.args.call c.args.keep c.in_ok-insert.ensures.updates)
