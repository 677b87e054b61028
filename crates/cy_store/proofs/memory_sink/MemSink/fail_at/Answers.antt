use Rattle.cy_store.proofs.Numbers.{numbers-insert}
use Rattle.cy_store.proofs.memory_sink.MemSink.fail_at.Goals as goal

pub returns-clause-ok : goal.returns-clause-ok
returns-clause-ok c =
    rw (← c.self.view_is, numbers-insert c.self.inside.failing c.insert.new.self c.args.write c.in_ok-insert.ensures.updates)
