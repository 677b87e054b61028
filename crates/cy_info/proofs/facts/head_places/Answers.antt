use Rattle.cy_info.specs.private.Facts.{has_head}
use Rattle.cy_info.proofs.Telling.{head-more}
use Rattle.cy_info.proofs.facts.head_places.Goals as goal

pub loop-head-preserved : goal.loop-head-preserved
loop-head-preserved c = λ position number.
    head-more c.args.heads.now c.loop-head.head-index _ (has_head c.loop-head.places position number) (has_head c.insert.new.self position number) position number c.number.result c.loop-head-test.true c.number.ensures
    (c.loop-head.invariant position number) (c.in_ok-insert.ensures.updates.0 (position, number))
