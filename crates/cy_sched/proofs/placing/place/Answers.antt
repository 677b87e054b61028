use Rattle.std.proofs.Common.{◌∙◌}
use Rattle.cy_sched.proofs.Contexts.{made}
use Rattle.cy_sched.proofs.placing.place.Goals as goal

pub new-requires-2-clause-once : goal.new-requires-2-clause-once
new-requires-2-clause-once c =
    (made c.args.sched.now c.args.names.now c.new.result c.in_ok-contexts.contexts.items c.deref.result.now c.requires.placeable (c.deref.ensures.value ∙ c.in_ok-homes.ensures) c.new.ensures
    c.in_ok-contexts.ensures.heads c.in_ok-contexts.ensures.orders).once

pub new-requires-2-clause-fits : goal.new-requires-2-clause-fits
new-requires-2-clause-fits c =
    (made c.args.sched.now c.args.names.now c.new.result c.in_ok-contexts.contexts.items c.deref.result.now c.requires.placeable (c.deref.ensures.value ∙ c.in_ok-homes.ensures) c.new.ensures
    c.in_ok-contexts.ensures.heads c.in_ok-contexts.ensures.orders).fits

pub returns-clause-placed : goal.returns-clause-placed
returns-clause-placed c =
    (made c.args.sched.now c.args.names.now c.new-2.result.contexts c.in_ok-contexts.contexts.items c.deref.result.now c.requires.placeable (c.deref.ensures.value ∙ c.in_ok-homes.ensures)
    (c.new-2.ensures ∙ c.new.ensures) c.in_ok-contexts.ensures.heads c.in_ok-contexts.ensures.orders).placed

pub returns-clause-scan : goal.returns-clause-scan
returns-clause-scan c =
    (made c.args.sched.now c.args.names.now c.new-2.result.contexts c.in_ok-contexts.contexts.items c.deref.result.now c.requires.placeable (c.deref.ensures.value ∙ c.in_ok-homes.ensures)
    (c.new-2.ensures ∙ c.new.ensures) c.in_ok-contexts.ensures.heads c.in_ok-contexts.ensures.orders).scan
