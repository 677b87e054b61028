use Rattle.std.specs.List.{zip}
use Rattle.cy_wiring.specs.Wiring.{mentions_of}
use Rattle.cy_wiring.proofs.WireSteps.{names_accepted, names_refused}
use Rattle.cy_wiring.proofs.wiring.channel_names.Goals as goal

pub returns-clause-accepted : goal.returns-clause-accepted
returns-clause-accepted c =
    let all = mentions_of c.args.record_channels.now (zip c.args.components.now c.args.configs.now) in
    names_accepted all c.in_ok-mentions.mentions.items c.deref.result.now c.in_ok-mentions.ensures c.deref.ensures.value c.tested_names.result c.tested_names.ensures.accepted

pub returns-clause-refused : goal.returns-clause-refused
returns-clause-refused c =
    let all = mentions_of c.args.record_channels.now (zip c.args.components.now c.args.configs.now) in
    names_refused all c.in_ok-mentions.mentions.items c.deref.result.now c.in_ok-mentions.ensures c.deref.ensures.value c.tested_names.result c.tested_names.ensures.refused
