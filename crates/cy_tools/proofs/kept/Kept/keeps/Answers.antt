use Rattle.cy_tools.proofs.Searching.{in_table, kept_without, kept_by_table}
use Rattle.cy_tools.proofs.kept.Kept.keeps.Goals as goal

pub lets-requires : goal.lets-requires
lets-requires c = in_table c.args.self.now c.in-Some.lets c.args.channel c.in-Some.is c.requires.ready c.requires.there

pub returns-in-None : goal.returns-in-None
returns-in-None c = kept_without c.args.self.now c.args.channel c.args.time c.in-None.is

pub returns-in-Some : goal.returns-in-Some
returns-in-Some c = kept_by_table c.args.self.now c.in-Some.lets c.args.channel c.args.time c.lets.result c.in-Some.is c.requires.ready c.requires.there c.lets.ensures
