use Rattle.cy_sched.proofs.Scans.{members_push, ranks_push}
use Rattle.cy_sched.proofs.placing.push_member.Goals as goal

pub returns-clause-members : goal.returns-clause-members
returns-clause-members c =
    members_push c.args.homes.now c.args.context c.args.component c.args.ranks.now.items c.push.new.self.items _ (record { context = 0; priority = 0 }) c.requires.there c.if-home-context.false c.rank.ensures.component c.in_ok-push.ensures.items

pub returns-clause-ranked : goal.returns-clause-ranked
returns-clause-ranked c = λ have.
    ranks_push c.args.homes.now c.args.component c.args.ranks.now.items c.push.new.self.items _ (record { context = 0; priority = 0 }) c.requires.there c.rank.ensures.component c.rank.ensures.priority c.in_ok-push.ensures.items have
