use Rattle.cy_sched.proofs.Scans.{members_more}
use Rattle.cy_sched.proofs.placing.ranks.Goals as goal

pub loop-component-preserved : goal.loop-component-preserved
loop-component-preserved c = record {
  members = members_more c.args.homes.now c.args.context c.loop-component.component c.loop-component.ranks.items c.push_member.new.ranks.items c.loop-component.invariant.members c.in_ok-push_member.ensures.members;
  ranked = c.push_member.ensures.ranked c.loop-component.invariant.ranked;
}
