use Rattle.std.proofs.Common.{rules, ◌+◌, ◌≡◌, ◌++◌, replicate, refl, subst, sym}
use Rattle.cy_run.specs.Running.{IsCrew, plans_of}
use Rattle.cy_run.proofs.Mustered.{hires}
use Rattle.cy_run.proofs.Posted.{posted}
use Rattle.cy_run.proofs.run.add_workers.Goals as goal

pub loop-preserved : goal.loop-preserved
loop-preserved c = let i = c.loop.invariant in (
  subst (λ l. IsCrew c.args.table.now c.args.contexts c.args.threads c.args.player.now c.hire.new.player l) (sym (search rules))
      (hires c.args.table.now c.args.contexts c.args.threads c.args.player.now c.loop.player c.hire.new.player c.in_ok-pass.pass c.loop.crew.items c.args.plan c.len-me.result i.0 (search rules) c.requires.plan (search rules) (search rules)),
  search rules,
  search rules,
  subst (λ l. plans_of l ≡ plans_of c.args.crew.now.items ++ replicate (c.loop.counter + 1) c.args.plan) (sym (search rules))
      (posted c.loop.crew.items record { pass = c.in_ok-pass.pass; plan = c.args.plan; me = c.len-me.result } (plans_of c.args.crew.now.items) c.loop.counter c.args.plan i.3 refl),
)
