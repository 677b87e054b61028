use Rattle.std.proofs.Common.{rules, ◌≡◌, ◌∙◌, All, sym, subst, length}
use Rattle.cy_run.specs.declared.crew.Worker.{Worker}
use Rattle.cy_run.specs.Passes.{IsFree}
use Rattle.cy_table.specs.Calls.{made_of}
use Rattle.cy_run.proofs.Led.{was_led}
use Rattle.cy_run.proofs.Mustered.{may_drive, is_deputy, some_split, may_finish, written}
use Rattle.wake_core.specs.WorldOf.{plain_of}
use Rattle.cy_msg.specs.Placement.{scan_of}
use Rattle.cy_run.proofs.run.run_threads.Goals as goal

pub drive_with-requires-clause-drive : goal.drive_with-requires-clause-drive
drive_with-requires-clause-drive g c κs within = may_drive c.args.world c.in-Ok.table c.args.wiring.now.plans c.args.list.now.tokens c.args.placement.now.contexts c.as_slice.result.now c.in_ok-idle.idle c.in-Ok.player
    c.crew_of.new.player c.hire.new.player c.in_ok-pass.pass c.as_mut_slice.result.now c.given-stop.result c.requires c.in-Ok.ensures (search rules) (search rules) (search rules) (search rules)

pub drive_with-requires-clause-deputy : goal.drive_with-requires-clause-deputy
drive_with-requires-clause-deputy g c κs within = is_deputy c.args.world c.in-Ok.table c.args.wiring.now.plans c.args.list.now.tokens c.args.placement.now.contexts c.as_slice.result.now c.in-Ok.player
    c.crew_of.new.player c.hire.new.player c.in_ok-pass.pass c.requires c.in-Ok.ensures (search rules) (search rules)

pub dismiss-requires-clause-split : goal.dismiss-requires-clause-split
dismiss-requires-clause-split g c = some_split c.in-Ok.table c.args.list.now.tokens c.crew_of.new.player c.hire.new.player c.drive_with.new.player c.in_ok-pass.pass (search rules) c.drive_with.ensures.played

pub muster-requires-clause-crew : goal.muster-requires-clause-crew
muster-requires-clause-crew g c = let v = c.in_ok-crew.crew in
    let long : length c.drive_with.new.crew ≡ v.len = search rules in let full : length v.items ≡ v.len = search rules in
    subst (λ l. All (λ (w : Worker). IsFree c.in-Ok.table w.pass) l) (sym (written c.drive_with.new.crew v.items v.len long full)) (λ k d lt. (c.drive_with.ensures.worked k d (search rules)).free)

pub finish-requires : goal.finish-requires
finish-requires g c = may_finish c.put.ensures c.args.world c.in-Ok.table c.args.wiring.now.plans c.args.list.now.tokens (scan_of c.args.placement.now.contexts) c.hire.new.player c.drive_with.new.player c.muster.new.player
    (plain_of c.in-Ok-close.world) c.requires c.in-Ok.ensures.made c.drive_with.ensures.played (c.muster.ensures.played ∙ c.dismiss.ensures.played) (c.muster.ensures.clock ∙ c.dismiss.ensures.clock)
    (c.muster.ensures.raised ∙ c.dismiss.ensures.raised) c.in-Ok-close.ensures.left

pub returns-clause-led : goal.returns-clause-led
returns-clause-led g c = was_led c.ways.ensures (plain_of c.args.world) (made_of c.in-Ok.table) (plain_of c.in-Ok-close.world) (plain_of c.finish.new.world) c.in-Ok.ensures.made c.sound.ensures.sound c.in-Ok-close.ensures.left.reached
    c.finish.ensures.led
