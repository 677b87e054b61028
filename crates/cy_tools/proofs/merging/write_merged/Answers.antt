use Rattle.std.proofs.Common.{None, refl}
use Rattle.cy_tools.proofs.Merges.{all_ready, merge_works}
use Rattle.cy_tools.proofs.merging.write_merged.Goals as goal

pub write_kept-requires : goal.write_kept-requires
write_kept-requires g c = all_ready c.args.merged.now (record { loaded = c.loaded-loaded.result; lets = None }) c.loaded-loaded.ensures.met refl c.loaded-loaded.ensures.stand

pub returns : goal.returns
returns g c =
    merge_works c.args.to.now c.args.merged.now (record { loaded = c.loaded-loaded.result; lets = None }) _ _ c.write_kept.result c.loaded-loaded.ensures.met refl c.loaded-loaded.ensures.stand c.write_kept.ensures
