use Rattle.std.proofs.Common.{rules, ◌+◌, List, ◌++◌, take, drop, get_or, subst}
use Rattle.std.specs.List.{flat_map}
use Rattle.std.proofs.lemmas.List.{take_all}
use Rattle.std.proofs.lemmas.Option.{slice_get-get_or}
use Rattle.cy_store.specs.Write.{Write}
use Rattle.cy_make.specs.declared.config.Config.{Config}
use Rattle.cy_make.specs.declared.config.Config.TheVariants.{Adder}
use Rattle.cy_make.specs.Inputs.{config_writes, MakesFiles}
use Rattle.cy_make.proofs.Writing.{AreMade, all_split, all_more, made_more, first_stops, then_made, written}
use Rattle.cy_make.proofs.inputs.write_configs.Goals as goal

pub returns-in_err-write_config : goal.returns-in_err-write_config
returns-in_err-write_config g c =
    let prefix = c.args.prefix.now in
    let configs = c.args.configs.now in
    let f = config_writes prefix in
    let n = c.loop-config.config-index in
    let x = get_or configs n Adder in
    let here = slice_get-get_or configs n Adder c.loop-config-test.true in
    let old = g.S.Store.shows c.args.store.now in
    let mid = g.S.Store.shows c.loop-config.store in
    let new = g.S.Store.shows c.write_config.new.store in
    let h = c.loop-config.invariant in
    subst (λ (ws : List Write). MakesFiles prefix ws old new c.from_residual.result) (all_split f configs n x here)
    (then_made c.from_residual.result prefix (flat_map f (take n configs)) (f x ++ flat_map f (drop (n + 1) configs)) old mid new h.files h.counts
    (first_stops c.write_config.result c.from_residual.result prefix (f x) (flat_map f (drop (n + 1) configs)) mid new c.write_config.ensures (search rules) (λ e i. search rules)))

pub loop-config-preserved : goal.loop-config-preserved
loop-config-preserved g c =
    let prefix = c.args.prefix.now in
    let configs = c.args.configs.now in
    let f = config_writes prefix in
    let n = c.loop-config.config-index in
    let x = get_or configs n Adder in
    let here = slice_get-get_or configs n Adder c.loop-config-test.true in
    let old = g.S.Store.shows c.args.store.now in
    let mid = g.S.Store.shows c.loop-config.store in
    let new = g.S.Store.shows c.write_config.new.store in
    subst (λ (ws : List Write). AreMade ws old new) (all_more f configs n x here)
    (made_more prefix (flat_map f (take n configs)) (f x) old mid new c.loop-config.invariant (rw c.in_ok-write_config.was at c.write_config.ensures))

pub returns : goal.returns
returns g c =
    let prefix = c.args.prefix.now in
    let configs = c.args.configs.now in
    let f = config_writes prefix in
    let n = c.loop-config.config-index in
    let old = g.S.Store.shows c.args.store.now in
    let new = g.S.Store.shows c.loop-config.store in
    let h = subst (λ (l : List Config). AreMade (flat_map f l) old new) (take_all n configs c.loop-config-test.false) c.loop-config.invariant in
    written prefix (flat_map f configs) old new h.files h.counts
