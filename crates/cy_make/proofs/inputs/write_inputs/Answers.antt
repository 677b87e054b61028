use Rattle.std.proofs.Common.{rules}
use Rattle.std.specs.List.{flat_map}
use Rattle.cy_make.specs.Inputs.{all_configs, config_writes, made_record_writes}
use Rattle.cy_make.proofs.Writing.{first_stops, then_made}
use Rattle.cy_make.proofs.inputs.write_inputs.Goals as goal

pub returns-in_err-write_configs : goal.returns-in_err-write_configs
returns-in_err-write_configs g c =
    let prefix = c.args.prefix.now in
    first_stops c.write_configs.result c.from_residual.result prefix (flat_map (config_writes prefix) all_configs) (made_record_writes c.args.count prefix) (g.S.Store.shows c.args.store.now) (g.S.Store.shows c.write_configs.new.store)
    c.write_configs.ensures (search rules) (λ e i. search rules)

pub returns : goal.returns
returns g c =
    let prefix = c.args.prefix.now in
    let made = rw c.in_ok-write_configs.was at c.write_configs.ensures in
    then_made c.write_record.result prefix (flat_map (config_writes prefix) all_configs) (made_record_writes c.args.count prefix) (g.S.Store.shows c.args.store.now) (g.S.Store.shows c.write_configs.new.store) (g.S.Store.shows c.write_record.new.store)
    made.done (made.causes.quiet (λ e. e)) c.write_record.ensures
