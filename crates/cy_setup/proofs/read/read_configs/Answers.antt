use Rattle.std.proofs.Common.{rules}
use Rattle.std.proofs.lemmas.Result.{err_from_is_err_and}
use Rattle.cy_setup.proofs.Configs.{none_read, config_read, config_stops, config_left, configs_read}
use Rattle.cy_setup.proofs.Fitting.{none_fit, next_fits, all_fit}
use Rattle.cy_setup.proofs.read.read_configs.Goals as goal

pub loop-number-init : goal.loop-number-init
loop-number-init g c = rw c.new-configs.ensures.items record {
  read = none_read c.args.components.now (g.S.Store.shows c.args.store.now);
  fit = none_fit;
}

pub loop-number-preserved : goal.loop-number-preserved
loop-number-preserved g c =
    let configs = c.loop-number.configs.items in
    rw c.in_ok-push.ensures.items record {
      read = config_read c.args.components.now c.loop-number.number c.index-components-number.result configs c.in_ok-read_config.field-0 _ _ _ _ c.loop-number.invariant.read (search rules) c.index-components-number.is
          c.in_ok-read_config.ensures.comes;
      fit = next_fits c.args.components.now c.loop-number.number c.index-components-number.result configs c.in_ok-read_config.field-0 c.loop-number.invariant.fit (search rules) c.index-components-number.is c.in_ok-read_config.ensures.of_class;
    }

pub returns-in_err-read_config-clause-comes : goal.returns-in_err-read_config-clause-comes
returns-in_err-read_config-clause-comes g c =
    let p = err_from_is_err_and c.from_residual.result c.from_residual.ensures.1 in
    rw (p.1, p.2) (config_stops c.args.components.now c.loop-number.number c.index-components-number.result c.loop-number.configs.items _ _ _ _ c.loop-number.invariant.read (search rules) c.index-components-number.is c.in_err-read_config.ensures.comes)

pub returns-in_err-push-clause-comes : goal.returns-in_err-push-clause-comes
returns-in_err-push-clause-comes g c =
    let p = err_from_is_err_and c.from_residual-in_err-push.result c.from_residual-in_err-push.ensures.1 in
    rw (p.1, p.2) (config_left c.args.components.now c.loop-number.number c.index-components-number.result c.in_ok-read_config.field-0 c.loop-number.configs.items _ _ _ _ c.loop-number.invariant.read c.in_ok-read_config.ensures.comes)

pub returns-clause-comes : goal.returns-clause-comes
returns-clause-comes g c = configs_read c.args.components.now c.loop-number.number c.loop-number.configs _ _ (search rules) c.loop-number.invariant.read

pub returns-clause-fit : goal.returns-clause-fit
returns-clause-fit g c = all_fit c.args.components.now c.loop-number.number c.loop-number.configs.items (search rules) c.loop-number.invariant.fit
