use Rattle.std.proofs.Common.{option_map, refl}
use Rattle.cy_setup.specs.Steps.{configured, dag_says, scheduled_in}
use Rattle.cy_setup.specs.Values.{valued_configs}
use Rattle.cy_setup.proofs.Coming.{comes_memory}
use Rattle.cy_setup.proofs.ValuesFound.{are_valued}
use Rattle.cy_setup.proofs.read.with_values.Goals as goal

pub with_scheduler-requires : goal.with_scheduler-requires
with_scheduler-requires g c = rw (c.new.ensures, c.in-Ok.ensures.valued) (are_valued c.args.dag.components c.args.configs.items c.requires)

pub returns-in-Ok-clause-comes : goal.returns-in-Ok-clause-comes
returns-in-Ok-clause-comes g c = rw (c.new.ensures, c.in-Ok.ensures.valued) at c.with_scheduler.ensures.comes

pub returns-in-Err-clause-comes : goal.returns-in-Err-clause-comes
returns-in-Err-clause-comes g c =
    comes_memory configured (scheduled_in (dag_says c.args.dag) (valued_configs c.args.configs.items) (option_map (λ n. n.now) c.args.sched)) _ _ _ record { same = refl; counts = record { faults = refl; misses = refl } }
