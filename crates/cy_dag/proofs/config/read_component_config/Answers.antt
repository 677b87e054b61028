use Rattle.cy_dag.specs.Classes.{class_named}
use Rattle.cy_dag.proofs.ClassSteps.{config_by_class, of_class, refused_by_class}
use Rattle.cy_dag.proofs.config.read_component_config.Goals as goal

pub returns-in-Some-clause-config : goal.returns-in-Some-clause-config
returns-in-Some-clause-config c =
    config_by_class c.args.component (class_named c.args.class_name.now) c.in-Some.class c.args.tree.now c.read_config.result c.in-Some.ensures c.read_config.ensures.accepted c.read_config.ensures.config

pub returns-in-Some-clause-of_class : goal.returns-in-Some-clause-of_class
returns-in-Some-clause-of_class c = of_class c.args.class_name.now c.in-Some.class c.read_config.result c.in-Some.ensures c.read_config.ensures.of_class

pub returns-in-Some-clause-refused : goal.returns-in-Some-clause-refused
returns-in-Some-clause-refused c = refused_by_class c.args.component (class_named c.args.class_name.now) c.in-Some.class c.args.tree.now c.read_config.result c.in-Some.ensures c.read_config.ensures.refused
