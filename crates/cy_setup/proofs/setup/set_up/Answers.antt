use Rattle.std.proofs.Common.{option_map, ap}
use Rattle.cy_msg.specs.Request.{OfFiles, OfPass, components_of, request_of}
use Rattle.cy_setup.proofs.Setting.{through}
use Rattle.cy_setup.proofs.setup.set_up.Goals as goal

pub returns-in-Files-clause-comes : goal.returns-in-Files-clause-comes
returns-in-Files-clause-comes g c =
    through (request_of c.args.request.now) (OfFiles c.in-Files.dag.now (option_map (λ n. n.now) c.in-Files.sched)) _ _ _ (ap components_of c.in-Files.is) c.set_up_files.ensures.comes

pub returns-in-Pass-clause-comes : goal.returns-in-Pass-clause-comes
returns-in-Pass-clause-comes g c =
    through (request_of c.args.request.now) (OfPass c.in-Pass.from.now c.in-Pass.to.now) _ _ _ (ap components_of c.in-Pass.is) c.set_up_pass.ensures.comes
