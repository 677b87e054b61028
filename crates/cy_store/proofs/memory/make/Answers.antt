use Rattle.std.proofs.Common.{◌∙◌, ap}
use Rattle.std.specs.FinMap.{insert}
use Rattle.std.proofs.lemmas.Map.Text.{btree_map_updates_text}
use Rattle.cy_store.specs.Memory.{files_of}
use Rattle.cy_store.proofs.Found.{files_of-insert}
use Rattle.cy_store.proofs.memory.make.Goals as goal

pub returns-clause-ok : goal.returns-clause-ok
returns-clause-ok c =
    let updates = btree_map_updates_text c.args.name.now c.args.files.now c.insert.new.self _ (rw (← c.in_ok-key.ensures.ok) c.in_ok-insert.ensures.updates) in
    files_of-insert c.args.files.now c.insert.new.self c.args.name.now c.new.result updates ∙ ap (insert (files_of c.args.files.now.entries) c.args.name.now) c.new.ensures.items
