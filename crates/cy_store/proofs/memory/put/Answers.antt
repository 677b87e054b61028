use Rattle.std.proofs.Common.{rules, ◌≡◌, sym, ap, ◌∙◌, Some, None}
use Rattle.std.specs.Option.{option_map}
use Rattle.std.specs.FinMap.{get}
use Rattle.std.proofs.lemmas.Map.Text.{btree_map_updates_text}
use Rattle.cy_store.specs.Memory.{files_of}
use Rattle.cy_store.proofs.Found.{get_files, files_found, files_of-insert, put_over-found, insert-unchanged}
use Rattle.cy_store.proofs.memory.put.Goals as goal

pub overwrite-requires : goal.overwrite-requires
overwrite-requires c =
    let there = files_found c.args.files.now c.args.name.now c.in-Some.file.now c.in-Some.ensures.value in
    rw there at c.requires

pub returns-in-Ok-clause-there : goal.returns-in-Ok-clause-there
returns-in-Ok-clause-there c =
    let there = files_found c.args.files.now c.args.name.now c.in-Some.file.now c.in-Some.ensures.value in
    rw there

pub returns-in-Ok-clause-put : goal.returns-in-Ok-clause-put
returns-in-Ok-clause-put c =
    let w = c.overwrite.new.file in
    let n = c.get_mut.follows.lender w in
    let there = files_found c.args.files.now c.args.name.now c.in-Some.file.now c.in-Some.ensures.value in
    let updates = btree_map_updates_text c.args.name.now c.args.files.now n (Some w) ((c.get_mut.follows.holds w).3 (search rules)) in
    put_over-found _ _ _ _ _ c.args.at c.args.bytes.now there (files_of-insert c.args.files.now n c.args.name.now w updates) c.in-Ok.ensures.ok

pub returns-in-Err-clause-err : goal.returns-in-Err-clause-err
returns-in-Err-clause-err c =
    let w = c.overwrite.new.file in
    let n = c.get_mut.follows.lender w in
    let there = files_found c.args.files.now c.args.name.now c.in-Some.file.now c.in-Some.ensures.value in
    let updates = btree_map_updates_text c.args.name.now c.args.files.now n (Some w) ((c.get_mut.follows.holds w).3 (search rules)) in
    insert-unchanged _ _ _ _ _ there (files_of-insert c.args.files.now n c.args.name.now w updates) c.in-Err.ensures.err

pub returns-in-None-clause-there : goal.returns-in-None-clause-there
returns-in-None-clause-there c =
    let none : get (files_of c.args.files.now.entries) c.args.name.now ≡ None =
    get_files c.args.files.now.entries c.args.name.now ∙ ap (option_map (λ v. v.items)) (sym c.in-None.ensures.value) in
    rw none

pub returns-in-None-clause-put : goal.returns-in-None-clause-put
returns-in-None-clause-put c =
    let none : get (files_of c.args.files.now.entries) c.args.name.now ≡ None =
    get_files c.args.files.now.entries c.args.name.now ∙ ap (option_map (λ v. v.items)) (sym c.in-None.ensures.value) in
    rw (none, c.get_mut.follows.holds-at-none)
