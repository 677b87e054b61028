use Rattle.std.proofs.Common.{rules, ◌≡◌, ◌≤◌, ◌∷◌, [], length, arith, ◌∙◌}
use Rattle.cy_store.specs.Write.{Create, Put}
use Rattle.cy_writer.specs.Writes.{Makes}
use Rattle.cy_writer.proofs.Puts.{makes_uncreated, makes_then, created, as_writes, holds_weaker, causes_made, causes_then, untold_map, on_ok}
use Rattle.cy_writer.proofs.RecordBytes.{after_whole}
use Rattle.cy_writer.proofs.file.write_file.Goals as goal

pub returns-in_err-create : goal.returns-in_err-create
returns-in_err-create g c =
    let old = g.S.Store.shows c.args.store.now in
    let new = g.S.Store.shows c.create.new.self in
    record {
      has = search rules;
      makes = makes_uncreated c.from_residual.result c.args.name.now _ old new c.in_err-create.ensures.err (search rules) (λ e. search rules);
      unbroken = λ e. search rules;
      causes = causes_made c.create.result old new c.create.ensures.cause (λ e. search rules) (λ e. search rules);
    }

pub put-requires : goal.put-requires
put-requires g c =
    let name = c.args.name.now in
    let mid = (g.S.Store.shows c.create.new.self).files in
    holds_weaker mid name (λ bytes. bytes ≡ []) (λ bytes. 0 ≤ length bytes) (λ bytes e. omega arith) (created name (g.S.Store.shows c.args.store.now).files mid c.in_ok-create.ensures.made)

pub returns : goal.returns
returns g c =
    let name = c.args.name.now in
    let bytes = c.args.bytes.now in
    let old = g.S.Store.shows c.args.store.now in
    let mid = g.S.Store.shows c.create.new.self in
    let new = g.S.Store.shows c.put.new.store in
    let made = c.in_ok-create.ensures.made in
    let makes : Makes (Create name ∷ Put name 0 bytes ∷ []) old new c.put.result =
    makes_then c.put.result (Create name ∷ []) (Put name 0 bytes ∷ []) old mid new (as_writes (Create name) old.files mid.files made) c.put.ensures.puts.makes c.put.ensures.unbroken in
    record {
      has = on_ok c.put.result (λ done. done ∙ after_whole name bytes old.files) makes.done;
      makes = makes;
      unbroken = c.put.ensures.unbroken;
      causes = causes_then old mid new (c.create.ensures.cause.quiet (λ e. search rules)) (untold_map _ old.files mid.files made) c.put.ensures.puts.causes;
    }
