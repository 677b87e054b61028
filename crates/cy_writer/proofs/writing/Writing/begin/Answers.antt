use Rattle.std.proofs.Common.{rules, ◌∷◌, []}
use Rattle.cy_store.specs.Write.{Create, Put}
use Rattle.cy_section.specs.Section.{header_section}
use Rattle.cy_section.specs.RecordText.{incomplete_header}
use Rattle.cy_writer.specs.Writes.{Makes}
use Rattle.cy_writer.proofs.Puts.{on_ok}
use Rattle.cy_writer.proofs.Left.{left_begun}
use Rattle.cy_writer.proofs.writing.Writing.begin.Goals as goal

pub returns : goal.returns
returns g c =
    let name = c.args.self.now.name in
    let old = g.S.Store.shows c.args.store.now in
    let new = g.S.Store.shows c.write_file.new.store in
    let makes : Makes (Create name ∷ Put name 0 (header_section incomplete_header) ∷ []) old new c.write_file.result = rw (← c.as_str.ensures.value) (search rules) in
    record {
      makes = makes;
      left = on_ok c.write_file.result (λ done. left_begun name old.files new.files done) makes.done;
      unbroken = c.write_file.ensures.unbroken;
      causes = c.write_file.ensures.causes;
    }
