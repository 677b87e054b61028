use Rattle.std.proofs.Common.{rules, ◌≡◌, ◌++◌}
use Rattle.std.proofs.lemmas.Result.{IfOk-from_err}
use Rattle.cy_section.specs.declared.types.SectionKind.TheVariants as kind
use Rattle.cy_section.specs.Section.{section, index_body}
use Rattle.cy_writer.proofs.Closing.{indexed}
use Rattle.cy_writer.proofs.writing.index_section.Goals as goal

pub returns-in_err-index_entries-clause-section : goal.returns-in_err-index_entries-clause-section
returns-in_err-index_entries-clause-section c = IfOk-from_err c.from_residual.result _ c.from_residual.ensures.0

pub returns-in_err-map_err-clause-section : goal.returns-in_err-map_err-clause-section
returns-in_err-map_err-clause-section c = IfOk-from_err c.from_residual-in_err-map_err.result _ c.from_residual-in_err-map_err.ensures.0

pub returns-clause-section : goal.returns-clause-section
returns-clause-section c =
    let put : c.put_index.new.to ≡ c.new-section.result ++ section kind.Index (index_body c.new.result) = search rules in
    indexed c.put_index.new.to c.new-section.result c.new.result c.in_ok-index_entries.field-0.items _ put c.new-section.ensures c.new.ensures c.in_ok-index_entries.ensures.entries

pub returns-clause-only_memory : goal.returns-clause-only_memory
returns-clause-only_memory c = tt
