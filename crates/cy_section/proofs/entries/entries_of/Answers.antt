use Rattle.std.proofs.Common.{inl, inr, sym}
use Rattle.std.proofs.lemmas.Result.{err_from_is_err_and}
use Rattle.cy_wire.specs.Field.{seen}
use Rattle.cy_wire.specs.Message.{seen_span}
use Rattle.cy_section.proofs.Indexes.{entry_read, entry_wrong, entry_skipped, entries_end, entries_fault}
use Rattle.cy_section.proofs.entries.entries_of.Goals as goal

pub returns-in_err-field : goal.returns-in_err-field
returns-in_err-field c =
    let p = err_from_is_err_and c.from_residual.result c.from_residual.ensures.1 in
    rw (p.1, p.2) (inr (entries_fault c.loop-entries.entries.items c.loop-entries.reader c.in_err-field.field-0.0 _ c.loop-entries.invariant c.in_err-field.ensures.field.0))

pub returns-in_err-keep_entry : goal.returns-in_err-keep_entry
returns-in_err-keep_entry c =
    let p = err_from_is_err_and c.from_residual-in_err-keep_entry.result c.from_residual-in_err-keep_entry.ensures.1 in
    let left = rw c.in-Some.is at c.in_ok-field.ensures.field in
    rw (p.1, p.2) (elim c.in_err-keep_entry.ensures [
      | inl memory ↦ inl memory
      | inr wrong ↦ inr (entry_wrong c.loop-entries.entries.items c.loop-entries.reader (seen c.in-Some.field) c.next_field.new.self (seen_span c.in-Some-span.span) _ _ c.loop-entries.invariant left (sym c.in-Some-span.ensures) wrong)
    ])

pub loop-entries-preserved-in-Continue-branch-3 : goal.loop-entries-preserved-in-Continue-branch-3
loop-entries-preserved-in-Continue-branch-3 c =
    let left = rw c.in-Some.is at c.in_ok-field.ensures.field in
    let kept = c.in_ok-keep_entry.ensures in
    rw kept.2 (entry_read c.loop-entries.entries.items c.loop-entries.reader (seen c.in-Some.field) c.next_field.new.self (seen_span c.in-Some-span.span) kept.0 _ c.loop-entries.invariant left (sym c.in-Some-span.ensures) kept.1)

pub loop-entries-preserved : goal.loop-entries-preserved
loop-entries-preserved c =
    let left = rw c.in-Some.is at c.in_ok-field.ensures.field in
    entry_skipped c.loop-entries.entries.items c.loop-entries.reader (seen c.in-Some.field) c.next_field.new.self _ c.loop-entries.invariant left (sym c.in_default-span.ensures)

pub returns : goal.returns
returns c =
    let ended = rw c.in_default.is at c.in_ok-field.ensures.field in
    entries_end c.loop-entries.entries.items c.loop-entries.reader _ c.loop-entries.invariant ended.0
