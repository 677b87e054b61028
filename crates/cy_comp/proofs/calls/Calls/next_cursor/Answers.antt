use Rattle.std.proofs.Common.{◌+◌, ◌∙◌, ap, sym}
use Rattle.cy_comp.specs.Calls.{cursor_after}
use Rattle.cy_comp.proofs.Ends.{cursor_after_last}
use Rattle.cy_comp.proofs.Rowing.{last-row, none-kept}
use Rattle.cy_comp.proofs.calls.Calls.next_cursor.Goals as goal

pub returns-in-None : goal.returns-in-None
returns-in-None c = sym (ap cursor_after (none-kept c.self.inside.seqs.now c.self.inside.rows.now c.self.inside.made.list c.self.invariant c.in-None.ensures.item.3)) ∙ ap cursor_after c.self.view_is

pub returns-in-Some : goal.returns-in-Some
returns-in-Some c =
    let made = c.self.inside.made.list in
    let last = last-row c.self.inside.seqs.now c.self.inside.rows.now made c.in-Some.last.now c.self.invariant (sym c.in-Some.ensures.value) in
    c.position_after.ensures ∙ ap (λ n. n + 1) last.position ∙ sym (cursor_after_last made last.call last.there) ∙ ap cursor_after c.self.view_is
