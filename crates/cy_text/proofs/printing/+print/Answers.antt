use Rattle.std.proofs.Common.{◌++◌, List, ℕ, codes, refl, ap, ◌∙◌}
use Rattle.std.specs.Str.{is_utf8}
use Rattle.cy_msg.specs.Quoted.{quoted}
use Rattle.cy_text.specs.Printed.{sign_text}
use Rattle.cy_text.proofs.Lines.{line_printed, one_behind, three_added, two_added}
use Rattle.cy_text.proofs.printing.+print.Goals as goal

pub push_fields-loop-entry-preserved : goal.push_fields-loop-entry-preserved
push_fields-loop-entry-preserved t c =
    let behind = c.loop-entry.invariant.margin in
    let e = c.entry-item.result in
    record {
      text = line_printed c.args.margin.now.items c.args.out.now.items c.loop-entry.out.items c.extend_from_slice.new.self.items c.extend_from_slice-in-loop-entry.new.self.items
          c.push_value.new.out.items c.extend_from_slice-in-loop-entry-2.new.self.items c.deref-entry-items.result.now c.loop-entry.entry-index e
          c.loop-entry-test.true c.entry-item.is c.loop-entry.invariant.text
          (c.in_ok-extend_from_slice.ensures.items ∙ ap (λ (x : List ℕ). c.loop-entry.out.items ++ x) (c.as_slice.ensures.value ∙ behind))
          (c.in_ok-extend_from_slice-2.ensures.items ∙ ap (λ (x : List ℕ). c.extend_from_slice.new.self.items ++ x) (c.as_bytes.ensures.value ∙ c.as_str.ensures.value))
          (rw behind at c.in_ok-push_value.ensures.text)
          c.in_ok-extend_from_slice-3.ensures.items;
      margin = c.in_ok-push_value.ensures.margin ∙ behind;
      shown = c.loop-entry.invariant.shown;
    }

pub push_value-returns-in-Whole-clause-text : goal.push_value-returns-in-Whole-clause-text
push_value-returns-in-Whole-clause-text t c = rw c.in-Whole.is c.push_whole.ensures

pub push_value-returns-in_ok-extend_from_slice-in-Literal-clause-text : goal.push_value-returns-in_ok-extend_from_slice-in-Literal-clause-text
push_value-returns-in_ok-extend_from_slice-in-Literal-clause-text t c =
    rw c.in-Literal.is (two_added c.extend_from_slice-in-Literal.result c.args.out.now.items c.extend_from_slice.new.self.items c.extend_from_slice-in-Literal.new.self.items (codes ": ")
    c.in-Literal.text c.as_bytes.result.now c.in_ok-extend_from_slice-in-Literal.ensures.items c.extend_from_slice-in-Literal.ensures.items (c.as_bytes.ensures.value ∙ c.as_str.ensures.value))

pub push_value-returns-in_ok-push_sign-in-Word-clause-text : goal.push_value-returns-in_ok-push_sign-in-Word-clause-text
push_value-returns-in_ok-push_sign-in-Word-clause-text t c =
    rw c.in-Word.is (three_added c.extend_from_slice-in-Word-2.result c.args.out.now.items c.extend_from_slice-in-Word.new.self.items c.push_sign.new.out.items c.extend_from_slice-in-Word-2.new.self.items
    (codes ": ") (sign_text c.in-Word.negative) c.in-Word.text c.as_bytes-in-Word.result.now c.in_ok-extend_from_slice-in-Word.ensures.items c.in_ok-push_sign-in-Word.ensures
    c.extend_from_slice-in-Word-2.ensures.items (c.as_bytes-in-Word.ensures.value ∙ c.as_str-in-Word.ensures.value))

pub push_value-returns-in_ok-extend_from_slice-in-Quote-clause-text : goal.push_value-returns-in_ok-extend_from_slice-in-Quote-clause-text
push_value-returns-in_ok-extend_from_slice-in-Quote-clause-text t c =
    rw c.in-Quote.is (one_behind c.push_quoted.result c.args.out.now.items c.extend_from_slice-in-Quote.new.self.items c.push_quoted.new.to.items (codes ": ")
    (quoted (is_utf8 c.in-Quote.bytes) c.in-Quote.bytes) (quoted c.is_text.result c.as_slice.result.now) c.in_ok-extend_from_slice-in-Quote.ensures.items c.push_quoted.ensures.ok
    (rw (c.is_text.ensures, c.as_slice-in-Quote.ensures, c.as_slice.ensures) refl))
