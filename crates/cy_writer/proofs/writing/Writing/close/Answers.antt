use Rattle.std.proofs.Common.{rules, List, refl, subst}
use Rattle.cy_store.specs.Write.{Write}
use Rattle.cy_writer.specs.Writes.{Makes, puts_into}
use Rattle.cy_writer.specs.Given.{with_chunk, chunk_puts, close_puts, IsTextOf}
use Rattle.cy_writer.proofs.Chunks.{no_first, some_first}
use Rattle.cy_writer.proofs.Puts.{on_ok, holds_weaker, makes_first, makes_then, causes_same, causes_then}
use Rattle.cy_writer.proofs.Closing.{puts_into-chunk, text_then}
use Rattle.cy_writer.proofs.Left.{left_chunk, text_left}
use Rattle.cy_writer.proofs.writing.Writing.close.Goals as goal

pub returns-then-is_empty-clause-closes : goal.returns-then-is_empty-clause-closes
returns-then-is_empty-clause-closes g c =
    let old = g.S.Store.shows c.args.store.now in
    let new = g.S.Store.shows c.put_end.new.store in
    record {
      makes = λ given held. c.put_end.ensures.makes given held (no_first c.args.self.chunk given.gathered held.chunk (search rules));
      text = λ given held left.
          let none = no_first c.args.self.chunk given.gathered held.chunk (search rules) in
          on_ok c.put_end.result (λ done. text_left given old.files new.files none done left) (c.put_end.ensures.makes given held none).done;
      causes = c.put_end.ensures.causes;
    }

pub returns-in_err-put_chunk-clause-closes : goal.returns-in_err-put_chunk-clause-closes
returns-in_err-put_chunk-clause-closes g c =
    let old = g.S.Store.shows c.args.store.now in
    let new = g.S.Store.shows c.put_chunk.new.store in
    record {
      makes = λ given held.
          let first = some_first c.args.self.chunk given.gathered held.chunk (λ e. search rules) in
          subst (λ (ws : List Write). Makes ws old new c.from_residual.result) (puts_into-chunk given first.0 first.1.0 first.1.1)
          (makes_first c.put_chunk.result c.from_residual.result (puts_into given.name (chunk_puts given)) (puts_into given.name (close_puts (with_chunk given))) old new
          (c.put_chunk.ensures.makes given held) (search rules) (λ e h. search rules));
      text = λ given held left. search rules;
      causes = causes_same old new c.put_chunk.ensures.causes (λ e. search rules) (λ e. search rules);
    }

pub returns-clause-closes : goal.returns-clause-closes
returns-clause-closes g c =
    let old = g.S.Store.shows c.args.store.now in
    let mid = g.S.Store.shows c.put_chunk.new.store in
    let new = g.S.Store.shows c.put_end-2.new.store in
    record {
      makes = λ given held.
          let first = some_first c.args.self.chunk given.gathered held.chunk (λ e. search rules) in
          subst (λ (ws : List Write). Makes ws old new c.put_end-2.result) (puts_into-chunk given first.0 first.1.0 first.1.1)
          (makes_then c.put_end-2.result (puts_into given.name (chunk_puts given)) (puts_into given.name (close_puts (with_chunk given))) old mid new
          (c.in_ok-put_chunk.ensures.makes given held).done (c.put_end-2.ensures.makes (with_chunk given) (c.in_ok-put_chunk.ensures.given given held) refl) c.put_end-2.ensures.unbroken);
      text = λ given held left.
          let first = some_first c.args.self.chunk given.gathered held.chunk (λ e. search rules) in
          let then = c.put_end-2.ensures.makes (with_chunk given) (c.in_ok-put_chunk.ensures.given given held) refl in
          on_ok c.put_end-2.result
          (λ done. holds_weaker new.files given.name (IsTextOf (with_chunk given)) (IsTextOf given) (λ bytes text. text_then given first.0 first.1.0 bytes first.1.1 text)
          (text_left (with_chunk given) mid.files new.files refl done (left_chunk given old.files mid.files (c.in_ok-put_chunk.ensures.makes given held).done left)))
          then.done;
      causes = causes_then old mid new (c.put_chunk.ensures.causes.quiet (λ e. search rules)) c.in_ok-put_chunk.ensures.told c.put_end-2.ensures.causes;
    }
