use Rattle.std.proofs.Common.{rules, ◌≡◌, ◌+◌, ◌∷◌, [], List, ℕ, length, ap, sym, subst, ◌∙◌}
use Rattle.cy_store.specs.Write.{Write, Put}
use Rattle.cy_section.specs.Section.{header_section}
use Rattle.cy_section.specs.RecordText.{parts_of, index_section, complete_header}
use Rattle.cy_writer.specs.Writes.{Makes, puts_into}
use Rattle.cy_writer.specs.Given.{front_of, chunks_of, close_puts}
use Rattle.cy_writer.proofs.Closing.{entries_put, header_put, close_puts-none}
use Rattle.cy_writer.proofs.writing.Writing.put_end.Goals as goal

pub returns-clause-makes : goal.returns-clause-makes
returns-clause-makes g c given held none =
    let o = c.args.self in
    let entries = entries_put o given held none in
    let index : c.in_ok-index.index ≡ index_section (parts_of given.channels given.closed) = rw (← entries, ← c.deref.ensures.value) c.in_ok-index.ensures.section in
    let size : c.in_ok-sum.field-0 ≡ o.place + length c.in_ok-index.index = search rules in
    let chunks : c.len.result ≡ length o.chunks.items = search rules in
    let channels : c.len-channel_number.result ≡ length o.channels.items = search rules in
    let header : c.complete.result ≡ complete_header given.channels (chunks_of given) =
    c.complete.ensures ∙ rw (chunks, channels, size) (header_put o given c.in_ok-index.index held none index) in
    let index_bytes : c.bytes-2.result.now ≡ index_section (parts_of given.channels given.closed) = c.bytes-2.ensures ∙ index in
    let header_bytes : c.bytes-3.result.now ≡ header_section (complete_header given.channels (chunks_of given)) =
    c.bytes-3.ensures ∙ c.in_ok-header.ensures.section ∙ ap header_section header in
    let named = c.as_str.ensures.value ∙ held.name in
    let W : List ℕ → ℕ → List ℕ → List ℕ → List Write = λ n at i h. Put n at i ∷ Put n 0 h ∷ [] in
    let writes : W c.as_str.result.now o.place c.bytes-2.result.now c.bytes-3.result.now ≡ puts_into given.name (close_puts given) =
    ap (λ (n : List ℕ). W n o.place c.bytes-2.result.now c.bytes-3.result.now) named
    ∙ ap (λ (n : ℕ). W given.name n c.bytes-2.result.now c.bytes-3.result.now) held.place
    ∙ ap (λ (i : List ℕ). W given.name (length (front_of given)) i c.bytes-3.result.now) index_bytes
    ∙ ap (W given.name (length (front_of given)) (index_section (parts_of given.channels given.closed))) header_bytes
    ∙ sym (ap (puts_into given.name) (close_puts-none given none)) in
    subst (λ (ws : List Write). Makes ws (g.S.Store.shows c.args.store.now) (g.S.Store.shows c.put_both.new.store) c.put_both.result) writes c.put_both.ensures.puts.makes
