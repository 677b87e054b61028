-- What is told of a record's text has no difference.
use Rattle.std.proofs.Common.{◌≡◌, ℕ, suc, ◌+◌, ◌-◌, List, [], ◌∷◌, ◌++◌, length, map, refl, sym, ap, ◌∙◌, subst, arith, append_assoc, append-nil, Bool, true, false, Some, Ok}
use Rattle.std.specs.Prelude.{codes, filter, ◌==◌, ◌&&◌, ◌||◌, min, max}
use Rattle.std.specs.List.{AllByRecursion, list_any}
use Rattle.std.proofs.lemmas.Bool.{le-ltb}
use Rattle.std.proofs.lemmas.Grind.{common_steps}
use Rattle.std.proofs.lemmas.List.{length-map}
use Rattle.std.proofs.lemmas.List.Elements.{filter-append}
use Rattle.std.proofs.lemmas.List.Folds.{list_any-append}
use Rattle.cy_section.specs.declared.types.BodyMessage.{BodyMessage}
use Rattle.cy_section.specs.declared.types.Channel.{Channel}
use Rattle.cy_section.specs.declared.types.Header.{Header}
use Rattle.cy_section.specs.declared.types.IndexEntry.{IndexEntry}
use Rattle.cy_section.specs.declared.types.SectionKind.TheVariants as kind
use Rattle.cy_section.specs.Section.{header_body, kind_number}
use Rattle.cy_section.specs.Chunks.{messages_in}
use Rattle.cy_section.specs.RecordText.{Part, parts_of, bytes_of, entries_from, channel_part, chunk_header_part, chunk_body_part, least_time, greatest_time}
use Rattle.cy_section.specs.Reading as reading
use Rattle.cy_read_back.proofs.IndexRead.{index_at-body}
use Rattle.cy_info.specs.declared.facts.Counted.{Counted}
use Rattle.cy_info.specs.declared.facts.IndexFound.{IndexFound}
use Rattle.cy_info.specs.declared.facts.IndexFound.TheVariants.{Present}
use Rattle.cy_cut.specs.declared.heads.PlacedHead.{PlacedHead}
use Rattle.cy_cut.specs.Heads.{index_head}
use Rattle.cy_info.specs.Info.{least, greatest, times_of, channels_of, chunk_bodies, counted_of, index_found, index_read, is_head, file_line, front_lines, index_line, numbered, channel_lines, header_difference, number_differences, message_differences, all_differences, header_differences, entry_line, entry_difference, index_differences, info_text}
use Rattle.cy_read_back.specs.Records.{message_on, heads_from, text_entries, text_index, text_contents}
use Rattle.cy_read_back.proofs.TextSections.{IsSection, kind_at}
use Rattle.cy_read_back.proofs.TextMet.{chunk_parts}
use Rattle.cy_read_back.proofs.TextParts.{entries_fit}
use Rattle.cy_read_back.proofs.TextRead.{IsText, header_of, index_of_text, sections_of, length_is, parts_fit}

-- the index is read as its entries
pub index_told : (channels : List Channel) (chunks : List (List BodyMessage)) (file : List ℕ) → IsText channels chunks file
    → index_found (Some (text_index channels chunks)) ≡ Present (text_entries channels chunks)
index_told channels chunks file t =
    let index = index_of_text channels chunks in
    let at = 2064 + length (bytes_of (parts_of channels chunks)) in
    let short = t.short in
    let long = length_is channels chunks file t in
    let fits = entries_fit (parts_of channels chunks) 2064 (parts_fit channels chunks file t) (omega arith) in
    let whole = le-ltb (length index) (length index) (omega arith) in
    let read : reading.index_at (at + 16) index ≡ Ok (text_entries channels chunks) = index_at-body (at + 16) (text_entries channels chunks) fits in
    rw whole (ap index_read read)

-- the least and greatest time
least_read : (channels : List Channel) (ms : List BodyMessage) → least (times_of (map (message_on channels) ms)) ≡ least_time ms
least_read channels [] = refl
least_read channels (m ∷ []) = refl
least_read channels (m ∷ n ∷ rest) = ap (min m.time) (least_read channels (n ∷ rest))

greatest_read : (channels : List Channel) (ms : List BodyMessage) → greatest (times_of (map (message_on channels) ms)) ≡ greatest_time ms
greatest_read channels [] = refl
greatest_read channels (m ∷ rest) = ap (max m.time) (greatest_read channels rest)

-- the heads of chunk bodies
abbrev is_body : PlacedHead → Bool
is_body h = kind_number h.kind == 2

chunks_counted : (chunks : List (List BodyMessage)) (at : ℕ) → length (filter is_body (heads_from at (chunk_parts chunks))) ≡ length chunks
chunks_counted [] at = refl
chunks_counted (chunk ∷ chunks) at = ap suc (chunks_counted chunks (at + length (chunk_header_part chunk).bytes + length (chunk_body_part chunk).bytes))

bodies_counted : (cs : List Channel) (ms : List BodyMessage) (chunks : List (List BodyMessage)) (at : ℕ)
    → length (filter is_body (heads_from at (map (channel_part ms) cs ++ chunk_parts chunks))) ≡ length chunks
bodies_counted [] ms chunks at = chunks_counted chunks at
bodies_counted (c ∷ cs) ms chunks at = bodies_counted cs ms chunks (at + length (channel_part ms c).bytes)

chunks_read : (channels : List Channel) (chunks : List (List BodyMessage)) → chunk_bodies (text_contents [] channels chunks).source.heads ≡ length chunks
chunks_read channels chunks =
    let heads = heads_from 2064 (parts_of channels chunks) in
    ap length (filter-append is_body heads (index_head (Some (text_index channels chunks))) ∙ append-nil (filter is_body heads)) ∙ bodies_counted channels (messages_in chunks) chunks 2064

-- the header's numbers are those that are counted
no_difference : (field : List ℕ) (x y : ℕ) → x ≡ y → header_difference field x y ≡ []
unfolding header_difference
no_difference field x y e =
    let same : (x == y) ≡ true = grind (arith, common_steps) in
    rw same refl

pub record IsCounted (h : Header) (c : Counted) : Type 0 where
  pub index_position : h.index_position ≡ c.index_position
  pub chunk_number : h.chunk_number ≡ c.chunk_number
  pub channel_number : h.channel_number ≡ c.channel_number
  pub begin_time : h.begin_time ≡ c.begin_time
  pub end_time : h.end_time ≡ c.end_time
  pub message_number : h.message_number ≡ c.message_number
  pub size : h.size ≡ c.size

none_differs : (h : Header) (c : Counted) → IsCounted h c → all_differences h c ≡ []
unfolding number_differences message_differences
none_differs h c is =
    rw (
      no_difference (codes "index_position") h.index_position c.index_position is.index_position,
      no_difference (codes "chunk_number") h.chunk_number c.chunk_number is.chunk_number,
      no_difference (codes "channel_number") h.channel_number c.channel_number is.channel_number,
      no_difference (codes "begin_time") h.begin_time c.begin_time is.begin_time,
      no_difference (codes "end_time") h.end_time c.end_time is.end_time,
      no_difference (codes "message_number") h.message_number c.message_number is.message_number,
      no_difference (codes "size") h.size c.size is.size,
    ) refl

numbers_read : (name : List ℕ) (channels : List Channel) (chunks : List (List BodyMessage)) → IsCounted (header_of channels chunks) (counted_of (text_contents name channels chunks))
numbers_read name channels chunks =
    let ms = messages_in chunks in
    record {
      index_position = refl;
      chunk_number = sym (chunks_read channels chunks);
      channel_number = sym (length-map channels _);
      begin_time = sym (least_read channels ms);
      end_time = sym (greatest_read channels ms);
      message_number = sym (length-map (map (message_on channels) ms) _ ∙ length-map ms _);
      size = refl;
    }

-- each entry names the head of a section
here_named : (at number : ℕ) (h : PlacedHead) (rest : Bool) → h.at ≡ at → kind_number h.kind ≡ number → (((h.at == at) && (kind_number h.kind == number)) || rest) ≡ true
here_named at number h rest place kind =
    let one : (h.at == at) ≡ true = grind (arith, common_steps) in
    let two : (kind_number h.kind == number) ≡ true = grind (arith, common_steps) in
    rw (one, two) refl

or_true : (b c : Bool) → c ≡ true → (b || c) ≡ true
or_true true c e = refl
or_true false c e = e

entries_named : (parts : List Part) (at : ℕ) (front back : List PlacedHead) → AllByRecursion IsSection parts
    → AllByRecursion (λ e. is_head (front ++ (heads_from at parts ++ back)) e.position e.kind ≡ true) (entries_from at parts)
entries_named [] at front back are = tt
entries_named (p ∷ rest) at front back are =
    let e = p.entry at in
    let h : PlacedHead = record { at = at; kind = kind_at at p; size = length p.bytes - 16 } in
    let later = heads_from (at + length p.bytes) rest ++ back in
    let test : PlacedHead → Bool = λ h. (h.at == e.position) && (kind_number h.kind == e.kind) in (
      list_any-append test front (h ∷ later) ∙ or_true (list_any test front) (list_any test (h ∷ later))
          (here_named e.position e.kind h (list_any test later) (sym (are.0.position at)) (are.0.number at)),
      subst (λ (heads : List PlacedHead). AllByRecursion (λ (e : IndexEntry). is_head heads e.position e.kind ≡ true) (entries_from (at + length p.bytes) rest))
          (append_assoc front (h ∷ []) later) (entries_named rest (at + length p.bytes) (front ++ h ∷ []) back are.1),
    )

no_line : (heads : List PlacedHead) (n : ℕ) (e : IndexEntry) → is_head heads e.position e.kind ≡ true → entry_difference heads n e ≡ []
unfolding entry_line
no_line heads n e named = rw named refl

no_lines : (heads : List PlacedHead) (entries : List IndexEntry) (n : ℕ) → AllByRecursion (λ e. is_head heads e.position e.kind ≡ true) entries → numbered (entry_difference heads) n entries ≡ []
no_lines heads [] n named = refl
no_lines heads (e ∷ entries) n named =
    ap (λ (line : List ℕ). line ++ numbered (entry_difference heads) (n + 1) entries) (no_line heads n e named.0) ∙ no_lines heads entries (n + 1) named.1

entries_same : (name : List ℕ) (channels : List Channel) (chunks : List (List BodyMessage)) (file : List ℕ) → IsText channels chunks file
    → index_differences (text_contents name channels chunks).source.heads (Present (text_entries channels chunks)) ≡ []
entries_same name channels chunks file t =
    let heads = (text_contents name channels chunks).source.heads in
    let first : PlacedHead = record { at = 0; kind = kind.Header; size = length (header_body (header_of channels chunks)) } in
    no_lines heads (text_entries channels chunks) 0
    (entries_named (parts_of channels chunks) 2064 (first ∷ []) (index_head (Some (text_index channels chunks))) (sections_of channels chunks file t))

-- the whole text
pub info_told : (name file : List ℕ) (channels : List Channel) (chunks : List (List BodyMessage)) → IsText channels chunks file
    → let whole = text_contents name channels chunks in
    info_text whole ≡ file_line name (length file) ++ front_lines whole.source.header (counted_of whole) ++ index_line (Present (text_entries channels chunks))
    ++ channel_lines (channels_of whole.messages) whole.channels
unfolding info_text
info_told name file channels chunks t =
    let whole = text_contents name channels chunks in
    let lines : IndexFound → List ℕ = λ found. file_line name (header_of channels chunks).size ++ front_lines whole.source.header (counted_of whole) ++ index_line found
    ++ channel_lines (channels_of whole.messages) whole.channels in
    let told = lines (Present (text_entries channels chunks)) in
    ap (λ (found : IndexFound). lines found ++ header_differences whole.source.header (counted_of whole) ++ index_differences whole.source.heads found) (index_told channels chunks file t)
    ∙ ap (λ (l : List ℕ). (told ++ l) ++ index_differences whole.source.heads (Present (text_entries channels chunks))) (none_differs (header_of channels chunks) (counted_of whole) (numbers_read name channels chunks))
    ∙ ap (λ (l : List ℕ). (told ++ []) ++ l) (entries_same name channels chunks file t)
    ∙ append-nil (told ++ []) ∙ append-nil told
    ∙ ap (λ (n : ℕ). file_line name n ++ front_lines whole.source.header (counted_of whole) ++ index_line (Present (text_entries channels chunks)) ++ channel_lines (channels_of whole.messages) whole.channels)
    (sym (length_is channels chunks file t))
