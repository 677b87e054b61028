-- What the writes of a record make of the files: its bytes under its name.
use Rattle.std.proofs.Common.{◌≡◌, ℕ, ◌+◌, Bool, true, false, cond, List, [], ◌∷◌, ◌++◌, map, length, Option, None, Some, refl, sym, ap, ◌∙◌, arith, append_assoc, append-nil, length-append}
use Rattle.std.proofs.lemmas.List.{drop_at}
use Rattle.std.specs.List.{flat_map}
use Rattle.std.specs.Option.{option_map, unwrap_or}
use Rattle.std.specs.Ordering.{nat_cmp, eq_by_cmp}
use Rattle.std.specs.Cmp.Lexicographic.{slice_cmp, nat_list_cmp_total}
use Rattle.std.specs.FinMap.{get, insert, get-insert, same_map, nat_cmp-IsAntisymmetric, slice_cmp-IsAntisymmetric}
use Rattle.cy_store.specs.Files.{Files}
use Rattle.cy_store.specs.Write.{after_write, after_writes, written_at}
use Rattle.cy_section.specs.declared.types.Channel.{Channel}
use Rattle.cy_section.specs.declared.types.BodyMessage.{BodyMessage}
use Rattle.cy_section.specs.Section.{header_section}
use Rattle.cy_section.specs.RecordText.{Part, parts_of, bytes_of, index_section, header_end, incomplete_header, complete_header, record_bytes}
use Rattle.cy_section.proofs.Lengths.{length-header_section}
use Rattle.cy_writer.specs.Writes.{placed, file_after}
use Rattle.cy_writer.proofs.Puts.{put_of, get-inserted, written_at-end}
use Rattle.cy_writer.specs.RecordWrites.{file_writes, record_sections, record_puts}

-- pieces put behind one another

file_after-append : (bytes : List ℕ) (xs ys : List (ℕ × List ℕ)) → file_after bytes (xs ++ ys) ≡ file_after (file_after bytes xs) ys
file_after-append bytes [] ys = refl
file_after-append bytes (x ∷ xs) ys = file_after-append (written_at bytes x.0 x.1) xs ys

pub after_placed : (pieces : List (List ℕ)) (bytes : List ℕ) (at : ℕ) → length bytes ≡ at → file_after bytes (placed at pieces) ≡ bytes ++ flat_map (λ piece. piece) pieces
after_placed [] bytes at e = sym (append-nil bytes)
after_placed (piece ∷ rest) bytes at e =
    ap (λ b. file_after b (placed (at + length piece) rest)) (written_at-end bytes piece at e)
    ∙ after_placed rest (bytes ++ piece) (at + length piece) (omega (arith, length-append bytes piece))
    ∙ append_assoc bytes piece (flat_map (λ p. p) rest)

-- a first piece, pieces behind it, and then one over the first
after_all : (first last : List ℕ) (pieces : List (List ℕ)) (at : ℕ) → length first ≡ at → length last ≡ at
    → file_after [] ((0, first) ∷ placed at pieces ++ (0, last) ∷ []) ≡ last ++ flat_map (λ piece. piece) pieces
after_all first last pieces at e f =
    let body = flat_map (λ (piece : List ℕ). piece) pieces in
    ap (λ b. file_after b (placed at pieces ++ (0, last) ∷ [])) (written_at-end [] first 0 refl)
    ∙ file_after-append first (placed at pieces) ((0, last) ∷ [])
    ∙ ap (λ b. written_at b 0 last) (after_placed pieces first at e)
    ∙ ap (λ l. last ++ l) (drop_at first body (0 + length last) (omega arith))

-- the pieces of a record

pub flat-parts : (parts : List Part) (last : List ℕ) → flat_map (λ piece. piece) (map (λ part. part.bytes) parts ++ last ∷ []) ≡ bytes_of parts ++ last
flat-parts [] last = append-nil last
flat-parts (part ∷ rest) last = ap (λ l. part.bytes ++ l) (flat-parts rest last) ∙ sym (append_assoc part.bytes (bytes_of rest) last)

-- then the file has the record's bytes
pub file_after-record : (channels : List Channel) (chunks : List (List BodyMessage)) → file_after [] (record_puts channels chunks) ≡ record_bytes channels chunks
unfolding record_puts record_bytes
file_after-record channels chunks =
    let parts = parts_of channels chunks in
    let last = header_section (complete_header channels chunks) in
    after_all (header_section incomplete_header) last (record_sections channels chunks) header_end (length-header_section incomplete_header) (length-header_section (complete_header channels chunks))
    ∙ ap (λ l. last ++ l) (flat-parts parts (index_section parts))
    ∙ sym (append_assoc last (bytes_of parts) (index_section parts))

cond_twice : {X : Type 0} (b : Bool) (x y z : X) → cond b x (cond b y z) ≡ cond b x z
cond_twice true x y z = refl
cond_twice false x y z = refl

-- of two writes of one name the last counts
pub insert-insert : (m : Files) (name a b : List ℕ) → insert (insert m name a) name b ≡ insert m name b
insert-insert m name a b = same_map nat_list_cmp_total (slice_cmp-IsAntisymmetric nat_cmp-IsAntisymmetric) (insert (insert m name a) name b) (insert m name b) (λ q.
    let here = eq_by_cmp (slice_cmp nat_cmp) q name in
    get-insert nat_list_cmp_total (insert m name a) name b q
    ∙ ap (cond here (Some b)) (get-insert nat_list_cmp_total m name a q)
    ∙ cond_twice here (Some b) (Some a) (get m q)
    ∙ sym (get-insert nat_list_cmp_total m name b q))

put_over : (m : Files) (name bytes : List ℕ) (put : ℕ × List ℕ) → after_write (put_of name put) (insert m name bytes) ≡ insert m name (written_at bytes put.0 put.1)
put_over m name bytes put =
    ap (λ (before : Option (List ℕ)). insert (insert m name bytes) name (written_at (unwrap_or before []) put.0 put.1)) (get-inserted m name bytes)
    ∙ insert-insert m name bytes (written_at bytes put.0 put.1)

after_puts : (puts : List (ℕ × List ℕ)) (m : Files) (name bytes : List ℕ) → after_writes (map (put_of name) puts) (insert m name bytes) ≡ insert m name (file_after bytes puts)
after_puts [] m name bytes = refl
after_puts (put ∷ rest) m name bytes =
    ap (after_writes (map (put_of name) rest)) (put_over m name bytes put)
    ∙ after_puts rest m name (written_at bytes put.0 put.1)

-- the writes of a file leave its bytes under its name
pub after_file : (puts : List (ℕ × List ℕ)) (m : Files) (name : List ℕ) → after_writes (file_writes name puts) m ≡ insert m name (file_after [] puts)
after_file puts m name = after_puts puts m name []

-- those of a file in one piece leave that piece
pub after_whole : (name bytes : List ℕ) (files : Option Files) → option_map (after_writes (file_writes name ((0, bytes) ∷ []))) files ≡ option_map (λ (m : Files). insert m name bytes) files
after_whole name bytes None = refl
after_whole name bytes (Some m) = ap Some (after_file ((0, bytes) ∷ []) m name ∙ ap (insert m name) (written_at-end [] bytes 0 refl))

-- the writes of a record leave its bytes under its name
pub after_record : (channels : List Channel) (chunks : List (List BodyMessage)) (m : Files) (name : List ℕ)
    → after_writes (file_writes name (record_puts channels chunks)) m ≡ insert m name (record_bytes channels chunks)
after_record channels chunks m name =
    after_file (record_puts channels chunks) m name
    ∙ ap (insert m name) (file_after-record channels chunks)
