-- Lines that are taken off the front of a text as they stand.
use Rattle.std.proofs.Common.{ℕ, ◌≡◌, ◌+◌, ◌≤◌, List, [], ◌∷◌, ◌++◌, length, map, flat_map, Some, ap, sym, ◌∙◌, arith, append_assoc}
use Rattle.std.proofs.lemmas.List.{append-nil, length-append, length-map, map-append}
use Rattle.std.proofs.lemmas.List.Concat.{flat_map-append}
use Rattle.std.specs.Option.{option_and_then}
use Rattle.cy_fuse.specs.declared.overflow.Overflow.{Overflow}
use Rattle.cy_trace_read.specs.LineOrder.{after_line}
use Rattle.cy_trace.specs.TraceForm.{AreLines, line_text, whole_line}
use Rattle.cy_trace.specs.LineParts.{told}
use Rattle.cy_trace_read.specs.private.ReadingOn.{HasRoom, ReadsOn}
use Rattle.cy_trace_read.specs.declared.building.Building.{Building}
use Rattle.cy_trace_read.specs.declared.building.Building.TheVariants.{Start, Called, Taped}
use Rattle.cy_trace_read.specs.declared.building.Prefix.{Prefix}
use Rattle.cy_trace.specs.declared.line.Line.{Line}
use Rattle.cy_trace.specs.declared.line.Line.TheVariants.{Component, Roles, Call, Tape}
use Rattle.cy_trace.specs.declared.trace.TapeEntry.{TapeEntry}
use Rattle.cy_trace.specs.declared.trace.TraceCall.{TraceCall}
use Rattle.cy_trace.proofs.LineLists.{are_lines-append}
use Rattle.cy_trace_read.proofs.Order.{lines_so_far, prefix_lines, run, run-append, tape_run, IsOfVersion}
use Rattle.cy_trace_read.proofs.Prefixes.{Reached}

-- a line has a byte at least
lines_long : (ls : List Line) → length ls ≤ length (flat_map whole_line ls)
lines_long [] = omega arith
lines_long (l ∷ ls) = omega (arith, lines_long ls, length-append (whole_line l) (flat_map whole_line ls), length-append (line_text l) (10 ∷ []))

calls_taken : (prefix : Prefix) (n : List ℕ) (o : Overflow) (rs : List ℕ) (xs ys : List TraceCall) → run (Called prefix n o rs xs) (map Call ys) ≡ Some (Called prefix n o rs (xs ++ ys))
unfolding after_line
calls_taken prefix n o rs xs [] = ap (λ (zs : List TraceCall). Some (Called prefix n o rs zs)) (sym (append-nil xs))
calls_taken prefix n o rs xs (y ∷ ys) = calls_taken prefix n o rs (xs ++ y ∷ []) ys ∙ ap (λ (zs : List TraceCall). Some (Called prefix n o rs zs)) (append_assoc xs (y ∷ []) ys)

calls_added : (prefix : List Line) (c r : Line) (xs ys : List TraceCall) → prefix ++ c ∷ r ∷ map Call (xs ++ ys) ≡ (prefix ++ c ∷ r ∷ map Call xs) ++ map Call ys
calls_added prefix c r xs ys = rw (map-append Call xs ys) (simp append_assoc)

messages_added : (prefix : List Line) (es fs : List TapeEntry) → prefix ++ map Tape (es ++ fs) ≡ (prefix ++ map Tape es) ++ map Tape fs
messages_added prefix es fs = rw (map-append Tape es fs) (simp append_assoc)

-- lines that may come next are taken, behind those so far
module _ (bytes rest more : List ℕ) (b c : Building) (line next : ℕ) (at : Reached bytes rest b line) where
  lines_taken : (ls : List Line) → rest ≡ flat_map whole_line ls ++ more → AreLines ls → lines_so_far c ≡ lines_so_far b ++ ls → run b ls ≡ Some c → IsOfVersion c → next ≡ line + length ls → Reached bytes more c next
  lines_taken ls split fits adds ran suits count =
      let text_now = flat_map-append whole_line (lines_so_far b) ls in
      let long : length rest ≡ length (flat_map whole_line ls) + length more = ap length split ∙ length-append (flat_map whole_line ls) more in
      record {
        text = at.text ∙ ap (λ (xs : List ℕ). flat_map whole_line (lines_so_far b) ++ xs) split ∙ sym (append_assoc (flat_map whole_line (lines_so_far b)) (flat_map whole_line ls) more)
            ∙ ap (λ (xs : List ℕ). xs ++ more) (sym text_now) ∙ ap (λ (zs : List Line). flat_map whole_line zs ++ more) (sym adds);
        fits = rw adds (are_lines-append (lines_so_far b) ls at.fits fits);
        reached = ap (run Start) adds ∙ run-append Start (lines_so_far b) ls ∙ ap (option_and_then (λ (d : Building). run d ls)) at.reached ∙ ran;
        suits = suits;
        count = rw adds (omega (arith, at.count, count, length-append (lines_so_far b) ls));
        room = omega (arith, at.room, long, count, lines_long ls);
      }

same_place : (bytes rest more : List ℕ) (b c : Building) (line next : ℕ) → Reached bytes rest b line → (c ≡ b) × (more ≡ rest) × (next ≡ line) → Reached bytes more c next
same_place bytes rest more b c line next at (p, q, r) = rw (p, q, r) at

pub read_further : (bytes rest more : List ℕ) (b c : Building) (line next : ℕ) → Reached bytes rest b line → ReadsOn b rest line c more next → Reached bytes more c next
read_further bytes rest more (Called prefix n o rs xs) c line next at (new, is, takes) =
    let now : c ≡ Called prefix n o rs (xs ++ takes.taken) = is ∙ ap (λ (zs : List TraceCall). Called prefix n o rs zs) takes.more in
    rw now (lines_taken bytes rest more (Called prefix n o rs xs) (Called prefix n o rs (xs ++ takes.taken)) line next at (map Call takes.taken) takes.text takes.fits
    (calls_added (prefix_lines prefix) (Component n (told prefix.version o)) (Roles rs) xs takes.taken) (calls_taken prefix n o rs xs takes.taken) at.suits (takes.count ∙ ap (λ k. line + k) (sym (length-map takes.taken Call))))
read_further bytes rest more (Taped prefix es) c line next at (new, is, takes) =
    let now : c ≡ Taped prefix (es ++ takes.taken) = is ∙ ap (λ (zs : List TapeEntry). Taped prefix zs) takes.more in
    rw now (lines_taken bytes rest more (Taped prefix es) (Taped prefix (es ++ takes.taken)) line next at (map Tape takes.taken) takes.text takes.fits
    (messages_added (prefix_lines prefix) es takes.taken) (tape_run prefix es takes.taken) at.suits (takes.count ∙ ap (λ k. line + k) (sym (length-map takes.taken Tape))))
read_further bytes rest more b c line next at same = same_place bytes rest more b c line next at same

-- Each message so far is a line of the text, so there are fewer of them than bytes.
pub has_room : (bytes rest : List ℕ) (b : Building) (line : ℕ) → Reached bytes rest b line → length bytes ≤ 4294967294 → HasRoom b
has_room bytes rest (Taped prefix es) line at short = omega (arith, at.count, at.room, short, length-append (prefix_lines prefix) (map Tape es), length-map es Tape)
has_room bytes rest b line at short = tt
