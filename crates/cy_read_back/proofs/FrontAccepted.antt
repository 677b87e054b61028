-- The front of a record's text under the header of an incomplete record is accepted.
use Rattle.std.proofs.Common.{◌≡◌, ℕ, ◌+◌, ◌-◌, ◌≤◌, List, [], ◌∷◌, ◌++◌, length, map, take, drop, refl, sym, ap, ◌∙◌, subst, arith, append_assoc, length-append, length-take, None, Result, Ok, Err, inl, inr}
use Rattle.std.specs.List.{AllByRecursion, flat_map}
use Rattle.std.proofs.Math.Seq.{take-append_seam}
use Rattle.std.proofs.lemmas.Bool.{le-ltb, lt-ltb, cases_lt}
use Rattle.std.proofs.lemmas.List.{take-append-drop, length-drop}
use Rattle.cy_section.specs.declared.types.BodyMessage.{BodyMessage}
use Rattle.cy_section.specs.declared.types.Channel.{Channel}
use Rattle.cy_section.specs.declared.types.Header.{Header}
use Rattle.cy_section.specs.Rows.{header_rows}
use Rattle.cy_section.specs.Section.{header_section, chunk_body}
use Rattle.cy_section.specs.RecordText.{Part, IsRecordText, parts_of, record_bytes, header_end, incomplete_header}
use Rattle.cy_section.proofs.Lengths.{length-header_section}
use Rattle.cy_reader.specs.declared.error.LoadError.{LoadError}
use Rattle.cy_cut.specs.Sections.{WholeSection, longest_section, longest_file}
use Rattle.cy_reader.specs.Record.{◌>>=◌, Met, file_header, add_section, add_sections, nothing, size_of, with_section, largest_channels}
use Rattle.cy_salvage.specs.Salvage.{Salvage, sound_sections, dropped_behind, if_usable, salvage_in, salvage_of}
use Rattle.cy_writer.specs.RecordWrites.{record_sections}
use Rattle.cy_writer.specs.Unfinished.{unfinished}
use Rattle.cy_read_back.specs.Sections.{HeaderFits}
use Rattle.cy_read_back.specs.Records.{AreReadable, IsReadableChannel}
use Rattle.cy_read_back.specs.Fronts.{IsFrontOf, IsGivenMessage, IsSalvagedWhole, IsSectionOfChannel, IsSectionOfChunk}
use Rattle.cy_read_back.specs.BrokenOff.{Among, IsUnfinished}
use Rattle.cy_read_back.proofs.BrokenOff.{broken_off}
use Rattle.cy_read_back.proofs.TextFits.{channel_short}
use Rattle.cy_read_back.proofs.TextSections.{placed}
use Rattle.cy_read_back.proofs.TextMet.{IsChunkOn, IsOn, section_of_part}
use Rattle.cy_read_back.proofs.TextRead.{IsText, header_read, is_text, length_is, text_met}
use Rattle.cy_read_back.proofs.CutSections.{parts_within}
use Rattle.cy_read_back.proofs.CutMessages.{front_salvaged, sound_front}

-- where all sections are met, the first ones are
first_met : (xs ys : List WholeSection) (now all : Met) → add_sections (xs ++ ys) None now ≡ Ok all → (met : Met) × (add_sections xs None now ≡ Ok met)
first_met [] ys now all is = (now, refl)
first_met (x ∷ xs) ys now all is = by (λ m rest. first_met xs ys m all rest) (add_section x now) refl
  where
    by : ((m : Met) → add_sections (xs ++ ys) None m ≡ Ok all → (met : Met) × (add_sections xs None m ≡ Ok met)) → (r : Result Met LoadError) → add_section x now ≡ r
        → (met : Met) × (add_sections (x ∷ xs) None now ≡ Ok met)
    by rest (Ok m) e =
        let more = rest m (sym (ap (λ (r : Result Met LoadError). r >>= add_sections (xs ++ ys) None) e) ∙ is) in
        (more.0, ap (λ (r : Result Met LoadError). r >>= add_sections xs None) e ∙ more.1)
    by rest (Err f) e = absurd (let no : (let r : Result Met LoadError = Err f in r ≡ Ok all) = sym (ap (λ (r : Result Met LoadError). r >>= add_sections (xs ++ ys) None) e) ∙ is in cc)

-- those that stand whole in a file are the first ones of the text
first_parts : (parts : List Part) (size at : ℕ) → (later : List WholeSection) × (placed at parts ≡ placed at (parts_within size at parts) ++ later)
first_parts [] size at = ([], refl)
first_parts (p ∷ rest) size at = elim (cases_lt size (at + length p.bytes)) [
  | inl cut ↦ (placed at (p ∷ rest), rw (lt-ltb size (at + length p.bytes) cut) refl)
  | inr whole ↦
      let more = first_parts rest size (at + length p.bytes) in
      (more.0, rw (le-ltb size (at + length p.bytes) whole) (ap (λ (l : List WholeSection). section_of_part at p ∷ l) more.1))
]

-- the record's channels and chunks are such as are salvaged
channels_are : (cs : List Channel) → AllByRecursion IsReadableChannel cs → AllByRecursion (λ c. size_of (with_section c) ≤ largest_channels) cs → AllByRecursion IsSectionOfChannel cs
channels_are [] are small = tt
channels_are (c ∷ cs) are small =
    (record { name_is_text = are.0.name_is_text; type_is_text = are.0.type_is_text; short = channel_short c small.0 }, channels_are cs are.1 small.1)

messages_are : (channels : List Channel) (ms : List BodyMessage) → AllByRecursion (IsOn channels) ms → AllByRecursion IsGivenMessage ms
messages_are channels [] on = tt
messages_are channels (m ∷ ms) on = (record { name_is_text = on.0.fits.name_is_text; time = on.0.fits.time }, messages_are channels ms on.1)

chunks_are : (channels : List Channel) (chunks : List (List BodyMessage)) → AllByRecursion (IsChunkOn channels) chunks → AllByRecursion (λ chunk. length (chunk_body chunk) ≤ longest_section) chunks
    → AllByRecursion IsSectionOfChunk chunks
chunks_are channels [] on short = tt
chunks_are channels (chunk ∷ chunks) on short = (record { messages = messages_are channels chunk on.0.messages; short = short.0 }, chunks_are channels chunks on.1 short.1)

-- a front is no longer than the text
no_longer : (file text : List ℕ) → header_end ≤ length file → header_end ≤ length text → drop header_end file ≡ take (length file - header_end) (drop header_end text) → length file ≤ length text
no_longer file text long whole front =
    omega (arith, ap length front, length-drop header_end file, length-drop header_end text, length-take (length file - header_end) (drop header_end text))

-- the header of an incomplete record is read
fits : HeaderFits incomplete_header
unfolding header_rows
fits = search arith

usable : (file : List ℕ) → take header_end file ≡ header_section incomplete_header → header_end ≤ length file → length file ≤ longest_file → file_header file ≡ Ok incomplete_header
usable file header long short =
    let whole : file ≡ header_section incomplete_header ++ drop header_end file = sym (take-append-drop header_end file) ∙ ap (λ (front : List ℕ). front ++ drop header_end file) header in
    header_read incomplete_header (drop header_end file) file whole short long refl fits

-- so the file is accepted
salvaged_as : (file : List ℕ) (met : Met) → file_header file ≡ Ok incomplete_header → add_sections (sound_sections file).sections None nothing ≡ Ok met
    → salvage_of file ≡ Ok (let s : Salvage = record { met = met; dropped = dropped_behind (length file) (sound_sections file) } in s)
unfolding salvage_of
salvaged_as file met header sections =
    ap (λ (r : Result Header LoadError). if_usable r >>= λ usable. salvage_in (length file) (sound_sections file)) header
    ∙ ap (λ (r : Result Met LoadError). r >>= λ met. Ok (let s : Salvage = record { met = met; dropped = dropped_behind (length file) (sound_sections file) } in s)) sections

abbrev Salvaged : List Channel → List (List BodyMessage) → List ℕ → Type 0
Salvaged channels chunks file = (s : Salvage) × (salvage_of file ≡ Ok s) × IsSalvagedWhole channels chunks file s

accepted : (channels : List Channel) (chunks : List (List BodyMessage)) (whole file : List ℕ) → whole ≡ record_bytes channels chunks → IsText channels chunks whole → IsUnfinished channels chunks file → Salvaged channels chunks file
accepted channels chunks whole file same t is =
    let parts = parts_of channels chunks in
    let cs = channels_are channels t.each_channel t.each_small in
    let are = chunks_are channels chunks t.on t.bodies in
    let long : header_end ≤ length whole = omega (arith, length_is channels chunks whole t) in
    let front : drop header_end file ≡ take (length file - header_end) (drop header_end whole) = is.front.front ∙ ap (λ (text : List ℕ). take (length file - header_end) (drop header_end text)) (sym same) in
    let within = no_longer file whole is.front.header long front in
    let short : length file ≤ longest_file = omega (arith, within, t.short) in
    let first = first_parts parts (length file) header_end in
    let all = ap (λ (ss : List WholeSection). add_sections ss None nothing) (sym first.1) ∙ text_met channels chunks whole t in
    let met = first_met (placed header_end (parts_within (length file) header_end parts)) first.0 nothing _ all in
    let sound = ap (λ (ss : List WholeSection). add_sections ss None nothing) (sound_front channels chunks file cs are is.front) ∙ met.1 in
    let salvaged = salvaged_as file met.0 (usable file is.header is.front.header short) sound in
    (_, salvaged, front_salvaged channels chunks file _ cs are is.front salvaged)

pub are_salvaged : (channels : List Channel) (messages : List BodyMessage) (whole file : List ℕ) (text : IsRecordText channels messages whole) → AreReadable channels messages whole → IsUnfinished channels text.chunks file
    → Salvaged channels text.chunks file
are_salvaged channels messages whole file text are is = accepted channels text.chunks whole file text.text (is_text channels messages whole text are) is

-- what stands of a record that was broken off is such a file
header_first : (done : List (List ℕ)) (more : List ℕ) → take header_end (unfinished done ++ more) ≡ header_section incomplete_header
header_first done more =
    let header = header_section incomplete_header in
    let sections = flat_map (λ (section : List ℕ). section) done in
    ap (take header_end) (append_assoc header sections more)
    ∙ ap (λ (n : ℕ). take n (header ++ (sections ++ more))) (sym (length-header_section incomplete_header))
    ∙ take-append_seam header (sections ++ more)

pub are_left : (channels : List Channel) (chunks : List (List BodyMessage)) (done later : List (List ℕ)) (next : List ℕ) (kept : ℕ) → done ++ next ∷ later ≡ record_sections channels chunks
    → IsUnfinished channels chunks (unfinished done ++ take kept next)
are_left channels chunks done later next kept split = record {
  header = header_first done (take kept next);
  front = broken_off channels chunks (unfinished done ++ take kept next) (Among done later next kept split refl);
}
