-- A record whose writing was broken off has the front of its text.
use Rattle.std.proofs.Common.{◌≡◌, ℕ, ◌+◌, ◌-◌, ◌≤◌, List, [], ◌∷◌, ◌++◌, length, take, drop, refl, sym, ap, ◌∙◌, subst, arith, append_assoc, length-append}
use Rattle.std.specs.Prelude.{map}
use Rattle.std.specs.List.{flat_map}
use Rattle.std.proofs.lemmas.List.{take-append-drop, take_all, length-drop}
use Rattle.cy_section.specs.declared.types.BodyMessage.{BodyMessage}
use Rattle.cy_section.specs.declared.types.Channel.{Channel}
use Rattle.cy_section.specs.Section.{header_section}
use Rattle.cy_section.specs.RecordText.{Part, parts_of, bytes_of, index_section, header_end, incomplete_header, complete_header, record_bytes}
use Rattle.cy_section.proofs.Lengths.{length-header_section}
use Rattle.cy_writer.specs.RecordWrites.{record_sections}
use Rattle.cy_writer.specs.Unfinished.{unfinished}
use Rattle.cy_read_back.specs.Fronts.{IsFrontOf}
use Rattle.cy_read_back.specs.BrokenOff.{IsBrokenOff, Among, Behind}

-- pieces, one behind another
abbrev joined : List (List ℕ) → List ℕ
joined pieces = flat_map (λ (piece : List ℕ). piece) pieces

joined-append : (xs ys : List (List ℕ)) → joined (xs ++ ys) ≡ joined xs ++ joined ys
joined-append [] ys = refl
joined-append (x ∷ xs) ys = ap (λ (l : List ℕ). x ++ l) (joined-append xs ys) ∙ sym (append_assoc x (joined xs) (joined ys))

joined-parts : (parts : List Part) (last : List ℕ) → joined (map (λ (p : Part). p.bytes) parts ++ last ∷ []) ≡ bytes_of parts ++ last
joined-parts [] last = end last
  where
    end : (xs : List ℕ) → xs ++ [] ≡ xs
    end [] = refl
    end (x ∷ xs) = ap (λ (l : List ℕ). x ∷ l) (end xs)
joined-parts (p ∷ parts) last = ap (λ (l : List ℕ). p.bytes ++ l) (joined-parts parts last) ∙ sym (append_assoc p.bytes (bytes_of parts) last)

-- what stands in front of others, and behind them
first_of : (xs ys : List ℕ) → take (length xs) (xs ++ ys) ≡ xs
first_of [] ys = refl
first_of (x ∷ xs) ys = ap (λ (l : List ℕ). x ∷ l) (first_of xs ys)

rest_of : (xs ys : List ℕ) → drop (length xs) (xs ++ ys) ≡ ys
rest_of [] ys = refl
rest_of (x ∷ xs) ys = rest_of xs ys

behind_header : (header ys : List ℕ) → length header ≡ header_end → drop header_end (header ++ ys) ≡ ys
behind_header header ys long = ap (λ (n : ℕ). drop n (header ++ ys)) (sym long) ∙ rest_of header ys

-- the sections of a record's text
sections_of : (header index : List ℕ) (parts : List Part) → length header ≡ header_end → drop header_end (header ++ bytes_of parts ++ index) ≡ joined (map (λ (p : Part). p.bytes) parts ++ index ∷ [])
sections_of header index parts long =
    ap (drop header_end) (append_assoc header (bytes_of parts) index) ∙ behind_header header (bytes_of parts ++ index) long ∙ sym (joined-parts parts index)

sections_are : (channels : List Channel) (chunks : List (List BodyMessage)) → drop header_end (record_bytes channels chunks) ≡ joined (record_sections channels chunks)
unfolding record_bytes
sections_are channels chunks =
    sections_of (header_section (complete_header channels chunks)) (index_section (parts_of channels chunks)) (parts_of channels chunks) (length-header_section (complete_header channels chunks))

-- the first bytes of a piece among others
some_of : (done later : List (List ℕ)) (next : List ℕ) (kept : ℕ) → (let first = joined done ++ take kept next in take (length first) (joined (done ++ next ∷ later)) ≡ first)
some_of done later next kept =
    let first = joined done ++ take kept next in
    let left = drop kept next ++ joined later in
    let split : joined (done ++ next ∷ later) ≡ first ++ left =
    joined-append done (next ∷ later)
    ∙ ap (λ (l : List ℕ). joined done ++ (l ++ joined later)) (sym (take-append-drop kept next))
    ∙ ap (λ (l : List ℕ). joined done ++ l) (append_assoc (take kept next) (drop kept next) (joined later))
    ∙ sym (append_assoc (joined done) (take kept next) left) in
    ap (take (length first)) split ∙ first_of first left

long_of : (header front rest : List ℕ) → length header ≡ header_end → header_end ≤ length ((header ++ front) ++ rest)
long_of header front rest long = omega (arith, length-append (header ++ front) rest, length-append header front, long)

whole_long : (channels : List Channel) (chunks : List (List BodyMessage)) → header_end ≤ length (record_bytes channels chunks)
unfolding record_bytes
whole_long channels chunks =
    long_of (header_section (complete_header channels chunks)) (bytes_of (parts_of channels chunks)) (index_section (parts_of channels chunks)) (length-header_section (complete_header channels chunks))

-- a file of a header and the first bytes of a text
module _ (header : List ℕ) (long : length header ≡ header_end) where
  sized : (first file : List ℕ) → file ≡ header ++ first → length file ≡ header_end + length first
  sized first file whole = omega (arith, ap length whole, length-append header first, long)

  fronted : (first text file : List ℕ) → file ≡ header ++ first → take (length first) text ≡ first → drop header_end file ≡ take (length file - header_end) text
  fronted first text file whole begins =
      let left : length file - header_end ≡ length first = omega (arith, sized first file whole) in
      ap (drop header_end) whole ∙ behind_header header first long ∙ sym begins ∙ ap (λ (n : ℕ). take n text) (sym left)

  among : (done later : List (List ℕ)) (next : List ℕ) (kept : ℕ) (sections : List (List ℕ)) (text file : List ℕ) → done ++ next ∷ later ≡ sections → text ≡ joined sections
      → file ≡ (header ++ joined done) ++ take kept next → (header_end ≤ length file) × (drop header_end file ≡ take (length file - header_end) text)
  among done later next kept sections text file split all is =
      let first = joined done ++ take kept next in
      let whole : file ≡ header ++ first = is ∙ append_assoc header (joined done) (take kept next) in
      let begins : take (length first) text ≡ first = ap (take (length first)) (all ∙ ap (λ (ss : List (List ℕ)). joined ss) (sym split)) ∙ some_of done later next kept in
      (omega (arith, sized first file whole), fronted first text file whole begins)

-- a file of the length of a text
of_length : (file bytes : List ℕ) → length file ≡ length bytes → drop header_end file ≡ drop header_end bytes → drop header_end file ≡ take (length file - header_end) (drop header_end bytes)
of_length file bytes size is = is ∙ sym (take_all (length file - header_end) (drop header_end bytes) (omega (arith, size, length-drop header_end bytes)))

pub broken_off : (channels : List Channel) (chunks : List (List BodyMessage)) (file : List ℕ) → IsBrokenOff channels chunks file → IsFrontOf channels chunks file
broken_off channels chunks file (Among done later next kept split is) =
    let both = among (header_section incomplete_header) (length-header_section incomplete_header) done later next kept (record_sections channels chunks) (drop header_end (record_bytes channels chunks)) file split
    (sections_are channels chunks) is in
    record { header = both.0; front = both.1 }
broken_off channels chunks file (Behind size is) = record {
  header = omega (arith, size, whole_long channels chunks);
  front = of_length file (record_bytes channels chunks) size is;
}
