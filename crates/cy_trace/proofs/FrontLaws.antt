-- Numbers and parts of lines, read from the first byte on.
use Rattle.std.proofs.Common.{ℕ, Bool, true, false, ◌==◌, ◌≡◌, ◌+◌, ◌*◌, ◌/◌, ◌%◌, ◌^◌, ◌<◌, ◌≤◌, List, [], ◌∷◌, ◌++◌, length, map, flat_map, Option, Some, None, codes, refl, ap, sym, ◌∙◌, arith, append_assoc}
use Rattle.std.proofs.lemmas.Bool.{eqb-false}
use Rattle.std.proofs.lemmas.Fmt.{decimal_digit, decimal_step}
use Rattle.std.proofs.lemmas.List.{append-nil, length-append, map-append}
use Rattle.std.proofs.lemmas.List.Concat.{flat_map-append}
use Rattle.std.proofs.lemmas.Nat.{div-mul-add, mod-mul-add}
use Rattle.std.specs.Borrow.{Bor}
use Rattle.std.specs.Fmt.{decimal}
use Rattle.std.specs.Prelude.{IfSome, option_map}
use Rattle.cy_msg.specs.Quoted.{quoted}
use Rattle.cy_trace.specs.Cuts.{behind}
use Rattle.cy_trace.proofs.CutLaws.{behind_parts}
use Rattle.cy_trace.specs.TraceForm.{Each, IsOutput, IsShort, line_text, numbers_text, output_text, whole_line}
use Rattle.cy_trace.specs.LineParts.{tape_start}
use Rattle.cy_trace.specs.declared.line.Line.{Line}
use Rattle.cy_trace.specs.declared.line.Line.TheVariants.{Call, Tape}
use Rattle.cy_trace.specs.declared.trace.TapeEntry.{TapeEntry}
use Rattle.cy_trace.specs.declared.trace.TraceCall.{TraceCall}
use Rattle.cy_trace.specs.declared.trace.TraceOutput.{TraceOutput}
use Rattle.cy_trace.specs.private.Fronts.{BeginsWith, BeginsWithParts}
use Rattle.cy_trace.specs.Taking.{TakesCalls, TakesMessages}
use Rattle.cy_trace.proofs.LineLists.{are_lines-append}

-- one more digit
pub digit_more : (value digit : ℕ) → 1 ≤ value → digit < 10 → 10 * value + digit < 2 ^ 64 → decimal (10 * value + digit) ≡ decimal value ++ (48 + digit) ∷ []
digit_more value digit some low small =
    let turned : 10 * value + digit ≡ value * 10 + digit = omega arith in
    let front : (10 * value + digit) / 10 ≡ value = ap (λ n. n / 10) turned ∙ div-mul-add value 10 digit low in
    let last : (10 * value + digit) % 10 ≡ digit = ap (λ n. n % 10) turned ∙ mod-mul-add value 10 digit low in
    decimal_step (10 * value + digit) (omega (arith, some)) small ∙ ap (λ n. decimal n ++ (48 + (10 * value + digit) % 10) ∷ []) front ∙ ap (λ n. decimal value ++ (48 + n) ∷ []) last

-- a digit more is read, where these bytes stand before what is left
pub digit_taken : (value digit : ℕ) (whole rest more : List ℕ) → whole ≡ decimal value ++ rest → rest ≡ (48 + digit) ∷ more → 1 ≤ value → digit < 10 → 10 * value + digit < 2 ^ 64
    → whole ≡ decimal (10 * value + digit) ++ more
digit_taken value digit whole rest more is split some low small =
    is ∙ ap (λ (xs : List ℕ). decimal value ++ xs) split ∙ sym (append_assoc (decimal value) ((48 + digit) ∷ []) more) ∙ ap (λ (xs : List ℕ). xs ++ more) (sym (digit_more value digit some low small))

-- one digit alone
pub digit_first : (value : ℕ) (rest : List ℕ) → value < 10 → (48 + value) ∷ rest ≡ decimal value ++ rest
digit_first value rest low = ap (λ (xs : List ℕ). xs ++ rest) (sym (decimal_digit value low))

-- one more number of a call
pub number_more : (seqs : List ℕ) (n : ℕ) → numbers_text (seqs ++ n ∷ []) ≡ numbers_text seqs ++ 32 ∷ decimal n
number_more seqs n = flat_map-append (λ k. codes " " ++ decimal k) seqs (n ∷ []) ∙ ap (λ (xs : List ℕ). numbers_text seqs ++ xs) (append-nil (32 ∷ decimal n))

pub number_taken : (bytes seqs rest word more : List ℕ) (n : ℕ) → bytes ≡ numbers_text seqs ++ rest → rest ≡ 32 ∷ word → word ≡ decimal n ++ more → bytes ≡ numbers_text (seqs ++ n ∷ []) ++ more
number_taken bytes seqs rest word more n is split word_is =
    is ∙ ap (λ (xs : List ℕ). numbers_text seqs ++ xs) (split ∙ ap (λ (xs : List ℕ). 32 ∷ xs) word_is) ∙ sym (append_assoc (numbers_text seqs) (32 ∷ decimal n) more)
    ∙ ap (λ (xs : List ℕ). xs ++ more) (sym (number_more seqs n))

pub each_more : (P : ℕ → Type 0) (ns : List ℕ) (n : ℕ) → Each P ns → P n → Each P (ns ++ n ∷ [])
each_more P [] n h p = (p, tt)
each_more P (m ∷ ns) n h p = (h.0, each_more P ns n h.1 p)

-- the line of a call, part by part
pub call_text : (x : TraceCall) (bytes a b c d e rest : List ℕ) → bytes ≡ codes "call " ++ a → a ≡ decimal x.position ++ b → b ≡ 47 ∷ c → c ≡ decimal x.tail ++ d
    → d ≡ numbers_text x.seqs ++ codes " " ++ output_text x.out ++ e → e ≡ 10 ∷ rest → bytes ≡ whole_line (Call x) ++ rest
unfolding line_text
call_text x bytes a b c d e rest p q r s t u = rw (p, q, r, s, t, u) (simp append_assoc)

shape : (p q s d rest start : List ℕ) → start ≡ p ++ q ++ s → start ++ (d ++ 10 ∷ rest) ≡ ((p ++ q ++ s ++ d) ++ 10 ∷ []) ++ rest
shape p q s d rest start is = rw is (simp append_assoc)

-- the line of a message of the tape
pub tape_text : (entry : TapeEntry) (bytes start a b rest : List ℕ) → start ≡ tape_start entry.name → bytes ≡ start ++ a → a ≡ decimal entry.seq ++ b → b ≡ 10 ∷ rest → bytes ≡ whole_line (Tape entry) ++ rest
unfolding line_text
tape_text entry bytes start a b rest s p q r =
    let whole : start ++ (decimal entry.seq ++ 10 ∷ rest) ≡ whole_line (Tape entry) ++ rest = shape (codes "tape ") (quoted true entry.name) (codes " ") (decimal entry.seq) rest start s in
    let split : start ++ a ≡ start ++ (decimal entry.seq ++ 10 ∷ rest) = ap (λ (xs : List ℕ). start ++ xs) (q ∙ ap (λ (xs : List ℕ). decimal entry.seq ++ xs) r) in
    p ∙ split ∙ whole

-- a line more is taken
one_more : (whole rest more : List ℕ) (line : Line) (ls : List Line) → whole ≡ flat_map whole_line ls ++ rest → rest ≡ whole_line line ++ more → whole ≡ flat_map whole_line (ls ++ line ∷ []) ++ more
one_more whole rest more line ls is split =
    let text_now : flat_map whole_line (ls ++ line ∷ []) ≡ flat_map whole_line ls ++ whole_line line =
    flat_map-append whole_line ls (line ∷ []) ∙ ap (λ (xs : List ℕ). flat_map whole_line ls ++ xs) (append-nil (whole_line line)) in
    is ∙ ap (λ (xs : List ℕ). flat_map whole_line ls ++ xs) split ∙ sym (append_assoc (flat_map whole_line ls) (whole_line line) more) ∙ ap (λ (xs : List ℕ). xs ++ more) (sym text_now)

pub no_calls : (bytes : List ℕ) (calls : List TraceCall) (line : ℕ) → TakesCalls bytes bytes calls calls line line
no_calls bytes calls line = record { taken = []; text = refl; fits = tt; more = sym (append-nil calls); count = omega arith }

pub call_taken : (bytes rest further : List ℕ) (old now new : List TraceCall) (line next : ℕ) (x : TraceCall) → TakesCalls bytes rest old now line next → BeginsWith rest (Call x) further → new ≡ now ++ x ∷ []
    → TakesCalls bytes further old new line (next + 1)
call_taken bytes rest further old now new line next x so begins is =
    let all = map-append Call so.taken (x ∷ []) in
    record {
      taken = so.taken ++ x ∷ [];
      text = one_more bytes rest further (Call x) (map Call so.taken) so.text begins.text ∙ ap (λ (ls : List Line). flat_map whole_line ls ++ further) (sym all);
      fits = rw all (are_lines-append (map Call so.taken) (Call x ∷ []) so.fits (begins.fits, tt));
      more = is ∙ ap (λ (xs : List TraceCall). xs ++ x ∷ []) so.more ∙ append_assoc old so.taken (x ∷ []);
      count = omega (arith, so.count, length-append so.taken (x ∷ []));
    }

pub no_messages : (bytes : List ℕ) (tape : List TapeEntry) (line : ℕ) → TakesMessages bytes bytes tape tape line line
no_messages bytes tape line = record { taken = []; text = refl; fits = tt; more = sym (append-nil tape); count = omega arith }

pub message_taken : (bytes rest further : List ℕ) (old now new : List TapeEntry) (line next : ℕ) (x : TapeEntry) → TakesMessages bytes rest old now line next → BeginsWith rest (Tape x) further → new ≡ now ++ x ∷ []
    → TakesMessages bytes further old new line (next + 1)
message_taken bytes rest further old now new line next x so begins is =
    let all = map-append Tape so.taken (x ∷ []) in
    record {
      taken = so.taken ++ x ∷ [];
      text = one_more bytes rest further (Tape x) (map Tape so.taken) so.text begins.text ∙ ap (λ (ls : List Line). flat_map whole_line ls ++ further) (sym all);
      fits = rw all (are_lines-append (map Tape so.taken) (Tape x ∷ []) so.fits (begins.fits, tt));
      more = is ∙ ap (λ (xs : List TapeEntry). xs ++ x ∷ []) so.more ∙ append_assoc old so.taken (x ∷ []);
      count = omega (arith, so.count, length-append so.taken (x ∷ []));
    }

-- what stands behind a line is shorter
pub behind_line : (bytes rest : List ℕ) (line : Line) → BeginsWith bytes line rest → length rest + 1 ≤ length bytes
behind_line bytes rest line begins =
    let long = ap length begins.text ∙ length-append (whole_line line) rest in
    omega (arith, long, length-append (line_text line) (10 ∷ []))

-- what stands behind a word
pub word_found : (word bytes : List ℕ) (r : Option (Bor (List ℕ))) → option_map (λ (rest : Bor (List ℕ)). rest.now) r ≡ behind word bytes → IfSome r (λ rest. bytes ≡ word ++ rest.now)
word_found word bytes None h = tt
word_found word bytes (Some rest) h = behind_parts word bytes rest.now (sym h)

spaced : (a b c : List ℕ) → a ++ 32 ∷ (b ++ c) ≡ a ++ codes " " ++ b ++ c
spaced a b c = simp append_assoc

-- what stands behind a call's tail, where nothing was put out and where something was
pub parts_none : (bytes seqs rest word more : List ℕ) → bytes ≡ numbers_text seqs ++ rest → rest ≡ 32 ∷ word → word ≡ 45 ∷ more → Each IsShort seqs → BeginsWithParts bytes seqs None more
parts_none bytes seqs rest word more is space dash short = record {
  text = rw (is, space, dash) (simp append_assoc);
  short = short;
  fits = tt;
}

pub parts_some : (bytes seqs rest word timing behind_number more : List ℕ) (n : ℕ) (out : TraceOutput) → bytes ≡ numbers_text seqs ++ rest → rest ≡ 32 ∷ word → word ≡ decimal n ++ behind_number → behind_number ≡ 64 ∷ timing
    → decimal n ++ 64 ∷ timing ≡ output_text (Some out) ++ more → IsOutput (Some out) → Each IsShort seqs → BeginsWithParts bytes seqs (Some out) more
parts_some bytes seqs rest word timing behind_number more n out is space number at_time put fits short =
    let told : word ≡ output_text (Some out) ++ more = number ∙ ap (λ (xs : List ℕ). decimal n ++ xs) at_time ∙ put in
    record {
      text = is ∙ ap (λ (xs : List ℕ). numbers_text seqs ++ xs) (space ∙ ap (λ (xs : List ℕ). 32 ∷ xs) told) ∙ spaced (numbers_text seqs) (output_text (Some out)) more;
      short = short;
      fits = fits;
    }

-- what was taken stays so where nothing is added
pub calls_kept : (bytes rest : List ℕ) (old now new : List TraceCall) (line next : ℕ) → TakesCalls bytes rest old now line next → new ≡ now → TakesCalls bytes rest old new line next
calls_kept bytes rest old now new line next so is = rw is so

pub messages_kept : (bytes rest : List ℕ) (old now new : List TapeEntry) (line next : ℕ) → TakesMessages bytes rest old now line next → new ≡ now → TakesMessages bytes rest old new line next
messages_kept bytes rest old now new line next so is = rw is so

-- a list that is not empty has a first one
pub some_first : (seqs shown : List ℕ) (empty : Bool) → shown ≡ seqs → empty ≡ length shown == 0 → empty ≡ false → 0 < length seqs
some_first seqs shown empty is tests other =
    let none = eqb-false (length shown) 0 (sym tests ∙ other) in
    let same = ap length is in
    omega (arith, none, same)
