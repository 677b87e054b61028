-- The entries of fields, one field after another.
use Rattle.std.proofs.Common.{◌≡◌, List, [], ◌∷◌, ◌++◌, refl, sym, ap, ◌∙◌, append_assoc, append-nil, Some, None, Result, Ok, Err}
use Rattle.cy_wire.specs.declared.error.WireError.{WireError}
use Rattle.cy_wire.specs.Field.{WireField, Fields, no_fields, faulty, with_field}
use Rattle.cy_wire.specs.Message.{WireSpan, span_in}
use Rattle.cy_section.specs.declared.error.SectionError.{SectionError}
use Rattle.cy_section.specs.declared.types.IndexEntry.{IndexEntry}
use Rattle.cy_section.specs.Reading.{◌>>=◌, fault_of, entry_at, entries_of}

-- entries, and those that are still read
abbrev pub behind : List IndexEntry → Result (List IndexEntry) SectionError → Result (List IndexEntry) SectionError
behind front (Ok entries) = Ok (front ++ entries)
behind front (Err fault) = Err fault

pub entries_of-other : (field : WireField) (rest : Fields) → span_in 1 field ≡ None → entries_of (with_field field rest) ≡ entries_of rest
unfolding entries_of
entries_of-other field rest e = rw e refl

pub entries_of-entry : (field : WireField) (rest : Fields) (span : WireSpan) → span_in 1 field ≡ Some span
    → entries_of (with_field field rest) ≡ entry_at span >>= λ first. entries_of rest >>= λ others. Ok (first ∷ others)
unfolding entries_of
entries_of-entry field rest span e = rw e refl

one_behind : (front : List IndexEntry) (first : IndexEntry) (r : Result (List IndexEntry) SectionError) → behind front (r >>= λ others. Ok (first ∷ others)) ≡ behind (front ++ first ∷ []) r
one_behind front first (Ok others) = ap (λ (es : List IndexEntry). Ok es) (sym (append_assoc front (first ∷ []) others))
one_behind front first (Err fault) = refl

-- one more entry is read
pub entry_read : (front : List IndexEntry) (left : Fields) (field : WireField) (rest : Fields) (span : WireSpan) (first : IndexEntry) (whole : Result (List IndexEntry) SectionError)
    → behind front (entries_of left) ≡ whole → left ≡ with_field field rest → span_in 1 field ≡ Some span → entry_at span ≡ Ok first
    → behind (front ++ first ∷ []) (entries_of rest) ≡ whole
entry_read front left field rest span first whole so_far e is read =
    sym (one_behind front first (entries_of rest))
    ∙ sym (ap (λ (r : Result IndexEntry SectionError). behind front (r >>= λ f. entries_of rest >>= λ others. Ok (f ∷ others))) read)
    ∙ sym (ap (behind front) (entries_of-entry field rest span is))
    ∙ sym (ap (λ (l : Fields). behind front (entries_of l)) e) ∙ so_far

-- or its fault is
pub entry_wrong : (front : List IndexEntry) (left : Fields) (field : WireField) (rest : Fields) (span : WireSpan) (fault : SectionError) (whole : Result (List IndexEntry) SectionError)
    → behind front (entries_of left) ≡ whole → left ≡ with_field field rest → span_in 1 field ≡ Some span → entry_at span ≡ Err fault → whole ≡ Err fault
entry_wrong front left field rest span fault whole so_far e is read =
    sym so_far ∙ ap (λ (l : Fields). behind front (entries_of l)) e ∙ ap (behind front) (entries_of-entry field rest span is)
    ∙ ap (λ (r : Result IndexEntry SectionError). behind front (r >>= λ f. entries_of rest >>= λ others. Ok (f ∷ others))) read

-- a field that is no entry
pub entry_skipped : (front : List IndexEntry) (left : Fields) (field : WireField) (rest : Fields) (whole : Result (List IndexEntry) SectionError)
    → behind front (entries_of left) ≡ whole → left ≡ with_field field rest → span_in 1 field ≡ None → behind front (entries_of rest) ≡ whole
entry_skipped front left field rest whole so_far e is =
    sym (ap (behind front) (entries_of-other field rest is)) ∙ sym (ap (λ (l : Fields). behind front (entries_of l)) e) ∙ so_far

pub entries_end : (front : List IndexEntry) (left : Fields) (whole : Result (List IndexEntry) SectionError)
    → behind front (entries_of left) ≡ whole → left ≡ no_fields → whole ≡ Ok front
unfolding entries_of
entries_end front left whole so_far e =
    sym so_far ∙ ap (λ (l : Fields). behind front (entries_of l)) e ∙ ap (λ (es : List IndexEntry). Ok es) (append-nil front)

pub entries_fault : (front : List IndexEntry) (left : Fields) (fault : WireError) (whole : Result (List IndexEntry) SectionError)
    → behind front (entries_of left) ≡ whole → left ≡ faulty fault → whole ≡ Err (fault_of fault)
unfolding entries_of
entries_fault front left fault whole so_far e = sym so_far ∙ ap (λ (l : Fields). behind front (entries_of l)) e
