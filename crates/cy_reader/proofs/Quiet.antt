-- Sections that say nothing, and what others come to without them.
use Rattle.std.proofs.Common.{◌≡◌, ℕ, List, [], ◌∷◌, length, refl, ap, sym, ◌∙◌, arith, nat_lt, Bool, true, false, Option, Some, None, Result, Ok, Err}
use Rattle.std.specs.Prelude.{filter, is_some}
use Rattle.std.proofs.lemmas.Bool.{lt-ltb}
use Rattle.cy_wire.specs.Field.{fields_of, fields_in}
use Rattle.cy_section.specs.declared.error.SectionError.{SectionError}
use Rattle.cy_section.specs.declared.types.ChunkHeader.{ChunkHeader}
use Rattle.cy_section.specs.declared.types.SectionKind.{SectionKind}
use Rattle.cy_section.specs.declared.types.SectionKind.TheVariants as kind
use Rattle.cy_section.specs.Reading.{no_message, messages_of, chunk_header_at}
use Rattle.cy_reader.specs.declared.error.LoadError.{LoadError}
use Rattle.cy_cut.specs.Sections.{WholeSection}
use Rattle.cy_reader.specs.Record.{◌>>=◌, Met, of_section, add_section, section_of, add_sections}
use Rattle.cy_cut.specs.Cutting.{fault_by, is_kept, is_kept_under}

-- ---- one section

pub none_of : (o : Option SectionError) → is_some o ≡ false → o ≡ None
none_of None e = refl
none_of (Some x) e = absurd cc

empty_is : (body : List ℕ) → nat_lt 0 (length body) ≡ false → body ≡ []
empty_is [] e = refl
empty_is (x ∷ body) e = absurd (let no : true ≡ false = sym (lt-ltb 0 (length (x ∷ body)) (omega arith)) ∙ e in cc)

no_messages : (at : ℕ) → messages_of (fields_of at []) ≡ no_message None
unfolding messages_of fields_of fields_in
no_messages at = refl

pub messages_none : (at : ℕ) (body : List ℕ) → nat_lt 0 (length body) ≡ false → messages_of (fields_of at body) ≡ no_message None
messages_none at body e = ap (λ (b : List ℕ). messages_of (fields_of at b)) (empty_is body e) ∙ no_messages at

header_read : (r : Result ChunkHeader SectionError) (c : Met) → fault_by r ≡ None → (of_section r >>= λ _. Ok c) ≡ Ok c
header_read (Ok x) c e = refl
header_read (Err fault) c e = absurd cc

met_under : (k : SectionKind) (at : ℕ) (body : List ℕ) (c : Met) → is_kept_under k at body ≡ false → section_of k at body c ≡ Ok c
met_under kind.Header at body c e = refl
met_under kind.ChunkHeader at body c e = header_read (chunk_header_at at body) c (none_of (fault_by (chunk_header_at at body)) e)
met_under kind.ChunkBody at body c e = rw (messages_none at body e) refl
met_under kind.Index at body c e = refl
met_under kind.Channel at body c e = absurd cc

pub quiet_met : (s : WholeSection) (c : Met) → is_kept s ≡ false → add_section s c ≡ Ok c
unfolding add_section
quiet_met s c e = met_under s.kind s.body_at s.body c e

-- ---- all of them

alike : (r : Result Met LoadError) (f g : Met → Result Met LoadError) → ((d : Met) → f d ≡ g d) → r >>= f ≡ r >>= g
alike (Ok d) f g same = same d
alike (Err e) f g same = refl

-- what is met is met in the others
met_by : (b : Bool) (s : WholeSection) (ss : List WholeSection) (fault : Option SectionError) (c : Met) → ((d : Met) → add_sections (filter is_kept ss) fault d ≡ add_sections ss fault d) → is_kept s ≡ b
    → add_sections (filter is_kept (s ∷ ss)) fault c ≡ add_sections (s ∷ ss) fault c
met_by true s ss fault c behind e = rw e (alike (add_section s c) (add_sections (filter is_kept ss) fault) (add_sections ss fault) behind)
met_by false s ss fault c behind e = rw e (behind c ∙ sym (ap (λ (r : Result Met LoadError). r >>= add_sections ss fault) (quiet_met s c e)))

pub kept_met : (ss : List WholeSection) (fault : Option SectionError) (c : Met) → add_sections (filter is_kept ss) fault c ≡ add_sections ss fault c
kept_met [] fault c = refl
kept_met (s ∷ ss) fault c = met_by (is_kept s) s ss fault c (λ d. kept_met ss fault d) refl
