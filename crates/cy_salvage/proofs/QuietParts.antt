-- Sections that say nothing have no fault of their own.
use Rattle.std.proofs.Common.{◌≡◌, ◌+◌, ◌-◌, ℕ, zero, suc, List, [], ◌∷◌, length, refl, ap, arith, Bool, true, false, Option, Some, None}
use Rattle.std.specs.Prelude.{map, filter, slice_get}
use Rattle.cy_section.specs.declared.error.SectionError.{SectionError}
use Rattle.cy_section.specs.declared.types.SectionKind.{SectionKind}
use Rattle.cy_section.specs.declared.types.SectionKind.TheVariants as kind
use Rattle.cy_section.specs.Reading.{Messages, chunk_header_at}
use Rattle.cy_cut.specs.declared.cutting.Part.{Part}
use Rattle.cy_cut.specs.Sections.{WholeSection}
use Rattle.cy_cut.specs.Heads.{end_of}
use Rattle.cy_salvage.specs.Salvage.{own_fault, fault_under, until_fault}
use Rattle.cy_cut.specs.Cutting.{fault_by, Follow, is_kept, is_kept_under, seen_part}
use Rattle.cy_salvage.specs.private.Salvaging.{place_before}
use Rattle.cy_reader.proofs.Quiet.{none_of, messages_none}

own_under : (k : SectionKind) (at : ℕ) (body : List ℕ) → is_kept_under k at body ≡ false → fault_under k at body ≡ None
own_under kind.Header at body e = refl
own_under kind.ChunkHeader at body e = none_of (fault_by (chunk_header_at at body)) e
own_under kind.ChunkBody at body e = ap (λ (m : Messages). m.fault) (messages_none at body e)
own_under kind.Index at body e = refl
own_under kind.Channel at body e = absurd cc

pub quiet_own : (s : WholeSection) → is_kept s ≡ false → own_fault s ≡ None
unfolding own_fault
quiet_own s e = own_under s.kind s.body_at s.body e

-- the place behind those before one of these, or where all end
abbrev pub place_in : ℕ → Option WholeSection → ℕ
place_in end None = end
place_in end (Some s) = s.body_at - 16

pub place_seen : (end : ℕ) (parts : List Part) (n : ℕ) → place_before end (slice_get parts n) ≡ place_in end (slice_get (map seen_part parts) n)
place_seen end [] n = refl
place_seen end (p ∷ parts) zero = refl
place_seen end (p ∷ parts) (suc n) = place_seen end parts n

-- the first fault of a section's own stands in one of the others
pub record IsUntil (at : ℕ) (ss : List WholeSection) (fault : Option SectionError) : Type 0 where
  pub same_fault : (until_fault (filter is_kept ss) fault).fault ≡ (until_fault ss fault).fault
  pub kept : (until_fault (filter is_kept ss) fault).sections ≡ filter is_kept (until_fault ss fault).sections
  pub place : end_of at (until_fault ss fault).sections ≡ place_in (end_of at ss) (slice_get (filter is_kept ss) (length (until_fault (filter is_kept ss) fault).sections))

until_by : (b : Bool) (o : Option SectionError) (at : ℕ) (s : WholeSection) (ss : List WholeSection) (fault : Option SectionError) → s.body_at ≡ at + 16 → IsUntil (s.body_at + length s.body) ss fault → is_kept s ≡ b → own_fault s ≡ o
    → IsUntil at (s ∷ ss) fault
until_by false o at s ss fault place behind e own =
    let none : own_fault s ≡ None = quiet_own s e in
    record {
      same_fault = rw (e, none) behind.same_fault;
      kept = rw (none, e) behind.kept;
      place = rw (e, none) behind.place;
    }
until_by true None at s ss fault place behind e own = record {
  same_fault = rw (e, own) behind.same_fault;
  kept = rw (own, e, own) (ap (λ (l : List WholeSection). s ∷ l) behind.kept);
  place = rw (e, own) behind.place;
}
until_by true (Some x) at s ss fault place behind e own = record {
  same_fault = rw (e, own) refl;
  kept = rw (e, own) refl;
  place = rw (e, own) (omega (arith, place));
}

pub until_kept : (at : ℕ) (ss : List WholeSection) (fault : Option SectionError) → Follow at ss → IsUntil at ss fault
until_kept at [] fault follow = record { same_fault = refl; kept = refl; place = refl }
until_kept at (s ∷ ss) fault follow = until_by (is_kept s) (own_fault s) at s ss fault follow.0 (until_kept (s.body_at + length s.body) ss fault follow.1) refl refl
