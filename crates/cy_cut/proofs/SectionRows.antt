-- What is read of a file where a section's head may stand, row by row.
use Rattle.std.proofs.Common.{◌≡◌, ℕ, ◌+◌, ◌^◌, ◌<◌, ◌≤◌, List, length, take, drop, refl, ap, ◌∙◌, arith, lit<, lit≤, Some, None, Ok, Err, nat_lt, ◌==◌, if◌then◌else◌}
use Rattle.std.proofs.lemmas.Bool.{eq-eqb, ne_eqb, le-ltb, lt-ltb, le-leb, lt-leb}
use Rattle.std.specs.Int.{w64, cast_signed}
use Rattle.byteorder.specs.Endian.{little_number}
use Rattle.cy_section.specs.declared.error.SectionError.TheVariants.{Cut, Kind, Size, TooLong}
use Rattle.cy_section.specs.declared.types.SectionKind.{SectionKind}
use Rattle.cy_section.specs.Head.{head_at, kind_of}
use Rattle.cy_section.specs.Section.{kind_number}
use Rattle.cy_cut.specs.Sections.{longest_section, under_head, with_head, section_at}
use Rattle.cy_cut.specs.Tiling.{IsPart, chunk_header, chunk_body, channel}

part_kind : {k : SectionKind} → IsPart k → kind_of (kind_number k) ≡ k
part_kind chunk_header = refl
part_kind chunk_body = refl
part_kind channel = refl

pub part_range : {k : SectionKind} → IsPart k → (0 < kind_number k) × (kind_number k ≤ 4)
part_range chunk_header = (lit< tt, lit≤ tt)
part_range chunk_body = (lit< tt, lit≤ tt)
part_range channel = (lit< tt, lit≤ tt)

module _ (file : List ℕ) (at : ℕ) where
  under_part : {k : SectionKind} (size : ℕ) → IsPart k → under_head file at k size
      ≡ (if nat_lt longest_section size then Err (TooLong at size) else (if nat_lt (length file) (at + 16 + size) then Err (Cut at)
      else Ok (Some (record { kind = k; body_at = at + 16; body = take size (drop (at + 16) file) }))))
  under_part size chunk_header = refl
  under_part size chunk_body = refl
  under_part size channel = refl

  pub ends_there : at ≡ length file → section_at file at ≡ Ok None
  unfolding section_at
  ends_there e = rw (eq-eqb at (length file) e) refl

  pub head_cut : at < length file → length file < at + 16 → section_at file at ≡ Err (Cut at)
  unfolding section_at
  head_cut some few = rw (ne_eqb at (length file) (λ e. absurd (omega arith)), lt-ltb (length file) (at + 16) few) refl

  module _ (number size : ℕ) (room : at + 16 ≤ length file) (typed : little_number 4 (drop at file) ≡ number) (sized : little_number 8 (drop 8 (drop at file)) ≡ size) where
    with_room : section_at file at ≡ (if number == 0 then Err (Kind at 0) else with_head file at (head_at at (drop at file)))
    unfolding section_at
    with_room = rw (ne_eqb at (length file) (λ e. absurd (omega arith)), le-ltb (length file) (at + 16) room, typed) refl

    pub second_header : number ≡ 0 → section_at file at ≡ Err (Kind at number)
    second_header e = with_room ∙ rw (eq-eqb number 0 e, e) refl

    behind_type : 0 < number → section_at file at ≡ with_head file at (head_at at (drop at file))
    behind_type some = with_room ∙ rw (ne_eqb number 0 (λ e. absurd (omega arith))) refl

    pub unknown_type : 4 < number → section_at file at ≡ Err (Kind at number)
    unfolding head_at
    unknown_type above = behind_type (omega arith) ∙ rw (typed, lt-ltb 4 number above) refl

    pub below_nought : 0 < number → number ≤ 4 → 2 ^ 63 ≤ size → section_at file at ≡ Err (Size at (cast_signed w64 size))
    unfolding head_at
    below_nought some low negative = behind_type some ∙ rw (typed, sized, le-ltb 4 number low, le-leb (2 ^ 63) size negative) refl

    known_head : 0 < number → number ≤ 4 → size < 2 ^ 63 → section_at file at ≡ under_head file at (kind_of number) size
    unfolding head_at
    known_head some low positive = behind_type some ∙ rw (typed, sized, le-ltb 4 number low, lt-leb (2 ^ 63) size positive) refl

    pub index_there : number ≡ 3 → size < 2 ^ 63 → section_at file at ≡ Ok None
    index_there e positive = known_head (omega arith) (omega arith) positive ∙ ap (λ (n : ℕ). under_head file at (kind_of n) size) e

    part_there : {k : SectionKind} → IsPart k → number ≡ kind_number k → size < 2 ^ 63 → section_at file at
        ≡ (if nat_lt longest_section size then Err (TooLong at size) else (if nat_lt (length file) (at + 16 + size) then Err (Cut at)
        else Ok (Some (record { kind = k; body_at = at + 16; body = take size (drop (at + 16) file) }))))
    part_there {k = k} is e positive =
        let range = part_range is in
        let some = range.0 in
        let low = range.1 in
        known_head (omega arith) (omega arith) positive ∙ ap (λ (n : ℕ). under_head file at (kind_of n) size) e ∙ ap (λ (x : SectionKind). under_head file at x size) (part_kind is) ∙ under_part size is

    pub part_too_long : {k : SectionKind} → IsPart k → number ≡ kind_number k → size < 2 ^ 63 → longest_section < size → section_at file at ≡ Err (TooLong at size)
    part_too_long is e positive large = part_there is e positive ∙ rw (lt-ltb longest_section size large) refl

    pub part_cut : {k : SectionKind} → IsPart k → number ≡ kind_number k → size ≤ longest_section → length file < at + 16 + size → section_at file at ≡ Err (Cut at)
    part_cut is e short few = part_there is e (omega arith) ∙ rw (le-ltb longest_section size short, lt-ltb (length file) (at + 16 + size) few) refl

    pub part_whole : {k : SectionKind} → IsPart k → number ≡ kind_number k → size ≤ longest_section → at + 16 + size ≤ length file
        → section_at file at ≡ Ok (Some (record { kind = k; body_at = at + 16; body = take size (drop (at + 16) file) }))
    part_whole is e short enough = part_there is e (omega arith) ∙ rw (le-ltb longest_section size short, le-ltb (length file) (at + 16 + size) enough) refl
