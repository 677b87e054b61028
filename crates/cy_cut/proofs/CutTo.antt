-- The sections of a file that were read from a store, so far.
use Rattle.std.proofs.Common.{◌≡◌, ◌≤◌, ◌+◌, ℕ, List, [], ◌∷◌, ◌++◌, length, refl, ap, sym, ◌∙◌, subst, All, arith, append_assoc, append-nil, Option, Some, None, Result, Ok, Err}
use Rattle.std.specs.Prelude.{map, filter, IfOk, IfSome}
use Rattle.std.specs.Option.{option_map}
use Rattle.std.proofs.lemmas.List.Elements.{All-append, All-cons, All-nil, filter-append}
use Rattle.cy_store.specs.Files.{Files, Holds}
use Rattle.cy_store.specs.Store.{StoreView, SameCounts}
use Rattle.cy_store.proofs.Pieces.{held_by}
use Rattle.cy_store.proofs.ReadFront.{both_held, may_hold}
use Rattle.cy_section.specs.declared.error.SectionError.{SectionError}
use Rattle.cy_cut.specs.declared.cutting.Part.{Part}
use Rattle.cy_cut.specs.declared.cutting.CutFile.{CutFile}
use Rattle.cy_cut.specs.declared.heads.KeptIndex.{KeptIndex}
use Rattle.cy_cut.specs.declared.heads.PlacedHead.{PlacedHead}
use Rattle.cy_cut.specs.declared.window.Window.{Window}
use Rattle.cy_cut.specs.Sections.{WholeSection, section_at, header_end, longest_file}
use Rattle.cy_cut.specs.Heads.{index_at, section_head, end_of, IsPlaced, seen_index}
use Rattle.cy_cut.specs.Cutting.{IsCut, AreKept, Follow, bytes_of, is_kept, seen_part}
use Rattle.cy_cut.specs.private.Finding.{IsFound, IsSection, EndsWithin, listed}
use Rattle.cy_cut.specs.private.Window.{IsRead}
use Rattle.cy_cut.specs.declared.cutting.Found.TheVariants as found
use Rattle.cy_cut.proofs.PartBytes.{bytes_listed}
use Rattle.cy_cut.proofs.Ahead.{IsAhead, ahead_first, ahead_more, ahead_end, ahead_fault, ahead_index}

-- These sections of a file were read behind the header, up to a place, and this was kept of them.
pub record AreAhead (file : List ℕ) (at : ℕ) (first heads : List PlacedHead) (parts : List Part) : Type 0 where
  pub done : List WholeSection
  pub ahead : IsAhead file at done
  pub kept : AreKept done first heads parts

-- This was read behind the header, up to a place, and no file was changed.
pub record IsCutTo (name : List ℕ) (size at : ℕ) (first heads : List PlacedHead) (parts : List Part) (window : Window) (old now : StoreView) : Type 0 where
  pub ahead : Holds old.files name (λ file. (size ≡ length file) × AreAhead file at first heads parts)
  pub read : Holds old.files name (λ file. IsRead file window)
  pub same : now.files ≡ old.files
  pub counts : SameCounts old now
  pub inside : at ≤ size
  pub within : All (λ p. p.body_at + length p.body ≤ longest_file) parts
  pub all : bytes_of parts ≤ at

pub nothing_cut : (name : List ℕ) (size : ℕ) (first heads : List PlacedHead) (window : Window) (view : StoreView) → header_end ≤ size → Holds view.files name (λ file. size ≡ length file) → heads ≡ first
    → ((file : List ℕ) → IsRead file window) → IsCutTo name size header_end first heads [] window view view
nothing_cut name size first heads window view long there is empty = record {
  ahead = held_by view.files name (λ file told. (
    told,
    record {
      done = [];
      ahead = ahead_first file (omega (arith, told, long));
      kept = record { heads = is ∙ sym (append-nil first); parts = refl; follow = tt };
    },
  )) there;
  read = held_by view.files name (λ file told. empty file) there;
  same = refl;
  counts = record { faults = refl; misses = refl };
  inside = long;
  within = All-nil (λ p. p.body_at + length p.body ≤ longest_file);
  all = omega arith;
}

map-joined : {A B : Type 0} (f : A → B) (xs ys : List A) → map f (xs ++ ys) ≡ map f xs ++ map f ys
map-joined f [] ys = refl
map-joined f (x ∷ xs) ys = ap (λ l. f x ∷ l) (map-joined f xs ys)

follow_more : (at : ℕ) (ss : List WholeSection) (s : WholeSection) → Follow at ss → s.body_at ≡ end_of at ss + 16 → Follow at (ss ++ s ∷ [])
follow_more at [] s all place = (place, tt)
follow_more at (x ∷ ss) s all place = (all.0, follow_more (x.body_at + length x.body) ss s all.1 place)

-- a section more
kept_more : (done : List WholeSection) (s : WholeSection) (at : ℕ) (first heads pushed : List PlacedHead) (parts more : List Part) (head : PlacedHead) (part : Option Part) → AreKept done first heads parts → end_of header_end done ≡ at
    → s.body_at ≡ at + 16 → section_head s ≡ head → map seen_part (listed part) ≡ filter is_kept (s ∷ []) → pushed ≡ heads ++ head ∷ [] → more ≡ parts ++ listed part → AreKept (done ++ s ∷ []) first pushed more
kept_more done s at first heads pushed parts more head part so_far end place headed kept is are = record {
  heads = is ∙ ap (λ (l : List PlacedHead). l ++ head ∷ []) so_far.heads ∙ append_assoc first (map section_head done) (head ∷ [])
      ∙ ap (λ (l : List PlacedHead). first ++ l) (ap (λ (h : PlacedHead). map section_head done ++ h ∷ []) (sym headed) ∙ sym (map-joined section_head done (s ∷ [])));
  parts = ap (map seen_part) are ∙ map-joined seen_part parts (listed part) ∙ ap (λ (l : List WholeSection). l ++ map seen_part (listed part)) so_far.parts
      ∙ ap (λ (l : List WholeSection). filter is_kept done ++ l) kept ∙ sym (filter-append is_kept done (s ∷ []));
  follow = follow_more header_end done s so_far.follow (place ∙ ap (λ (n : ℕ). n + 16) (sym end));
}

ahead_so : (file : List ℕ) (at next size : ℕ) (first heads pushed : List PlacedHead) (parts more : List Part) (head : PlacedHead) (part : Option Part) → AreAhead file at first heads parts → IsSection file at head part → size ≡ length file
    → at + 16 + head.size ≤ size → next ≡ at + (16 + head.size) → pushed ≡ heads ++ head ∷ [] → more ≡ parts ++ listed part → AreAhead file next first pushed more
ahead_so file at next size first heads pushed parts more head part so_far s told within is all are =
    let long : length s.section.body ≡ head.size = ap (λ (h : PlacedHead). h.size) s.headed in
    let place = s.place in
    let end : s.section.body_at + length s.section.body ≡ next = omega (arith, place, long, is) in
    record {
      done = so_far.done ++ s.section ∷ [];
      ahead = subst (λ (n : ℕ). IsAhead file n (so_far.done ++ s.section ∷ [])) end (ahead_more file at so_far.done s.section so_far.ahead s.there place (omega (arith, place, long, within, told)));
      kept = kept_more so_far.done s.section at first heads pushed parts more head part so_far.kept so_far.ahead.place place s.headed s.kept all are;
    }

within_more : (parts : List Part) (part : Option Part) (size : ℕ) → size ≤ longest_file → All (λ p. p.body_at + length p.body ≤ longest_file) parts → IfSome part (λ p. p.body_at + length p.body ≤ size)
    → All (λ p. p.body_at + length p.body ≤ longest_file) (parts ++ listed part)
within_more parts None size short all within = subst (All (λ p. p.body_at + length p.body ≤ longest_file)) (sym (append-nil parts)) all
within_more parts (Some q) size short all within =
    All-append (λ p. p.body_at + length p.body ≤ longest_file) parts (q ∷ []) all
    (All-cons (λ p. p.body_at + length p.body ≤ longest_file) q [] (omega (arith, within, short)) (All-nil (λ p. p.body_at + length p.body ≤ longest_file)))

pub part_more : (name : List ℕ) (size at next : ℕ) (first heads pushed : List PlacedHead) (parts more : List Part) (head : PlacedHead) (part : Option Part) (was window : Window) (old mid now : StoreView) → size ≤ longest_file
    → IsCutTo name size at first heads parts was old mid → Holds mid.files name (λ file. IsFound file at (found.Section head part)) → EndsWithin at size (found.Section head part) → Holds mid.files name (λ file. IsRead file window)
    → now.files ≡ mid.files → SameCounts mid now → next ≡ at + (16 + head.size) → pushed ≡ heads ++ head ∷ [] → more ≡ parts ++ listed part → IsCutTo name size next first pushed more window old now
part_more name size at next first heads pushed parts more head part was window old mid now short so_far section within read same counts is all are = record {
  ahead = both_held old.files name (λ file here there. (here.0, ahead_so file at next size first heads pushed parts more head part here.1 there here.0 within.inside is all are))
      (may_hold (λ file. (size ≡ length file) × AreAhead file at first heads parts) old.files name so_far.ahead)
      (subst (λ (files : Option Files). Holds files name (λ file. IsFound file at (found.Section head part))) so_far.same section);
  read = subst (λ (files : Option Files). Holds files name (λ file. IsRead file window)) so_far.same read;
  same = same ∙ so_far.same;
  counts = record { faults = counts.faults ∙ so_far.counts.faults; misses = counts.misses ∙ so_far.counts.misses };
  inside = omega (arith, within.inside, is);
  within = subst (All (λ p. p.body_at + length p.body ≤ longest_file)) (sym are) (within_more parts part size short so_far.within within.body);
  all = omega (arith, ap bytes_of are, bytes_listed parts part head.size within.short, so_far.all, is);
}

-- the sections end
ended_so : (file : List ℕ) (at : ℕ) (first : List PlacedHead) (c : CutFile) (index : Option KeptIndex) → c.end ≡ Ok index → c.ends_at ≡ at → AreAhead file at first c.heads.items c.parts.items
    → (section_at file at ≡ Ok None) × (index_at file at ≡ option_map seen_index index) → IsCut file first c
ended_so file at first c index e place so_far found = record {
  sections = so_far.done;
  all = rw e (ahead_end file at so_far.done so_far.ahead found.0);
  kept = so_far.kept;
  place = place ∙ sym so_far.ahead.place;
  index = rw e (ahead_index file at so_far.done so_far.ahead found.0 ∙ found.1);
}

broken_so : (file : List ℕ) (at : ℕ) (first : List PlacedHead) (c : CutFile) (fault : SectionError) → c.end ≡ Err fault → c.ends_at ≡ at → AreAhead file at first c.heads.items c.parts.items → section_at file at ≡ Err fault → IsCut file first c
broken_so file at first c fault e place so_far found = record {
  sections = so_far.done;
  all = rw e (ahead_fault file at so_far.done fault so_far.ahead found);
  kept = so_far.kept;
  place = place ∙ sym so_far.ahead.place;
  index = rw e tt;
}

pub cut_end : (name : List ℕ) (size at : ℕ) (first : List PlacedHead) (c : CutFile) (window : Window) (end : Result (Option KeptIndex) SectionError) (old mid : StoreView) → c.end ≡ end → c.ends_at ≡ at
    → IsCutTo name size at first c.heads.items c.parts.items window old mid → Holds mid.files name (λ file. IsFound file at (found.Last end)) → Holds old.files name (λ file. IsCut file first c)
cut_end name size at first c window (Ok index) old mid e place so_far last = both_held old.files name (λ file here there. ended_so file at first c index e place here.1 there)
    (may_hold (λ file. (size ≡ length file) × AreAhead file at first c.heads.items c.parts.items) old.files name so_far.ahead)
    (subst (λ (files : Option Files). Holds files name (λ file. IsFound file at (found.Last (Ok index)))) so_far.same last)
cut_end name size at first c window (Err fault) old mid e place so_far last = both_held old.files name (λ file here there. broken_so file at first c fault e place here.1 there)
    (may_hold (λ file. (size ≡ length file) × AreAhead file at first c.heads.items c.parts.items) old.files name so_far.ahead)
    (subst (λ (files : Option Files). Holds files name (λ file. IsFound file at (found.Last (Err fault)))) so_far.same last)

-- what is to be read of the file is what was known before
pub there_now : (name : List ℕ) (size at : ℕ) (first heads : List PlacedHead) (parts : List Part) (window : Window) (old now : StoreView) → IsCutTo name size at first heads parts window old now
    → Holds now.files name (λ file. (size ≡ length file) × IsRead file window)
there_now name size at first heads parts window old now so_far =
    subst (λ (files : Option Files). Holds files name (λ file. (size ≡ length file) × IsRead file window)) (sym so_far.same)
    (both_held old.files name (λ file here read. (here.0, read)) (may_hold (λ file. (size ≡ length file) × AreAhead file at first heads parts) old.files name so_far.ahead) so_far.read)

pub index_within : (at size : ℕ) (end : Result (Option KeptIndex) SectionError) → EndsWithin at size (found.Last end) → IfOk end (λ i. IfSome i IsPlaced)
index_within at size (Ok index) within = within
index_within at size (Err fault) within = tt
