-- What is salvaged of a file whose front and sections were read.
use Rattle.std.proofs.Common.{◌≡◌, ◌≢◌, ◌≤◌, ◌<◌, ◌+◌, ◌-◌, ℕ, zero, suc, List, [], ◌∷◌, ◌++◌, length, take, drop, get_or, min, refl, ap, sym, subst, ◌∙◌, arith, append_assoc, append-nil, Bool, true, false, cond, Option, Some, None, Result, Ok, Err, ◌⊎◌, inl, inr, eq-eqb}
use Rattle.std.specs.Prelude.{ℤ, map, filter, slice_get, IfOk, IfErr, IfSome, IsSome, is_none, is_some, ◌==◌, ◌&&◌, ◌||◌, not, nat_lt}
use Rattle.std.specs.Int.{w64, cast_signed}
use Rattle.std.specs.Option.{ok_or}
use Rattle.std.proofs.lemmas.Bool.{lt-ltb, cases_lt}
use Rattle.std.proofs.lemmas.Grind.{common_steps}
use Rattle.std.proofs.lemmas.List.{length-map, length-take-le, take_more, take_all, drop_more, drop_all}
use Rattle.byteorder.specs.Endian.{little_number}
use Rattle.cy_msg.specs.Answer.{Answers, AnswersOr}
use Rattle.cy_store.specs.Files.{Files, Holds}
use Rattle.cy_store.specs.Store.{StoreView, SameCounts}
use Rattle.cy_store.proofs.Pieces.{held_by}
use Rattle.cy_store.proofs.ReadFront.{both_held, may_hold}
use Rattle.cy_section.specs.declared.error.SectionError.{SectionError}
use Rattle.cy_section.specs.declared.error.SectionError.TheVariants as fault
use Rattle.cy_section.specs.declared.types.Channel.{Channel}
use Rattle.cy_section.specs.declared.types.SectionKind.TheVariants as kind
use Rattle.cy_section.specs.Reading.{channel_at}
use Rattle.cy_reader.specs.declared.error.LoadError.{LoadError}
use Rattle.cy_reader.specs.declared.error.LoadError.TheVariants.{Store, Memory, NotRecord, FileTooLarge, Section}
use Rattle.cy_cut.specs.declared.cutting.CutFile.{CutFile}
use Rattle.cy_cut.specs.declared.cutting.Part.{Part}
use Rattle.cy_cut.specs.Sections.{WholeSection, Sections, no_section, with_section, header_end, longest_file}
use Rattle.cy_cut.specs.Heads.{end_of}
use Rattle.cy_reader.specs.Record.{◌>>=◌, Met, file_header, add_sections, nothing}
use Rattle.cy_salvage.specs.Salvage.{Salvage, SalvageAnswer, own_fault, until_fault, sound_sections, if_usable, dropped_at, salvage_in, salvage_of}
use Rattle.cy_cut.specs.Cutting.{IsCut, CutAnswer, Follow, is_kept, seen_part, fault_in}
use Rattle.cy_salvage.specs.private.Salvaging.{IsJudged, AreJudged, AreSound, SizeAnswer, place_before, salvage_kept, cut_salvage}
use Rattle.cy_reader.proofs.Fronts.{front_header}
use Rattle.cy_reader.proofs.Quiet.{kept_met}
use Rattle.cy_salvage.proofs.QuietParts.{place_in, place_seen, until_kept}
use Rattle.cy_cut.proofs.Outcomes.{same_counts, err_is, no_err}
use Rattle.cy_salvage.proofs.SalvageNamed.{salvage_named}

-- ---- the front

-- a file that is too short is refused
never : (a b c : Bool) (n : ℕ) (v : ℤ) → if_usable (cond a (Err (FileTooLarge n)) (cond b (Err NotRecord) (cond c (Err (Section (fault.Size 0 v))) (Err (Section (fault.Cut 0)))))) ≡ Ok tt → ⊥
never true b c n v e = cc
never false true c n v e = cc
never false false true n v e = cc
never false false false n v e = cc

pub usable_long : (file : List ℕ) → if_usable (file_header file) ≡ Ok tt → header_end ≤ length file
unfolding file_header
usable_long file e = elim (cases_lt (length file) 2064) [
  | inl few ↦
      let size = little_number 8 (drop 8 file) in
      absurd (never (nat_lt longest_file (length file)) (nat_lt (length file) 16 || not (little_number 4 file == 0)) (nat_lt 2048 size) (length file) (cast_signed w64 size)
      (rw (lt-ltb (length file) 2064 few) at e))
  | inr long ↦ long
]

front_refused : (file : List ℕ) (e : LoadError) → if_usable (file_header file) ≡ Err e → salvage_of file ≡ Err e
unfolding salvage_of
front_refused file e refused = rw refused refl

large_front : (count : ℕ) (file : List ℕ) → longest_file < count → count ≡ length file → salvage_of file ≡ Err (FileTooLarge count)
unfolding salvage_of file_header
large_front count file large e =
    let over : longest_file < length file = omega arith in
    rw (lt-ltb longest_file (length file) over, e) refl

pub too_large : (files : Option Files) (name : List ℕ) (count : ℕ) → longest_file < count → Holds files name (λ bytes. count ≡ length bytes) → Holds files name (λ file. salvage_of file ≡ Err (FileTooLarge count))
too_large files name count large held = held_by files name (λ file e. large_front count file large e) held

-- the size of a file, from its first bytes
pub size_answered : (old mid new : StoreView) (name : List ℕ) (size k : ℕ) (bytes slice : List ℕ) (result : Result ℕ LoadError) → Holds old.files name (λ file. size ≡ length file) → size ≤ longest_file
    → k ≡ min size 2064 → slice ≡ bytes → Holds mid.files name (λ file. bytes ≡ take k (drop 0 file)) → length bytes ≤ k → mid.files ≡ old.files → new.files ≡ mid.files → SameCounts old mid → SameCounts mid new
    → Answers (λ (n : ℕ). tt) result (if_usable (file_header slice)) → IfOk result (λ n. n ≡ size) → IfErr result (λ e. e ≢ Store)
    → SizeAnswer old new name result
size_answered old mid new name size k bytes slice (Ok n) told short is lent read within same later counts more usable sized other =
    let bytes_read = subst (λ (files : Option Files). Holds files name (λ file. bytes ≡ take k (drop 0 file))) same read in
    let all = same_counts old mid new counts more in
    let long = usable_long slice usable in
    record {
      size = both_held old.files name (λ file t r. (sized ∙ t, ap if_usable (sym (front_header file slice size k t short is (lent ∙ r))) ∙ usable))
          (may_hold (λ file. size ≡ length file) old.files name told) bytes_read;
      sized = (omega (arith, long, ap length lent, within, is, sized), omega (arith, sized, short));
      refused = tt;
      same = later ∙ same;
      causes = record {
        faults_stay = omega (arith, all.faults);
        misses_stay = omega (arith, all.misses);
        failed = λ e. absurd (no_err _ _ e);
        quiet = λ _. all;
      };
    }
size_answered old mid new name size k bytes slice (Err e) told short is lent read within same later counts more usable sized other =
    let bytes_read = subst (λ (files : Option Files). Holds files name (λ file. bytes ≡ take k (drop 0 file))) same read in
    let all = same_counts old mid new counts more in
    record {
      size = tt;
      sized = tt;
      refused = inr (inr (both_held old.files name (λ file t r. front_refused file e (ap if_usable (sym (front_header file slice size k t short is (lent ∙ r))) ∙ usable))
          (may_hold (λ file. size ≡ length file) old.files name told) bytes_read));
      same = later ∙ same;
      causes = record {
        faults_stay = omega (arith, all.faults);
        misses_stay = omega (arith, all.misses);
        failed = λ store. absurd (other (err_is {T = ℕ} _ _ store));
        quiet = λ _. all;
      };
    }

-- ---- the sections

-- those that were looked at, in front of what the others come to
abbrev pub behind : List Part → Sections → Sections
behind front s = record { sections = map seen_part front ++ s.sections; fault = s.fault }

map-push : (ps : List Part) (p : Part) → map seen_part (ps ++ p ∷ []) ≡ map seen_part ps ++ seen_part p ∷ []
map-push [] p = refl
map-push (q ∷ ps) p = ap (λ (l : List WholeSection). seen_part q ∷ l) (map-push ps p)

pub none_looked_at : (parts : List Part) (fault : Option SectionError) → until_fault (map seen_part parts) fault ≡ behind [] (until_fault (map seen_part parts) fault)
none_looked_at parts fault = refl

next_sound : (p : Part) (rest : List Part) (fault : Option SectionError) → own_fault (seen_part p) ≡ None → until_fault (map seen_part (p ∷ rest)) fault ≡ with_section (seen_part p) (until_fault (map seen_part rest) fault)
next_sound p rest fault none = rw none refl

next_faulty : (p : Part) (rest : List Part) (fault : Option SectionError) (own : SectionError) → own_fault (seen_part p) ≡ Some own → until_fault (map seen_part (p ∷ rest)) fault ≡ no_section (Some own)
next_faulty p rest fault own is = rw is refl

pub one_sound : (front left rest : List Part) (p : Part) (fault : Option SectionError) (all : Sections) → all ≡ behind front (until_fault (map seen_part left) fault) → left ≡ p ∷ rest → own_fault (seen_part p) ≡ None
    → all ≡ behind (front ++ p ∷ []) (until_fault (map seen_part rest) fault)
one_sound front left rest p fault all so_far is none =
    let after = until_fault (map seen_part rest) fault in
    so_far ∙ ap (λ (ps : List Part). behind front (until_fault (map seen_part ps) fault)) is ∙ ap (behind front) (next_sound p rest fault none)
    ∙ ap (λ (ss : List WholeSection). let s : Sections = record { sections = ss; fault = after.fault } in s) (sym (append_assoc (map seen_part front) (seen_part p ∷ []) after.sections) ∙ ap (λ (ss : List WholeSection). ss ++ after.sections) (sym (map-push front p)))

pub one_faulty : (front left rest : List Part) (p : Part) (fault : Option SectionError) (own : SectionError) (all : Sections) → all ≡ behind front (until_fault (map seen_part left) fault) → left ≡ p ∷ rest → own_fault (seen_part p) ≡ Some own
    → all ≡ (let s : Sections = record { sections = map seen_part front; fault = Some own } in s)
one_faulty front left rest p fault own all so_far is faulty =
    so_far ∙ ap (λ (ps : List Part). behind front (until_fault (map seen_part ps) fault)) is ∙ ap (behind front) (next_faulty p rest fault own faulty)
    ∙ ap (λ (ss : List WholeSection). let s : Sections = record { sections = ss; fault = Some own } in s) (append-nil (map seen_part front))

pub all_sound : (front left : List Part) (fault : Option SectionError) (all : Sections) → all ≡ behind front (until_fault (map seen_part left) fault) → left ≡ []
    → all ≡ (let s : Sections = record { sections = map seen_part front; fault = fault } in s)
all_sound front left fault all so_far is =
    so_far ∙ ap (λ (ps : List Part). behind front (until_fault (map seen_part ps) fault)) is
    ∙ ap (λ (ss : List WholeSection). let s : Sections = record { sections = ss; fault = fault } in s) (append-nil (map seen_part front))

-- ---- what is salvaged of them

same_salvage : (r q : Result Met LoadError) (d e : ℕ) → r ≡ q → d ≡ e → (r >>= λ met. Ok (let s : Salvage = record { met = met; dropped = d } in s)) ≡ (q >>= λ met. Ok (let s : Salvage = record { met = met; dropped = e } in s))
same_salvage r q d e is at = rw (is, at) refl

kept_salvage : (size end : ℕ) (parts : List Part) (ss : List WholeSection) (fault : Option SectionError) → map seen_part parts ≡ filter is_kept ss → Follow header_end ss → end ≡ end_of header_end ss
    → salvage_in size (until_fault ss fault) ≡ salvage_kept size end parts (until_fault (map seen_part parts) fault)
kept_salvage size end parts ss fault kept follow last =
    let u = until_kept header_end ss fault follow in
    let all = until_fault ss fault in
    let others = until_fault (map seen_part parts) fault in
    let same : others ≡ until_fault (filter is_kept ss) fault = ap (λ (l : List WholeSection). until_fault l fault) kept in
    let sections : others.sections ≡ filter is_kept all.sections = ap (λ (s : Sections). s.sections) same ∙ u.kept in
    let faults : others.fault ≡ all.fault = ap (λ (s : Sections). s.fault) same ∙ u.same_fault in
    let met : add_sections all.sections None nothing ≡ add_sections others.sections None nothing = sym (ap (λ (l : List WholeSection). add_sections l None nothing) sections ∙ kept_met all.sections None nothing) in
    let place : end_of header_end all.sections ≡ place_before end (slice_get parts (length others.sections)) =
    u.place ∙ ap (λ (n : ℕ). place_in n (slice_get (filter is_kept ss) (length (until_fault (filter is_kept ss) fault).sections))) (sym last)
    ∙ ap (λ (s : Sections). place_in end (slice_get (filter is_kept ss) (length s.sections))) (sym same)
    ∙ ap (λ (l : List WholeSection). place_in end (slice_get l (length others.sections))) (sym kept) ∙ sym (place_seen end parts (length others.sections)) in
    let dropped : dropped_at size (end_of header_end all.sections) all.fault ≡ dropped_at size (place_before end (slice_get parts (length others.sections))) others.fault =
    ap (λ (n : ℕ). dropped_at size n all.fault) place ∙ ap (dropped_at size (place_before end (slice_get parts (length others.sections)))) (sym faults) in
    same_salvage (add_sections all.sections None nothing) (add_sections others.sections None nothing) _ _ met dropped

pub salvage_is : (file : List ℕ) (size : ℕ) (c : CutFile) → size ≡ length file → if_usable (file_header file) ≡ Ok tt → IsCut file [] c → salvage_of file ≡ cut_salvage size c
unfolding salvage_of sound_sections cut_salvage
salvage_is file size c sized usable cut =
    rw (usable, cut.all, sym sized) (kept_salvage size c.ends_at c.parts.items cut.sections (fault_in c.end) cut.kept.parts cut.kept.follow cut.place)

pub salvaged_so : (old mid new : StoreView) (name : List ℕ) (size : ℕ) (c : CutFile) (result : Result Salvage LoadError) → SizeAnswer old mid name (Ok size) → CutAnswer mid new name [] (Ok c)
    → AnswersOr Memory (λ (s : Salvage). s) result (cut_salvage size c) → IfErr result (λ e. e ≢ Store) → SalvageAnswer old new name result
salvaged_so old mid new name size c result front cut is other = by_result result is other
  where
    there : Holds old.files name (λ file. salvage_of file ≡ cut_salvage size c)
    there = both_held old.files name (λ file a b. salvage_is file size c a.0 a.1 b) (may_hold (λ file. (size ≡ length file) × (if_usable (file_header file) ≡ Ok tt)) old.files name front.size)
        (subst (λ (files : Option Files). Holds files name (λ file. IsCut file [] c)) front.same cut.cut)

    all : SameCounts old new
    all = same_counts old mid new (front.causes.quiet (λ e. no_err _ _ e)) (cut.causes.quiet (λ e. no_err _ _ e))

    by_result : (r : Result Salvage LoadError) → AnswersOr Memory (λ (s : Salvage). s) r (cut_salvage size c) → IfErr r (λ e. e ≢ Store) → SalvageAnswer old new name r
    by_result (Ok r) made none = record {
      salvage = held_by old.files name (λ file e. e ∙ made) there;
      stand = salvage_named size c r made;
      refused = tt;
      same = cut.same ∙ front.same;
      causes = record {
        faults_stay = omega (arith, all.faults);
        misses_stay = omega (arith, all.misses);
        failed = λ e. absurd (no_err _ _ e);
        quiet = λ _. all;
      };
    }
    by_result (Err e) made none = record {
      salvage = tt;
      stand = tt;
      refused = elim made [
        | inl memory ↦ inl memory
        | inr wrong ↦ inr (inr (held_by old.files name (λ file same. same ∙ wrong) there))
      ];
      same = cut.same ∙ front.same;
      causes = record {
        faults_stay = omega (arith, all.faults);
        misses_stay = omega (arith, all.misses);
        failed = λ store. absurd (none (err_is {T = Salvage} _ _ store));
        quiet = λ _. all;
      };
    }

-- ---- how many sections are sound

pub none_looked : (parts : List Part) (fault : Option SectionError) → until_fault (map seen_part parts) fault ≡ behind (take 0 parts) (until_fault (map seen_part (drop 0 parts)) fault)
none_looked [] fault = refl
none_looked (p ∷ parts) fault = refl

none_of : (o : Option SectionError) → is_some o ≡ false → o ≡ None
none_of None e = refl
none_of (Some x) e = absurd cc

part_first : (parts : List Part) (i : ℕ) (p : Part) → i < length parts → p ≡ get_or parts i p → drop i parts ≡ p ∷ drop (i + 1) parts
part_first parts i p low is = drop_more parts i p low ∙ ap (λ (q : Part). q ∷ drop (i + 1) parts) (sym is)

part_last : (parts : List Part) (i : ℕ) (p : Part) → i < length parts → p ≡ get_or parts i p → take i parts ++ p ∷ [] ≡ take (i + 1) parts
part_last parts i p low is = ap (λ (q : Part). take i parts ++ q ∷ []) is ∙ sym (take_more parts i p low)

pub sound_more : (parts : List Part) (i : ℕ) (p : Part) (faulty : Bool) (fault : Option SectionError) → i < length parts → p ≡ get_or parts i p → faulty ≡ is_some (own_fault (seen_part p)) → faulty ≡ false
    → until_fault (map seen_part parts) fault ≡ behind (take i parts) (until_fault (map seen_part (drop i parts)) fault)
    → until_fault (map seen_part parts) fault ≡ behind (take (i + 1) parts) (until_fault (map seen_part (drop (i + 1) parts)) fault)
sound_more parts i p faulty fault low is told not_faulty so_far =
    one_sound (take i parts) (drop i parts) (drop (i + 1) parts) p fault (until_fault (map seen_part parts) fault) so_far (part_first parts i p low is) (none_of (own_fault (seen_part p)) (sym told ∙ not_faulty))
    ∙ ap (λ (front : List Part). behind front (until_fault (map seen_part (drop (i + 1) parts)) fault)) (part_last parts i p low is)

pub sound_until : (parts : List Part) (i : ℕ) (p : Part) (faulty : Bool) (fault : Option SectionError) → i < length parts → p ≡ get_or parts i p → faulty ≡ is_some (own_fault (seen_part p)) → faulty ≡ true
    → until_fault (map seen_part parts) fault ≡ behind (take i parts) (until_fault (map seen_part (drop i parts)) fault) → AreSound parts i fault
sound_until parts i p faulty fault low is told is_faulty so_far = by (own_fault (seen_part p)) refl
  where
    by : (o : Option SectionError) → own_fault (seen_part p) ≡ o → AreSound parts i fault
    by None e = absurd (let no : true ≡ false = sym is_faulty ∙ told ∙ ap is_some e in cc)
    by (Some own) e = record {
      end = Some own;
      sound = one_faulty (take i parts) (drop i parts) (drop (i + 1) parts) p fault own (until_fault (map seen_part parts) fault) so_far (part_first parts i p low is) e;
      within = omega arith;
      all = λ end. absurd (omega (arith, end));
      some = λ _. refl;
    }

-- what is told of a section
told_so : (o : Option Bool) (b : Bool) (e : LoadError) → (let r : Result Bool LoadError = Ok b in r ≡ ok_or o e) → o ≡ Some b
told_so (Some x) b e is = cc
told_so None b e is = absurd cc

judged_so : (parts : List Part) (faults : List (Option Bool)) (i : ℕ) (b : Bool) → AreJudged parts faults → i < length faults → get_or faults i None ≡ Some b
    → (p : Part) × ((i < length parts) × ((p ≡ get_or parts i p) × IsJudged p b))
judged_so [] [] i b all low is = absurd (omega (arith, low))
judged_so [] (o ∷ faults) i b all low is = absurd all
judged_so (p ∷ parts) [] i b all low is = absurd all
judged_so (p ∷ parts) (o ∷ faults) zero b all low is = (p, (omega arith, (refl, subst (λ (x : Option Bool). IfSome x (IsJudged p)) is all.0)))
judged_so (p ∷ parts) (o ∷ faults) (suc i) b all low is =
    let q = judged_so parts faults i b all.1 (omega (arith, low)) is in
    (q.0, (omega (arith, q.1.0), (q.1.1.0, q.1.1.1)))

pub judged_at : (parts : List Part) (faults : List (Option Bool)) (i : ℕ) (b : Bool) (e : LoadError) → AreJudged parts faults → i < length faults → (let r : Result Bool LoadError = Ok b in r ≡ ok_or (get_or faults i None) e)
    → (p : Part) × ((i < length parts) × ((p ≡ get_or parts i p) × IsJudged p b))
judged_at parts faults i b e all low is = judged_so parts faults i b all low (told_so (get_or faults i None) b e is)

pub all_judged : (parts : List Part) (faults : List (Option Bool)) → AreJudged parts faults → length parts ≡ length faults
all_judged [] [] all = refl
all_judged [] (o ∷ faults) all = absurd all
all_judged (p ∷ parts) [] all = absurd all
all_judged (p ∷ parts) (o ∷ faults) all = ap suc (all_judged parts faults all.1)

pub sound_all : (parts : List Part) (i n : ℕ) (fault : Option SectionError) → length parts ≤ i → n ≡ length parts
    → until_fault (map seen_part parts) fault ≡ behind (take i parts) (until_fault (map seen_part (drop i parts)) fault) → AreSound parts n fault
sound_all parts i n fault end is so_far =
    let same : take i parts ≡ take n parts = take_all i parts end ∙ sym (take_all n parts (omega (arith, is))) in
    record {
      end = fault;
      sound = all_sound (take i parts) (drop i parts) fault (until_fault (map seen_part parts) fault) so_far (drop_all i parts end)
          ∙ ap (λ (ps : List Part). let s : Sections = record { sections = map seen_part ps; fault = fault } in s) same;
      within = omega (arith, is);
      all = λ _. refl;
      some = λ low. absurd (omega (arith, low, is));
    }

-- ---- what they come to

pub sound_salvage : (size : ℕ) (c : CutFile) (count : ℕ) (kept : List Part) (a : AreSound c.parts.items count (fault_in c.end)) → kept ≡ take count c.parts.items
    → cut_salvage size c ≡ add_sections (map seen_part kept) None nothing >>= λ met. Ok (record { met = met; dropped = dropped_at size (place_before c.ends_at (slice_get c.parts.items count)) a.end })
unfolding cut_salvage
sound_salvage size c count kept a is =
    let these : List Part → Sections = λ ps. record { sections = map seen_part ps; fault = a.end } in
    let within = a.within in
    let many : length (map seen_part kept) ≡ count = length-map kept seen_part ∙ ap length is ∙ length-take-le count c.parts.items within in
    ap (salvage_kept size c.ends_at c.parts.items) (a.sound ∙ ap these (sym is))
    ∙ ap (λ (n : ℕ). add_sections (map seen_part kept) None nothing >>= λ met. Ok (let s : Salvage = record { met = met; dropped = dropped_at size (place_before c.ends_at (slice_get c.parts.items n)) a.end } in s)) many

pub salvage_wrong : (size : ℕ) (c : CutFile) (count : ℕ) (kept : List Part) (a : AreSound c.parts.items count (fault_in c.end)) (e : LoadError) → kept ≡ take count c.parts.items
    → add_sections (map seen_part kept) None nothing ≡ Err e → cut_salvage size c ≡ Err e
salvage_wrong size c count kept a e is wrong =
    sound_salvage size c count kept a is
    ∙ ap (λ (r : Result Met LoadError). r >>= λ met. Ok (record { met = met; dropped = dropped_at size (place_before c.ends_at (slice_get c.parts.items count)) a.end })) wrong

-- none is dropped exactly where all were sound and no fault ended them
dropped_is : (size end count n : ℕ) (are_all : Bool) (last fault : Option SectionError) → are_all ≡ ((count == n) && is_none fault) → count ≤ n → (count ≡ n → last ≡ fault) → (count < n → IsSome last)
    → (cond are_all 0 (size - end)) ≡ dropped_at size end last
dropped_is size end count n are_all last fault is within all some = elim (cases_lt count n) [
  | inl low ↦
      let other : (count == n) ≡ false = grind (arith, common_steps) in
      let no : are_all ≡ false = is ∙ ap (λ (b : Bool). b && is_none fault) other in
      ap (λ (b : Bool). cond b 0 (size - end)) no ∙ faulty last (some low)
  | inr not_low ↦
      let same : count ≡ n = omega arith in
      let yes : (count == n) ≡ true = eq-eqb count n same in
      ap (λ (b : Bool). cond b 0 (size - end)) (is ∙ ap (λ (b : Bool). b && is_none fault) yes) ∙ ended fault ∙ ap (dropped_at size end) (sym (all same))
]
  where
    faulty : (o : Option SectionError) → IsSome o → size - end ≡ dropped_at size end o
    faulty None none = absurd (let no : false ≡ true = none in cc)
    faulty (Some x) some = refl

    ended : (o : Option SectionError) → cond (is_none o) 0 (size - end) ≡ dropped_at size end o
    ended None = refl
    ended (Some x) = refl

pub salvage_met : (size : ℕ) (c : CutFile) (count place dropped : ℕ) (are_all : Bool) (kept : List Part) (a : AreSound c.parts.items count (fault_in c.end)) (met : Met) → kept ≡ take count c.parts.items
    → add_sections (map seen_part kept) None nothing ≡ Ok met → are_all ≡ ((count == length c.parts.items) && is_none (fault_in c.end)) → place ≡ place_before c.ends_at (slice_get c.parts.items count)
    → dropped ≡ cond are_all 0 (size - place) → cut_salvage size c ≡ Ok (record { met = met; dropped = dropped })
salvage_met size c count place dropped are_all kept a met is so all there told =
    let end = place_before c.ends_at (slice_get c.parts.items count) in
    sound_salvage size c count kept a is ∙ ap (λ (r : Result Met LoadError). r >>= λ met. Ok (record { met = met; dropped = dropped_at size end a.end })) so
    ∙ ap (λ (n : ℕ). let r : Result Salvage LoadError = Ok (record { met = met; dropped = n }) in r)
    (sym (told ∙ ap (λ (n : ℕ). cond are_all 0 (size - n)) there ∙ dropped_is size end count (length c.parts.items) are_all a.end (fault_in c.end) all a.within a.all a.some))

-- ---- a channel's section

pub channel_sound : (p : Part) (bytes : List ℕ) (c : Channel) → p.kind ≡ kind.Channel → bytes ≡ p.body → channel_at p.body_at bytes ≡ Ok c → false ≡ is_some (own_fault (seen_part p))
unfolding own_fault
channel_sound p bytes c is same read =
    let here : channel_at p.body_at p.body ≡ Ok c = ap (channel_at p.body_at) (sym same) ∙ read in
    rw (is, here) refl

channel_fault : (p : Part) (e : SectionError) → p.kind ≡ kind.Channel → channel_at p.body_at p.body ≡ Err e → true ≡ is_some (own_fault (seen_part p))
unfolding own_fault
channel_fault p e is read = rw (is, read) refl

pub channel_faulty : (p : Part) (bytes : List ℕ) (e : SectionError) (result : Result Bool LoadError) → p.kind ≡ kind.Channel → bytes ≡ p.body → (e ≡ fault.Memory) ⊎ (channel_at p.body_at bytes ≡ Err e)
    → IfOk result (λ b. (b ≡ true) × (e ≢ fault.Memory)) → IfOk result (λ b. b ≡ is_some (own_fault (seen_part p)))
channel_faulty p bytes e (Ok b) is same (inl memory) told = absurd (told.1 memory)
channel_faulty p bytes e (Ok b) is same (inr read) told = told.0 ∙ channel_fault p e is (ap (channel_at p.body_at) (sym same) ∙ read)
channel_faulty p bytes e (Err x) is same read told = tt
