-- What is read of the front of a file, and what a record is made of.
use Rattle.std.proofs.Common.{◌≡◌, ◌≢◌, ◌≤◌, ℕ, List, [], ◌∷◌, length, take, drop, min, refl, ap, sym, subst, ◌∙◌, arith, Option, Result, Ok, Err, inl, inr}
use Rattle.std.specs.Prelude.{IfOk, IfErr}
use Rattle.cy_msg.specs.Answer.{Answers, AnswersOr}
use Rattle.cy_store.specs.Files.{Files, Holds}
use Rattle.cy_store.specs.Store.{StoreView, SameCounts}
use Rattle.cy_store.proofs.Pieces.{held_by}
use Rattle.cy_store.proofs.ReadFront.{both_held, may_hold}
use Rattle.cy_reader.specs.declared.error.LoadError.{LoadError}
use Rattle.cy_reader.specs.declared.error.LoadError.TheVariants.{Store, Memory}
use Rattle.cy_reader.specs.declared.front.Front.{Front}
use Rattle.cy_cut.specs.declared.cutting.CutFile.{CutFile}
use Rattle.cy_cut.specs.Heads.{header_head}
use Rattle.cy_reader.specs.Load.{LoadAnswer}
use Rattle.cy_reader.specs.Record.{Contents, file_header, parts_of, record_of}
use Rattle.cy_cut.specs.Sections.{header_end, longest_file}
use Rattle.cy_cut.specs.Cutting.{IsCut, CutAnswer}
use Rattle.cy_reader.specs.private.Front.{IsFront, FrontAnswer, cut_record}
use Rattle.cy_reader.proofs.Fronts.{front_header, front_head, cut_is}
use Rattle.cy_cut.proofs.Outcomes.{err_is, no_err, same_counts}
use Rattle.cy_reader.proofs.Told.{cut_named}

header_refused : (name file : List ℕ) (e : LoadError) → file_header file ≡ Err e → record_of name file ≡ Err e
unfolding record_of parts_of
header_refused name file e refused = rw refused refl

-- what is read of a file of a size, from its first bytes
pub front_answered : (old mid new : StoreView) (name : List ℕ) (size k : ℕ) (bytes slice : List ℕ) (result : Result Front LoadError) → Holds old.files name (λ file. size ≡ length file) → size ≤ longest_file
    → k ≡ min size 2064 → slice ≡ bytes → Holds mid.files name (λ file. bytes ≡ take k (drop 0 file)) → length bytes ≤ k → mid.files ≡ old.files → new.files ≡ mid.files → SameCounts old mid → SameCounts mid new
    → Answers (λ (f : Front). f.header) result (file_header slice) → IfOk result (λ f. (f.size ≡ size) × (f.head ≡ header_head slice) × (header_end ≤ length slice)) → IfErr result (λ e. e ≢ Store)
    → FrontAnswer old new name result
front_answered old mid new name size k bytes slice (Ok f) told short is lent read within same later counts more header front other =
    let bytes_read = subst (λ (files : Option Files). Holds files name (λ file. bytes ≡ take k (drop 0 file))) same read in
    let all = same_counts old mid new counts more in
    record {
      front = both_held old.files name (λ file t r. record {
        size = front.0 ∙ t;
        header = sym (front_header file slice size k t short is (lent ∙ r)) ∙ header;
        head = front.1 ∙ front_head file slice size k t is (lent ∙ r) front.2;
      }) (may_hold (λ file. size ≡ length file) old.files name told) bytes_read;
      sized = (omega (arith, front.2, ap length lent, within, is, front.0), omega (arith, front.0, short));
      refused = tt;
      same = later ∙ same;
      causes = record {
        faults_stay = omega (arith, all.faults);
        misses_stay = omega (arith, all.misses);
        failed = λ e. absurd (no_err _ _ e);
        quiet = λ _. all;
      };
    }
front_answered old mid new name size k bytes slice (Err e) told short is lent read within same later counts more header front other =
    let bytes_read = subst (λ (files : Option Files). Holds files name (λ file. bytes ≡ take k (drop 0 file))) same read in
    let all = same_counts old mid new counts more in
    record {
      front = tt;
      sized = tt;
      refused = inr (inr (both_held old.files name (λ file t r. header_refused name file e (sym (front_header file slice size k t short is (lent ∙ r)) ∙ header))
          (may_hold (λ file. size ≡ length file) old.files name told) bytes_read));
      same = later ∙ same;
      causes = record {
        faults_stay = omega (arith, all.faults);
        misses_stay = omega (arith, all.misses);
        failed = λ store. absurd (other (err_is {T = Front} _ _ store));
        quiet = λ _. all;
      };
    }

-- what is loaded of a file whose front and sections were read
pub loaded_so : (old mid new : StoreView) (name : List ℕ) (f : Front) (c : CutFile) (result : Result Contents LoadError) → FrontAnswer old mid name (Ok f) → CutAnswer mid new name (f.head ∷ []) (Ok c)
    → AnswersOr Memory (λ (r : Contents). r) result (cut_record name f c) → IfErr result (λ e. e ≢ Store) → LoadAnswer old new name result
loaded_so old mid new name f c result front cut is other = by_result result is other
  where
    there : Holds old.files name (λ file. record_of name file ≡ cut_record name f c)
    there = both_held old.files name (λ file a b. cut_is name file f a c b) (may_hold (λ file. IsFront file f) old.files name front.front)
        (subst (λ (files : Option Files). Holds files name (λ file. IsCut file (f.head ∷ []) c)) front.same cut.cut)

    all : SameCounts old new
    all = same_counts old mid new (front.causes.quiet (λ e. no_err _ _ e)) (cut.causes.quiet (λ e. no_err _ _ e))

    by_result : (r : Result Contents LoadError) → AnswersOr Memory (λ (r : Contents). r) r (cut_record name f c) → IfErr r (λ e. e ≢ Store) → LoadAnswer old new name r
    by_result (Ok r) made none = record {
      contents = held_by old.files name (λ file e. e ∙ made) there;
      stand = cut_named name f c r made;
      refused = tt;
      same = cut.same ∙ front.same;
      causes = record {
        faults_stay = omega (arith, all.faults);
        misses_stay = omega (arith, all.misses);
        failed = λ e. absurd (no_err _ _ e);
        quiet = λ _. all;
      };
    }
    by_result (Err e) made none = record {
      contents = tt;
      stand = tt;
      refused = elim made [
        | inl memory ↦ inl memory
        | inr wrong ↦ inr (inr (held_by old.files name (λ file same. same ∙ wrong) there))
      ];
      same = cut.same ∙ front.same;
      causes = record {
        faults_stay = omega (arith, all.faults);
        misses_stay = omega (arith, all.misses);
        failed = λ store. absurd (none (err_is {T = Contents} _ _ store));
        quiet = λ _. all;
      };
    }
