-- What a record keeps of its file is what it shows of it.
use Rattle.std.proofs.Common.{Bor, ◌≡◌, ◌≢◌, ℕ, List, length, refl, ap, ◌∙◌, inl, inr, Option, Some, None, Result, Ok, Err, IfErr}
use Rattle.std.specs.Option.{option_map, option_copied}
use Rattle.cy_cut.specs.declared.heads.KeptIndex.{KeptIndex}
use Rattle.cy_cut.specs.Heads.{seen_index, PlacedIndex, index_of, heads_of}
use Rattle.cy_msg.specs.Answer.{AnswersOr}
use Rattle.cy_store.specs.Store.{StoreView}
use Rattle.cy_store.proofs.Pieces.{held_by}
use Rattle.cy_section.specs.declared.types.Header.{Header}
use Rattle.cy_reader.specs.declared.error.LoadError.{LoadError}
use Rattle.cy_reader.specs.declared.error.LoadError.TheVariants.{Store, Memory}
use Rattle.cy_cut.specs.declared.heads.PlacedHead.{PlacedHead}
use Rattle.cy_reader.specs.Record.{Met, Contents, shown, parts_of, source_of, record_of}
use Rattle.cy_cut.specs.Sections.{header_end}
use Rattle.cy_reader.specs.Load.{FileAnswer, LoadAnswer}
use Rattle.cy_cut.proofs.Outcomes.{err_is, no_err}
use Rattle.cy_reader.proofs.Told.{record_named}

-- an index that is lent
pub index_lent : (o : Option (Bor KeptIndex)) → option_map (λ i. seen_index i.now) o ≡ option_map seen_index (option_copied o)
index_lent None = refl
index_lent (Some i) = refl

-- the record of a file's parts
pub kept_is : (name file kept : List ℕ) (size : ℕ) (header : Header) (met : Met) (heads : List PlacedHead) (index : Option PlacedIndex) → parts_of file ≡ Ok (header, met) → kept ≡ name → size ≡ length file
    → heads ≡ heads_of file header_end → index ≡ index_of file header_end
    → record_of name file ≡ Ok (shown (record { name = kept; size = size; header = header; heads = heads; index = index }) met)
unfolding record_of source_of
kept_is name file kept size header met heads index parts same long all last = rw (parts, same, long, all, last) refl

pub parts_refused : (name file : List ℕ) (e : LoadError) → parts_of file ≡ Err e → record_of name file ≡ Err e
unfolding record_of
parts_refused name file e parts = rw parts refl

-- what is loaded of a file that was read
pub loaded : (old new : StoreView) (name file : List ℕ) (result : Result Contents LoadError) → FileAnswer old new name (Ok file)
    → AnswersOr Memory (λ (r : Contents). r) result (record_of name file) → IfErr result (λ e. e ≢ Store) → LoadAnswer old new name result
loaded old new name file (Ok r) read is other = record {
  contents = held_by old.files name (λ held e. ap (record_of name) e ∙ is) read.whole;
  stand = record_named name file r is;
  refused = tt;
  same = read.same;
  causes = record {
    faults_stay = read.causes.faults_stay;
    misses_stay = read.causes.misses_stay;
    failed = λ e. absurd (no_err _ _ e);
    quiet = λ _. read.causes.quiet (λ e. no_err _ _ e);
  };
}
loaded old new name file (Err e) read is other = record {
  contents = tt;
  stand = tt;
  refused = elim is [
    | inl memory ↦ inl memory
    | inr wrong ↦ inr (inr (held_by old.files name (λ held same. ap (record_of name) same ∙ wrong) read.whole))
  ];
  same = read.same;
  causes = record {
    faults_stay = read.causes.faults_stay;
    misses_stay = read.causes.misses_stay;
    failed = λ store. absurd (other (err_is {T = Contents} _ _ store));
    quiet = λ _. read.causes.quiet (λ e. no_err _ _ e);
  };
}
