-- How comparing ends.
use Rattle.std.proofs.Common.{◌≡◌, ℕ, Bool, true, false, List, [], length, Option, Some, None, Result, Ok, Err, IsErrOf, refl, sym, ap, ◌∙◌, subst}
use Rattle.std.specs.Prelude.{unwrap_or, IfOk, OnOk, OnErr, IsSomeAnd}
use Rattle.std.specs.FinMap.{get, insert}
use Rattle.std.proofs.lemmas.Option.{same_Some}
use Rattle.cy_store.specs.Files.{Files, Holds, content}
use Rattle.cy_store.specs.Store.{StoreView, SameCounts, HasCauses}
use Rattle.cy_writer.specs.declared.error.WriteError.{WriteError}
use Rattle.cy_writer.proofs.Puts.{get-inserted}
use Rattle.cy_writer.proofs.RecordBytes.{after_record}
use Rattle.cy_writer.specs.RecordWrites.{file_writes, record_puts}
use Rattle.cy_store.specs.Write.{after_writes}
use Rattle.cy_section.specs.RecordText.{record_bytes}
use Rattle.cy_section.specs.declared.types.Channel.{Channel}
use Rattle.cy_section.specs.declared.types.BodyMessage.{BodyMessage}
use Rattle.cy_recording.specs.Compare.{first_difference, SameAnswer}
use Rattle.cy_recording.specs.declared.error.SameError.{SameError}
use Rattle.cy_recording.specs.declared.error.SameError.TheVariants as same_error
use Rattle.cy_recording.specs.declared.judged.Found.{Found}
use Rattle.cy_recording.specs.private.Unlike.{unlike, Told}
use Rattle.cy_recording.specs.private.Keeping.{IsKept, IsSeen}
use Rattle.cy_recording.specs.private.Judging.{IsFirst, Judges, Compares}
use Rattle.cy_recording.proofs.Kept.{causes_on}
use Rattle.cy_recording.proofs.Keeps.{kept_files, kept_quiet, causes_kept}
use Rattle.cy_recording.proofs.Seen.{seen_whole, told_same}

both_ok : {T E X : Type 0} (P Q : T → Type 0) (r : Result T E) → IfOk r P → OnOk r X → ((x : T) → P x → X → Q x) → IfOk r Q
both_ok P Q (Ok x) h done step = step x h done
both_ok P Q (Err e) h done step = tt

was_done : {T E P : Type 0} (r : Result T E) → OnErr r ⊥ → OnOk r P → P
was_done (Ok x) none h = h
was_done (Err e) none h = absurd none

written_text : (name text : List ℕ) (shown old : Files) → Some shown ≡ Some (insert old name text) → content shown name ≡ text
written_text name text shown old is =
    ap (λ (o : Option (List ℕ)). unwrap_or o []) (ap (λ (m : Files). get m name) (same_Some shown (insert old name text) is) ∙ get-inserted old name text)

-- what is shown after the writes of a record
pub wrote_text : {T : Type 0} (r : Result T WriteError) (alias name : List ℕ) (channels : List Channel) (chunks : List ℕ → List (List BodyMessage)) (shown old : Files) → alias ≡ name
    → OnOk r (Some shown ≡ Some (after_writes (file_writes alias (record_puts channels (chunks alias))) old))
    → OnOk r (Some shown ≡ Some (insert old name (record_bytes channels (chunks name))))
wrote_text (Ok x) alias name channels chunks shown old is h =
    h ∙ ap (λ (m : Files). Some m) (after_record channels (chunks alias) old alias) ∙ ap (λ (n : List ℕ). Some (insert old n (record_bytes channels (chunks n)))) is
wrote_text (Err e) alias name channels chunks shown old is h = tt

-- all was put, and the header is compared
pub ends : {T : Type 0} (name text : List ℕ) (start mid new : StoreView) (found : Found) (written : Result T WriteError) (answer : Result (Option ℕ) SameError) (shown old : Files)
    → IsKept name start mid found.failed → found.name.now ≡ name → IsSeen name start.files shown found.header.now found.end found.behind
    → Told start.files name (λ file. found.size ≡ length file) → OnOk written (Some shown ≡ Some (insert old name text)) → Judges found written mid new answer
    → Compares name text start new answer
ends name text start mid new found written answer shown old kept named seen size wrote judges =
    let files = kept_files name start mid found.failed kept in
    let Place : Option ℕ → Type 0 = λ place. Told mid.files found.name.now (λ file. IsFirst (unlike 0 file found.header.now) found.behind found.end found.size place) in
    record {
      compared = both_ok Place (λ place. Told start.files name (λ file. place ≡ first_difference file text)) answer judges.place judges.done (λ place h none m file told there.
          let is : content shown name ≡ text = written_text name text shown old (was_done written none wrote) in
          told_same (λ file. IsFirst (unlike 0 file found.header.now) found.behind found.end found.size place) start.files mid.files name found.name.now files named h m file told there
          file (content shown name) (sym (size m file told there)) seen.long (seen_whole name start.files shown found.header.now found.end found.behind seen m file told there)
          ∙ ap (first_difference file) is);
      same = judges.same ∙ files;
      causes = by found.failed refl;
    }
  where
    by : (b : Bool) → found.failed ≡ b → HasCauses (IsErrOf answer same_error.Store) start new name
    by true e =
        let failed = judges.failed e in
        causes_kept name start new found.failed (kept_quiet name start mid new found.failed kept judges.same failed.1) (λ h. e) (λ calm. absurd (calm failed.0))
    by false e =
        causes_on start mid new name (kept_files name start mid found.failed kept) (kept.quiet e) (λ h. h) (λ h. h)
        (subst (λ (n : List ℕ). HasCauses (IsErrOf answer same_error.Store) mid new n) named (judges.causes e))

-- where the file is there
held_told : (files : Option Files) (name : List ℕ) (P Q : List ℕ → Type 0) → Holds files name P → Told files name Q → Holds files name Q
held_told None name P Q h told = tt
held_told (Some m) name P Q h told = by (get m name) refl h
  where
    by : (o : Option (List ℕ)) → get m name ≡ o → IsSomeAnd o P → IsSomeAnd o Q
    by (Some file) e p = told m file refl e
    by None e p = p

held_ok : {T E : Type 0} (files : Option Files) (name : List ℕ) (P : List ℕ → Type 0) (Q : T → List ℕ → Type 0) (r : Result T E) → Holds files name P
    → IfOk r (λ x. Told files name (Q x)) → IfOk r (λ x. Holds files name (Q x))
held_ok files name P Q (Ok x) h told = held_told files name P (Q x) h told
held_ok files name P Q (Err e) h told = tt

pub answered : (name text : List ℕ) (P : List ℕ → Type 0) (old mid new : StoreView) (answer : Result (Option ℕ) SameError) → mid.files ≡ old.files → SameCounts old mid
    → Holds old.files name P → Compares name text mid new answer → SameAnswer name text old new answer
answered name text P old mid new answer files same there compares = record {
  compared = held_ok old.files name P (λ place file. place ≡ first_difference file text) answer there
      (subst (λ (fs : Option Files). IfOk answer (λ place. Told fs name (λ file. place ≡ first_difference file text))) files compares.compared);
  same = compares.same ∙ files;
  causes = causes_on old mid new name files same (λ h. h) (λ h. h) compares.causes;
}
