-- What comes of the names of the files that a command writes.
use Rattle.std.proofs.Common.{ℕ, ◌≡◌, List, Option, Some, None, IfSome, Result, Ok, Err, IsErrOf, if◌then◌else◌, refl, sym, ap, subst, ◌∙◌, inl, inr, arith}
use Rattle.std.specs.Prelude.{⊤}
use Rattle.cy_store.specs.Files.{Files}
use Rattle.cy_store.specs.Reads.{Reads, Accepts, Refuses, Absent, ◌>>=◌}
use Rattle.cy_store.specs.Store.{StoreView, SameCounts}
use Rattle.cy_setup.specs.Apart.{IsApart, apart_from}
use Rattle.cy_setup.specs.Comes.{ComesTo, IsJudged}
use Rattle.cy_setup.specs.Setup.{IsAsked, Replayed, replayed}
use Rattle.cy_setup.specs.declared.setup.Replay.{Replay}
use Rattle.cy_setup.proofs.Coming.{comes_err, comes_then}
use Rattle.cy_args.specs.PlayWords.{PlayWords}
use Rattle.cy_commands.specs.Commands.PlayWork.{outputs_apart, replayed_in}
use Rattle.cy_commands.specs.PlayEnds.{SetsUp}
use Rattle.cy_commands.specs.private.PlayWrites.{ReadsReplay}
use Rattle.cy_setup.specs.FaultText.{is_limit}
use Rattle.cy_setup.specs.declared.error.Refusal.{Refusal}
use Rattle.cy_setup.specs.declared.error.SetupError.{SetupError}
use Rattle.cy_setup.specs.declared.error.SetupError.TheVariants as setup
use Rattle.cy_args.specs.Command.{Command}
use Rattle.cy_commands.specs.declared.status.Status.{Status}
use Rattle.cy_commands.specs.declared.status.Status.TheVariants.{Limit, Refused}
use Rattle.cy_commands.specs.Commands.{IsRefused, outcome_of}
use Rattle.cy_commands.specs.Due.{IsDueFor}
use Rattle.cy_commands.specs.Refused.{IsRefusal}
use Rattle.cy_commands.specs.Work.{IsMadeOf, Work}
use Rattle.cy_commands.specs.private.Unset.{IsDueUnset}
use Rattle.cy_commands.proofs.Refusing.{refuses, starved}

-- names are looked at before files are read
abbrev pub behind : {A : Type 0} → Reads Refusal ⊤ → (Files → Reads Refusal A) → Files → Reads Refusal A
behind apart reads m = apart >>= λ _. reads m

-- they are apart, so it comes to what reading comes to
module _ {A : Type 0} (apart : Reads Refusal ⊤) (reads : Files → Reads Refusal A) (files : Option Files) (is : IfSome files (λ _. apart ≡ Accepts tt)) where
  pub onward : (r : Reads Refusal A) → IfSome files (λ m. reads m ≡ r) → IfSome files (λ m. behind apart reads m ≡ r)
  onward r h = by files is h
    where
      by : (told : Option Files) → IfSome told (λ _. apart ≡ Accepts tt) → IfSome told (λ m. reads m ≡ r) → IfSome told (λ m. behind apart reads m ≡ r)
      by None a b = tt
      by (Some m) a b = ap (λ (q : Reads Refusal ⊤). q >>= λ _. reads m) a ∙ b

  pub refused_onward : (due : Status) (line : List ℕ) → IsRefusal reads files due line → IsRefusal (behind apart reads) files due line
  refused_onward due line r = record { refusal = r.refusal; refused = onward (Refuses r.refusal) r.refused; status = r.status; told = r.told }

  pub made_onward : (makes : A → Work → Type 0) (work : Work) → IsMadeOf reads makes files work → IsMadeOf (behind apart reads) makes files work
  made_onward makes work a = record { read = a.read; accepted = onward (Accepts a.read) a.accepted; made = a.made }

-- they are not, and no file was read
pub not_apart : {A X : Type 0} (c : Command) (apart : Reads Refusal ⊤) (reads : Files → Reads Refusal A) (old new : StoreView) (e : SetupError) (due : Status) (line : List ℕ)
    → ((d : Status) (l : List ℕ) → IsRefusal (behind apart reads) old.files d l → IsRefused (outcome_of c) old.files d l) → new ≡ old
    → (let r : Result X SetupError = Err e in (refusal : Refusal) → IsErrOf r (setup.Refused refusal) → IfSome old.files (λ _. apart ≡ Refuses refusal))
    → (let r : Result X SetupError = Err e in (file : List ℕ) → IsErrOf r (setup.Store file) → ⊥) → IsDueUnset e due line → IsDueFor c old new due line
not_apart c apart reads old new (setup.Refused refusal) due line by same refused unread (inl s) = starved c old new due line (ap (λ (v : StoreView). v.files) same) s
not_apart c apart reads old new (setup.Refused refusal) due line by same refused unread (inr told) =
    subst (λ (x : Status). IsDueFor c old new x line) (sym told.0)
    (refuses c old new (is_limit refusal.fault) line record {
      same = same;
      refused = by (if is_limit refusal.fault then Limit else Refused) line record {
        refusal = refusal;
        refused = at old.files (refused refusal refl);
        status = refl;
        told = told.1;
      };
    })
  where
    at : (told : Option Files) → IfSome told (λ _. apart ≡ Refuses refusal) → IfSome told (λ m. behind apart reads m ≡ Refuses refusal)
    at None h = tt
    at (Some m) h = ap (λ (q : Reads Refusal ⊤). q >>= λ _. reads m) h
not_apart c apart reads old new (setup.Store file) due line by same refused unread told = absurd (unread file refl)
not_apart c apart reads old new setup.Memory due line by same refused unread s = starved c old new due line (ap (λ (v : StoreView). v.files) same) s

-- what is made ready once its files were read
module _ {X A : Type 0} (view : X → A) (x : X) (due : Reads Refusal ⊤) (mid new : StoreView) (same : new ≡ mid) where
  counts : SameCounts mid new
  counts = record { faults = ap (λ (v : StoreView). v.faults) same; misses = ap (λ (v : StoreView). v.misses) same }

  pub readied : {Y : Type 0} (y : Y) → IfSome mid.files (λ _. IsJudged (λ (u : Y). tt) due (Ok y)) → ComesTo view (λ _. due >>= λ _. Accepts (view x)) (λ _. ⊥) mid new (Ok x)
  readied {Y} y told = record {
    accepted = (counts, at mid.files told);
    refused = λ refusal e. absurd cc;
    failed = λ file e. absurd cc;
    same = ap (λ (v : StoreView). v.files) same;
    faults_stay = omega (arith, ap (λ (v : StoreView). v.faults) same);
    misses_stay = omega (arith, ap (λ (v : StoreView). v.misses) same);
  }
    where
      at : (files : Option Files) → IfSome files (λ _. IsJudged (λ (u : Y). tt) due (Ok y)) → IfSome files (λ _. (due >>= λ _. Accepts (view x)) ≡ Accepts (view x))
      at None h = tt
      at (Some m) h = ap (λ (q : Reads Refusal ⊤). q >>= λ _. Accepts (view x)) h.accepted

  pub unready : {Y : Type 0} (e : SetupError) → (let r : Result Y SetupError = Err e in IfSome mid.files (λ _. IsJudged (λ (u : Y). tt) due r))
      → (let r : Result Y SetupError = Err e in (file : List ℕ) → IsErrOf r (setup.Store file) → ⊥) → (let r : Result X SetupError = Err e in ComesTo view (λ _. due >>= λ _. Accepts (view x)) (λ _. ⊥) mid new r)
  unready {Y} e told unread = record {
    accepted = tt;
    refused = λ refusal is. (counts, at refusal (err_is is) mid.files told);
    failed = λ file is. absurd (unread file (ap Err (err_is is)));
    same = ap (λ (v : StoreView). v.files) same;
    faults_stay = omega (arith, ap (λ (v : StoreView). v.faults) same);
    misses_stay = omega (arith, ap (λ (v : StoreView). v.misses) same);
  }
    where
      err_is : {T : Type 0} {a b : SetupError} → (let r : Result T SetupError = Err a in r ≡ Err b) → a ≡ b
      err_is is = cc

      at : (refusal : Refusal) → e ≡ setup.Refused refusal → (files : Option Files) → (let r : Result Y SetupError = Err e in IfSome files (λ _. IsJudged (λ (u : Y). tt) due r))
          → IfSome files (λ _. (due >>= λ _. Accepts (view x)) ≡ Refuses refusal)
      at refusal is None h = tt
      at refusal is (Some m) h = ap (λ (q : Reads Refusal ⊤). q >>= λ _. Accepts (view x)) (h.refused refusal (ap Err is))

-- ---- the two files of a play

-- the first one is another one's
pub first_also : {X : Type 0} (name : List ℕ) (others : List (List ℕ)) (next : Reads Refusal ⊤) (files : Option Files) (all : List (List ℕ)) (e : SetupError) → others ≡ all
    → (let r : Result X SetupError = Err e in IsApart files name others r) → (let r : Result X SetupError = Err e in IfSome files (λ _. IsJudged (λ (x : X). tt) (apart_from name all >>= λ _. next) r))
first_also {X} name others next files all e same apart = by files (subst (λ (xs : List (List ℕ)). let r : Result X SetupError = Err e in IfSome files (λ _. IsJudged (λ (x : X). tt) (apart_from name xs) r)) same apart.told)
  where
    by : (told : Option Files) → (let r : Result X SetupError = Err e in IfSome told (λ _. IsJudged (λ (x : X). tt) (apart_from name all) r))
        → (let r : Result X SetupError = Err e in IfSome told (λ _. IsJudged (λ (x : X). tt) (apart_from name all >>= λ _. next) r))
    by None h = tt
    by (Some m) h = record { accepted = tt; refused = λ refusal is. ap (λ (q : Reads Refusal ⊤). q >>= λ _. next) (h.refused refusal is); unread = h.unread }

-- it isn't, and the second one is looked at
pub second_tested : {X Y : Type 0} (name other : List ℕ) (first second all more : List (List ℕ)) (files : Option Files) (y : Y) (result : Result X SetupError) → first ≡ all → second ≡ more
    → (let r : Result Y SetupError = Ok y in IsApart files name first r) → IsApart files other second result → IfSome files (λ _. IsJudged (λ (x : X). tt) (apart_from name all >>= λ _. apart_from other more) result)
second_tested {X} {Y} name other first second all more files y result same same_more one two =
    by files (subst (λ (xs : List (List ℕ)). let r : Result Y SetupError = Ok y in IfSome files (λ _. IsJudged (λ (x : Y). tt) (apart_from name xs) r)) same one.told)
    (subst (λ (xs : List (List ℕ)). IfSome files (λ _. IsJudged (λ (x : X). tt) (apart_from other xs) result)) same_more two.told)
  where
    by : (told : Option Files) → (let r : Result Y SetupError = Ok y in IfSome told (λ _. IsJudged (λ (x : Y). tt) (apart_from name all) r)) → IfSome told (λ _. IsJudged (λ (x : X). tt) (apart_from other more) result)
        → IfSome told (λ _. IsJudged (λ (x : X). tt) (apart_from name all >>= λ _. apart_from other more) result)
    by None a b = tt
    by (Some m) a b = subst (λ (q : Reads Refusal ⊤). IsJudged (λ (x : X). tt) (q >>= λ _. apart_from other more) result) (sym a.accepted) b

-- ---- what was read is ready, or not

abbrev next_of : PlayWords → Replayed → Files → Reads Refusal Replayed
next_of w x m = outputs_apart w x.configured >>= λ _. Accepts x

pub is_ready : {Y : Type 0} (w : PlayWords) (before mid new : StoreView) (x : Replay) (y : Y) → ReadsReplay w before mid (Ok x) → new ≡ mid
    → (let r : Result Y SetupError = Ok y in IfSome mid.files (λ _. IsJudged (λ (u : Y). tt) (outputs_apart w (replayed x).configured) r)) → SetsUp w before new (Ok x)
is_ready w before mid new x y read same apart =
    comes_then replayed (replayed_in w) (next_of w) (λ _. ⊥) (IsAsked w.request before.files) before mid new (replayed x) (Ok x) (record { same = read.same; counts = read.accepted.0 }) read.accepted.1 (λ file no. absurd no)
    (readied replayed x (outputs_apart w (replayed x).configured) mid new same y apart)

pub is_unready : {Y : Type 0} (w : PlayWords) (before mid new : StoreView) (x : Replay) (e : SetupError) → ReadsReplay w before mid (Ok x) → new ≡ mid
    → (let r : Result Y SetupError = Err e in IfSome mid.files (λ _. IsJudged (λ (u : Y). tt) (outputs_apart w (replayed x).configured) r))
    → (let r : Result Y SetupError = Err e in (file : List ℕ) → IsErrOf r (setup.Store file) → ⊥) → (let r : Result Replay SetupError = Err e in SetsUp w before new r)
is_unready {Y} w before mid new x e read same apart unread =
    comes_then replayed (replayed_in w) (next_of w) (λ _. ⊥) (IsAsked w.request before.files) before mid new (replayed x) (Err e) (record { same = read.same; counts = read.accepted.0 }) read.accepted.1 (λ file no. absurd no)
    (unready replayed x (outputs_apart w (replayed x).configured) mid new same {Y = Y} e apart unread)

pub is_unread : (w : PlayWords) (old new : StoreView) (e : SetupError) → (let r : Result Replay SetupError = Err e in ReadsReplay w old new r) → (let r : Result Replay SetupError = Err e in SetsUp w old new r)
is_unread w old new e read = comes_err replayed (replayed_in w) (next_of w) (IsAsked w.request old.files) old new e (λ file asked. asked) read
