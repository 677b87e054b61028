-- Records that are read and joined, one after another.
use Rattle.std.proofs.Common.{ℕ, ◌+◌, ◌≡◌, ◌≤◌, ◌<◌, List, [], ◌∷◌, length, map, drop, get_or, Option, Some, None, IfSome, Result, Ok, Err, refl, sym, ap, subst, ◌∙◌, inl, inr, Bor, arith}
use Rattle.std.specs.Prelude.{⊤, ◌⊎◌, IfOk, IfErr}
use Rattle.std.specs.List.{Contains}
use Rattle.std.specs.Option.{option_map}
use Rattle.std.proofs.lemmas.List.{drop_all, drop_more, length-map, get_or-map}
use Rattle.std.proofs.lemmas.List.Elements.{Contains-get_or}
use Rattle.cy_msg.specs.Answer.{AnswersOr}
use Rattle.cy_store.specs.Files.{Files}
use Rattle.cy_store.specs.Reads.{Reads, Accepts, Refuses, judged, ◌>>=◌}
use Rattle.cy_store.specs.Store.{StoreView}
use Rattle.cy_salvage.specs.Joined.{Gathered, first_differing, no_records, record_joined}
use Rattle.cy_reader.specs.Record.{Contents}
use Rattle.cy_reader.specs.declared.error.LoadError.{LoadError}
use Rattle.cy_reader.specs.declared.error.LoadError.TheVariants as load_error
use Rattle.cy_setup.specs.declared.error.Fault.{Fault}
use Rattle.cy_setup.specs.declared.error.Fault.TheVariants as fault
use Rattle.cy_setup.specs.declared.error.Refusal.{Refusal}
use Rattle.cy_setup.specs.declared.error.SetupError.{SetupError}
use Rattle.cy_setup.specs.declared.error.SetupError.TheVariants.{Refused, Store, Memory}
use Rattle.cy_setup.specs.Comes.{ComesTo, IsJudged}
use Rattle.cy_setup.specs.Faults.{in_file}
use Rattle.cy_setup.specs.Listing.{record_in}
use Rattle.cy_setup.specs.Merging.{joined_in, merged_from, merged_in, same_descriptions, same_part, same_parts, same_types}
use Rattle.cy_setup.specs.Steps.{IsRecordFault}
use Rattle.cy_setup.proofs.Coming.{Stands, told_map, then, comes_err, comes_ok, comes_memory, comes_same}

-- ---- one record after another

abbrev pub named : List (Bor (List ℕ)) → List (List ℕ)
named names = map (λ (n : Bor (List ℕ)). n.now) names

-- so many were read and joined
pub record AreJoined (names : List (List ℕ)) (n : ℕ) (g : Gathered) (old new : StoreView) : Type 0 where
  pub stands : Stands old new
  pub read : IfSome old.files (λ m. merged_in names m ≡ merged_from (drop n names) g m)

always : {P : Files → Type 0} (files : Option Files) → ((m : Files) → P m) → IfSome files P
always None h = tt
always (Some m) h = h m

pub none_joined : (names : List (List ℕ)) (g : Gathered) (view : StoreView) → g ≡ no_records → AreJoined names 0 g view view
none_joined names g view none = record {
  stands = record { same = refl; counts = record { faults = refl; misses = refl } };
  read = always view.files (λ m. ap (λ (x : Gathered). merged_from names x m) (sym none));
}

left_at : (names : List (Bor (List ℕ))) (n : ℕ) (d : Bor (List ℕ)) → n < length names → drop n (named names) ≡ (get_or names n d).now ∷ drop (n + 1) (named names)
left_at names n d within =
    drop_more (named names) n d.now (omega (arith, within, length-map names (λ (b : Bor (List ℕ)). b.now)))
    ∙ ap (λ (x : List ℕ). x ∷ drop (n + 1) (named names)) (get_or-map (λ (b : Bor (List ℕ)). b.now) names n d d.now within)

-- what follows a record
abbrev pub rest_of : List ℕ → List (List ℕ) → Gathered → Contents → Files → Reads Refusal Gathered
rest_of name rest g later m = joined_in name g later >>= λ all. merged_from rest all m

pub record_joins : (names : List (Bor (List ℕ))) (n : ℕ) (d : Bor (List ℕ)) (g all : Gathered) (later : Contents) (P : List ℕ → Type 0) (old mid new : StoreView) → AreJoined (named names) n g old mid → n < length names
    → ComesTo (λ x. x) (record_in (get_or names n d).now) P mid new (Ok later) → IsJudged (λ (m : Gathered). m) (joined_in (get_or names n d).now g later) (Ok all) → AreJoined (named names) (n + 1) all old new
record_joins names n d g all later P old mid new so_far within came joined = record {
  stands = record {
    same = came.same ∙ so_far.stands.same;
    counts = record { faults = came.accepted.0.faults ∙ so_far.stands.counts.faults; misses = came.accepted.0.misses ∙ so_far.stands.counts.misses };
  };
  read = both old.files so_far.read (subst (λ files. IfSome files (λ m. record_in (get_or names n d).now m ≡ Accepts later)) so_far.stands.same came.accepted.1);
}
  where
    rest : List (List ℕ)
    rest = drop (n + 1) (named names)

    both : (files : Option Files) → IfSome files (λ m. merged_in (named names) m ≡ merged_from (drop n (named names)) g m) → IfSome files (λ m. record_in (get_or names n d).now m ≡ Accepts later)
        → IfSome files (λ m. merged_in (named names) m ≡ merged_from rest all m)
    both None a b = tt
    both (Some m) a b =
        a ∙ ap (λ (l : List (List ℕ)). merged_from l g m) (left_at names n d within) ∙ ap (λ (r : Reads Refusal Contents). r >>= λ x. rest_of (get_or names n d).now rest g x m) b
        ∙ ap (λ (r : Reads Refusal Gathered). r >>= λ x. merged_from rest x m) joined.accepted

name_there : (names : List (Bor (List ℕ))) (n : ℕ) (d : Bor (List ℕ)) (file : List ℕ) → n < length names → file ≡ (get_or names n d).now → Contains (named names) file
name_there names n d file within is =
    subst (Contains (named names)) (get_or-map (λ (b : Bor (List ℕ)). b.now) names n d d.now within ∙ sym is)
    (Contains-get_or (named names) n d.now (omega (arith, within, length-map names (λ (b : Bor (List ℕ)). b.now))))

-- a record is in the way
pub record_stops : {X : Type 0} (view : X → Gathered) (names : List (Bor (List ℕ))) (n : ℕ) (d : Bor (List ℕ)) (g : Gathered) (e : SetupError) (old mid new : StoreView) → AreJoined (named names) n g old mid → n < length names
    → (let r : Result Contents SetupError = Err e in ComesTo (λ x. x) (record_in (get_or names n d).now) (λ file. file ≡ (get_or names n d).now) mid new r)
    → (let r : Result X SetupError = Err e in ComesTo view (merged_in (named names)) (Contains (named names)) old new r)
record_stops view names n d g e old mid new so_far within came =
    let rest = rest_of (get_or names n d).now (drop (n + 1) (named names)) g in
    let first = comes_err view (record_in (get_or names n d).now) rest (Contains (named names)) mid new e (λ file is. name_there names n d file within is) came in
    comes_same view (merged_in (named names)) (then (record_in (get_or names n d).now) rest) (Contains (named names)) (Contains (named names)) old mid new _ so_far.stands
    (told_map old.files (λ m was. was ∙ ap (λ (l : List (List ℕ)). merged_from l g m) (left_at names n d within)) so_far.read) (λ file asked. asked) first

-- it was read, and can't be joined
pub join_stops : {X : Type 0} (view : X → Gathered) (names : List (Bor (List ℕ))) (n : ℕ) (d : Bor (List ℕ)) (g : Gathered) (later : Contents) (e : SetupError) (P : List ℕ → Type 0) (old mid new : StoreView) → AreJoined (named names) n g old mid → n < length names
    → ComesTo (λ x. x) (record_in (get_or names n d).now) P mid new (Ok later) → (let r : Result Gathered SetupError = Err e in IsJudged (λ (m : Gathered). m) (joined_in (get_or names n d).now g later) r)
    → (let r : Result X SetupError = Err e in ComesTo view (merged_in (named names)) (Contains (named names)) old new r)
join_stops {X} view names n d g later e P old mid new so_far within came wrong = record {
  accepted = tt;
  refused = λ refusal is. (stands.counts, both refusal old.files so_far.read (subst (λ files. IfSome files (λ m. record_in (get_or names n d).now m ≡ Accepts later)) so_far.stands.same came.accepted.1) (wrong.refused refusal (ap Err (err_is is))));
  failed = λ file is. absurd (wrong.unread file (ap Err (err_is is)));
  same = stands.same;
  faults_stay = omega (arith, stands.counts.faults);
  misses_stay = omega (arith, stands.counts.misses);
}
  where
    err_is : {T : Type 0} {a b : SetupError} → (let r : Result T SetupError = Err a in r ≡ Err b) → a ≡ b
    err_is is = cc

    stands : Stands old new
    stands = record {
      same = came.same ∙ so_far.stands.same;
      counts = record { faults = came.accepted.0.faults ∙ so_far.stands.counts.faults; misses = came.accepted.0.misses ∙ so_far.stands.counts.misses };
    }

    rest : List (List ℕ)
    rest = drop (n + 1) (named names)

    both : (refusal : Refusal) (files : Option Files) → IfSome files (λ m. merged_in (named names) m ≡ merged_from (drop n (named names)) g m) → IfSome files (λ m. record_in (get_or names n d).now m ≡ Accepts later)
        → joined_in (get_or names n d).now g later ≡ Refuses refusal → IfSome files (λ m. merged_in (named names) m ≡ Refuses refusal)
    both refusal None a b c = tt
    both refusal (Some m) a b c =
        a ∙ ap (λ (l : List (List ℕ)). merged_from l g m) (left_at names n d within) ∙ ap (λ (r : Reads Refusal Contents). r >>= λ x. rest_of (get_or names n d).now rest g x m) b
        ∙ ap (λ (r : Reads Refusal Gathered). r >>= λ x. merged_from rest x m) c

-- all were read
pub all_joined : (names : List (Bor (List ℕ))) (n : ℕ) (g : Gathered) (old new : StoreView) → length names ≤ n → AreJoined (named names) n g old new → ComesTo (λ (m : Gathered). m) (merged_in (named names)) (Contains (named names)) old new (Ok g)
all_joined names n g old new end all = comes_ok (λ (m : Gathered). m) (merged_in (named names)) (Contains (named names)) old new g all.stands
    (told_map old.files (λ m was. was ∙ ap (λ (l : List (List ℕ)). merged_from l g m) (drop_all n (named names) (omega (arith, end, length-map names (λ (b : Bor (List ℕ)). b.now))))) all.read)
