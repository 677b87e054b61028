-- A record that was read, or why it wasn't.
use Rattle.std.proofs.Common.{ℕ, ◌≡◌, List, Option, IfSome, Result, Err, refl, sym, ap, subst, ◌∙◌, inl, inr}
use Rattle.std.specs.Prelude.{◌⊎◌}
use Rattle.cy_store.specs.Files.{Files, Holds, Lacks}
use Rattle.cy_store.specs.Reads.{Refuses, Absent, judged, file_by}
use Rattle.cy_store.specs.Store.{StoreView}
use Rattle.cy_reader.specs.Load.{LoadAnswer}
use Rattle.cy_reader.specs.Record.{Contents, record_of}
use Rattle.cy_reader.specs.declared.error.LoadError.{LoadError}
use Rattle.cy_reader.specs.declared.error.LoadError.TheVariants as load_error
use Rattle.cy_setup.specs.declared.error.Fault.TheVariants as fault
use Rattle.cy_setup.specs.declared.error.SetupError.{SetupError}
use Rattle.cy_setup.specs.declared.error.SetupError.TheVariants.{Refused, Store, Memory}
use Rattle.cy_setup.specs.Comes.{ComesTo, FailsAt}
use Rattle.cy_setup.specs.Listing.{record_in, contents_or}
use Rattle.cy_setup.specs.Steps.{IsRecordFault}
use Rattle.cy_setup.proofs.Coming.{told_map}
use Rattle.cy_setup.proofs.Texts.{held_is_told}

abbrev pub Comes : List ℕ → StoreView → StoreView → Result Contents SetupError → Type 0
Comes name old new r = ComesTo (λ c. c) (record_in name) (λ file. file ≡ name) old new r

starved : (name : List ℕ) (old new : StoreView) (fault : LoadError) (answer : SetupError) → answer ≡ Memory → (let r : Result Contents LoadError = Err fault in LoadAnswer old new name r) → Comes name old new (Err answer)
starved name old new fault answer none a = subst (λ e. Comes name old new (Err e)) (sym none) record {
  accepted = tt;
  refused = λ refusal e. absurd cc;
  failed = λ file e. absurd cc;
  same = a.same;
  faults_stay = a.causes.faults_stay;
  misses_stay = a.causes.misses_stay;
}

lacked : (name : List ℕ) (files : Option Files) → Lacks files name → IfSome files (λ m. record_in name m ≡ Absent name)
lacked name files lacks = told_map files (λ m none. ap (file_by name (λ bytes. contents_or name (record_of name bytes))) none) lacks

failed_at : (name : List ℕ) (old new : StoreView) (answer : SetupError) → answer ≡ Store name → (let r : Result Contents LoadError = Err load_error.Store in LoadAnswer old new name r) → Comes name old new (Err answer)
failed_at name old new answer is a = subst (λ e. Comes name old new (Err e)) (sym is) record {
  accepted = tt;
  refused = λ refusal e. absurd cc;
  failed = λ file e.
      let same : name ≡ file = cc in
      (sym same, subst (λ f. FailsAt (record_in name) old new f) same record { rose = elim (a.causes.failed refl) [ inl rose ↦ inl rose | inr missed ↦ inr (missed.0, lacked name old.files missed.1) ] });
  same = a.same;
  faults_stay = a.causes.faults_stay;
  misses_stay = a.causes.misses_stay;
}

refused_by : (name : List ℕ) (old new : StoreView) (e : LoadError) (answer : SetupError) → answer ≡ Refused record { file = name; fault = fault.Record e } → ((let r : Result Contents LoadError = Err e in r ≡ Err load_error.Store) → ⊥)
    → Holds old.files name (λ file. record_of name file ≡ Err e) → (let r : Result Contents LoadError = Err e in LoadAnswer old new name r) → Comes name old new (Err answer)
refused_by name old new e answer is other held a = subst (λ q. Comes name old new (Err q)) (sym is) record {
  accepted = tt;
  refused = λ refusal r.
      let same : record { file = name; fault = fault.Record e } ≡ refusal = cc in
      (a.causes.quiet other, held_is_told name (λ bytes. contents_or name (record_of name bytes)) old.files (λ bytes b. ap (λ q. judged (contents_or name q)) b ∙ ap Refuses same) held);
  failed = λ file r. absurd cc;
  same = a.same;
  faults_stay = a.causes.faults_stay;
  misses_stay = a.causes.misses_stay;
}

-- a fault of its own: neither the want of memory nor the store's
abbrev IsOwn : LoadError → Type 0
IsOwn load_error.Memory = ⊥
IsOwn load_error.Store = ⊥
IsOwn other = Unit {0}

own_held : (files : Option Files) (name : List ℕ) (e : LoadError) → IsOwn e → (e ≡ load_error.Memory) ⊎ ((e ≡ load_error.Store) ⊎ Holds files name (λ file. record_of name file ≡ Err e)) → Holds files name (λ file. record_of name file ≡ Err e)
own_held files name e own (inl is) = absurd (subst IsOwn is own)
own_held files name e own (inr (inl is)) = absurd (subst IsOwn is own)
own_held files name e own (inr (inr held)) = held

own_answered : (name : List ℕ) (old new : StoreView) (e : LoadError) (answer : SetupError) → IsOwn e → (answer ≡ Memory) ⊎ (answer ≡ Refused record { file = name; fault = fault.Record e })
    → (let r : Result Contents LoadError = Err e in LoadAnswer old new name r) → Comes name old new (Err answer)
own_answered name old new e answer own (inl none) a = starved name old new e answer none a
own_answered name old new e answer own (inr is) a =
    refused_by name old new e answer is (λ r. absurd (subst IsOwn (err_is r) own)) (own_held old.files name e own a.refused) a
  where
    err_is : {f : LoadError} → (let r : Result Contents LoadError = Err e in r ≡ Err f) → e ≡ f
    err_is r = cc

pub not_read : (name : List ℕ) (old new : StoreView) (e : LoadError) (answer : SetupError) → IsRecordFault name e answer → (let r : Result Contents LoadError = Err e in LoadAnswer old new name r) → Comes name old new (Err answer)
not_read name old new load_error.Memory answer is a = starved name old new load_error.Memory answer is a
not_read name old new load_error.Store answer (inl none) a = starved name old new load_error.Store answer none a
not_read name old new load_error.Store answer (inr is) a = failed_at name old new answer is a
not_read name old new e answer is a = own_answered name old new e answer tt is a
