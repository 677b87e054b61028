-- What writing the messages that are kept comes to, and so what a tool does.
use Rattle.std.proofs.Common.{◌≡◌, arith, ℕ, List, [], ◌∷◌, length, refl, sym, ap, subst, ◌∙◌, true, Option, Some, None, Result, Ok, Err}
use Rattle.std.specs.Option.{option_map}
use Rattle.std.specs.Prelude.{filter}
use Rattle.cy_msg.specs.declared.filter.Filter.{Filter}
use Rattle.cy_store.specs.Files.{Files}
use Rattle.cy_store.specs.Store.{StoreView, HasWriteCauses}
use Rattle.cy_store.specs.Write.{Write, after_writes}
use Rattle.cy_reader.specs.Load.{LoadAnswer}
use Rattle.cy_reader.specs.Record.{Contents, Met, Message, record_of}
use Rattle.cy_salvage.specs.Salvage.{Salvage, SalvageAnswer, salvage_of}
use Rattle.cy_reader.specs.declared.error.LoadError.{LoadError}
use Rattle.cy_reader.specs.declared.error.LoadError.TheVariants as load_error
use Rattle.cy_writer.specs.Writes.{Makes}
use Rattle.cy_writer.specs.declared.error.WriteError.{WriteError}
use Rattle.cy_writer.specs.declared.error.WriteError.TheVariants as write_error
use Rattle.cy_tools.specs.declared.error.ToolError.{ToolError}
use Rattle.cy_tools.specs.declared.kept.Kept.{Kept}
use Rattle.cy_tools.specs.declared.kept.Lets.{Lets}
use Rattle.cy_tools.specs.declared.recovering.Recovered.{Recovered}
use Rattle.cy_tools.specs.declared.splitting.Parted.{Parted}
use Rattle.cy_tools.specs.Answer.{IsRead, ToolAnswer}
use Rattle.cy_tools.specs.Causes.{error_of_load, error_of_write}
use Rattle.cy_tools.specs.Kept.{kept_writes, passing}
use Rattle.cy_tools.specs.Tools.{Tool, met_in, recovering, splitting}
use Rattle.cy_tools.specs.private.Keeping.{all_kept}
use Rattle.cy_tools.specs.private.Giving.{WritesKept, DoesWork}
use Rattle.cy_tools.proofs.Answering.{stays, not_read, done, not_done}
use Rattle.cy_tools.proofs.Records.{stand_filtered}
use Rattle.cy_tools.proofs.Texts.{kept_text}

err_is : {T E : Type 0} (a b : E) → (let r : Result T E = Err a in r ≡ Err b) → a ≡ b
err_is a b e = cc

no_err : {T E : Type 0} (x : T) (b : E) → (let r : Result T E = Ok x in r ≡ Err b) → ⊥
no_err x b e = cc

as_err : {T E : Type 0} (a b : E) → a ≡ b → (let r : Result T E = Err a in r ≡ Err b)
as_err a b e = ap (λ x. Err x) e

-- ---- the same, of another value

other_causes : (F G : Type 0) (old new : StoreView) → (F → G) → (G → F) → HasWriteCauses F old new → HasWriteCauses G old new
other_causes F G old new to from causes = record {
  faults_stay = causes.faults_stay;
  misses_stay = causes.misses_stay;
  failed = λ g. causes.failed (from g);
  quiet = λ not. causes.quiet (λ f. not (to f));
}

other_ok : {S T : Type 0} (writes : List Write) (old new : StoreView) (x : S) (y : T) → (let r : Result S WriteError = Ok x in Makes writes old new r) → (let r : Result T WriteError = Ok y in Makes writes old new r)
other_ok writes old new x y makes = record {
  done = makes.done;
  failed = λ e. absurd (no_err y write_error.Failed e);
  starved = λ e. absurd (no_err y write_error.Memory e);
  broken = λ e. absurd (no_err y write_error.Broken e);
}

other_err : {S T : Type 0} (writes : List Write) (old new : StoreView) (e : WriteError) → (let r : Result S WriteError = Err e in Makes writes old new r) → (let r : Result T WriteError = Err e in Makes writes old new r)
other_err writes old new e makes = record {
  done = tt;
  failed = λ is. makes.failed (as_err e write_error.Failed (err_is e write_error.Failed is));
  starved = λ is. makes.starved (as_err e write_error.Memory (err_is e write_error.Memory is));
  broken = λ is. makes.broken (as_err e write_error.Broken (err_is e write_error.Broken is));
}

-- ---- the messages that are kept

none_written : (files : Option Files) → files ≡ option_map (after_writes []) files
none_written None = refl
none_written (Some m) = refl

starved : {T : Type 0} (writes : List Write) (old : StoreView) (e : WriteError) → e ≡ write_error.Memory → (let r : Result T WriteError = Err e in Makes writes old old r)
starved writes old e memory = record {
  done = tt;
  failed = λ is. absurd (let no : write_error.Memory ≡ write_error.Failed = sym memory ∙ err_is e write_error.Failed is in cc);
  starved = λ is. record { before = []; later = writes; split = refl; left = none_written old.files };
  broken = λ is. refl;
}

starved_causes : {T : Type 0} (old : StoreView) (e : WriteError) → e ≡ write_error.Memory → HasWriteCauses (let r : Result T WriteError = Err e in r ≡ Err write_error.Failed) old old
starved_causes old e memory = record {
  faults_stay = omega arith;
  misses_stay = omega arith;
  failed = λ is. absurd (let no : write_error.Memory ≡ write_error.Failed = sym memory ∙ err_is e write_error.Failed is in cc);
  quiet = λ _. record { faults = refl; misses = refl };
}

module _ (name : List ℕ) (k : Kept) (old new : StoreView) where
  abbrev writes : List Write
  writes = kept_writes name k.loaded (all_kept k)

  -- no memory for their channels
  pub unnumbered : (e : WriteError) → e ≡ write_error.Memory → new ≡ old → (let r : Result ℕ WriteError = Err e in WritesKept name k old new r)
  unnumbered e memory same = subst (λ v. let r : Result ℕ WriteError = Err e in WritesKept name k old v r) (sym same) record {
    makes = starved writes old e memory;
    count = tt;
    unbroken = λ is. (let no : write_error.Memory ≡ write_error.Broken = sym memory ∙ err_is e write_error.Broken is in cc);
    causes = starved_causes old e memory;
  }

  -- their record was not written, or was
  pub unwritten : {S : Type 0} (e : WriteError) → (let r : Result S WriteError = Err e in Makes writes old new r) → ((let r : Result S WriteError = Err e in r ≡ Err write_error.Broken) → ⊥)
      → HasWriteCauses (let r : Result S WriteError = Err e in r ≡ Err write_error.Failed) old new → (let r : Result ℕ WriteError = Err e in WritesKept name k old new r)
  unwritten e makes unbroken causes = record {
    makes = other_err writes old new e makes;
    count = tt;
    unbroken = λ is. unbroken (as_err e write_error.Broken (err_is e write_error.Broken is));
    causes = other_causes _ _ old new (λ is. as_err e write_error.Failed (err_is e write_error.Failed is)) (λ is. as_err e write_error.Failed (err_is e write_error.Failed is)) causes;
  }

  pub wrote : {S : Type 0} (x : S) (n : ℕ) → n ≡ length (all_kept k) → (let r : Result S WriteError = Ok x in Makes writes old new r)
      → HasWriteCauses (let r : Result S WriteError = Ok x in r ≡ Err write_error.Failed) old new → (let r : Result ℕ WriteError = Ok n in WritesKept name k old new r)
  wrote x n all makes causes = record {
    makes = other_ok writes old new x n makes;
    count = all;
    unbroken = λ is. no_err n write_error.Broken is;
    causes = other_causes _ _ old new (λ is. absurd (no_err x write_error.Failed is)) (λ is. absurd (no_err n write_error.Failed is)) causes;
  }

-- ---- a tool

module _ {A T : Type 0} (tool : Tool A T) (to : List ℕ) (x : A) (k : Kept) (old new : StoreView) where
  makes_same : {R : Type 0} (r : Result R WriteError) → tool.met x ≡ k.loaded → tool.kept x ≡ all_kept k → Makes (kept_writes to k.loaded (all_kept k)) old new r → Makes (kept_writes to (tool.met x) (tool.kept x)) old new r
  makes_same r met kept makes = subst (λ (ws : List Write). Makes ws old new r) (λ i. kept_writes to (sym met i) (sym kept i)) makes

  pub does : (n : ℕ) (told : T) → tool.met x ≡ k.loaded → tool.kept x ≡ all_kept k → told ≡ tool.tells x → (let r : Result ℕ WriteError = Ok n in WritesKept to k old new r)
      → (let r : Result T WriteError = Ok told in DoesWork tool to x old new r)
  does n told met kept tells works = record {
    makes = makes_same (Ok told) met kept (other_ok (kept_writes to k.loaded (all_kept k)) old new n told works.makes);
    tells = tells;
    unbroken = λ is. no_err told write_error.Broken is;
    causes = other_causes _ _ old new (λ is. absurd (no_err n write_error.Failed is)) (λ is. absurd (no_err told write_error.Failed is)) works.causes;
  }

  pub does_not : (e : WriteError) → tool.met x ≡ k.loaded → tool.kept x ≡ all_kept k → (let r : Result ℕ WriteError = Err e in WritesKept to k old new r)
      → (let r : Result T WriteError = Err e in DoesWork tool to x old new r)
  does_not e met kept works = record {
    makes = makes_same (Err e) met kept (other_err (kept_writes to k.loaded (all_kept k)) old new e works.makes);
    tells = tt;
    unbroken = λ is. works.unbroken (as_err e write_error.Broken (err_is e write_error.Broken is));
    causes = other_causes _ _ old new (λ is. as_err e write_error.Failed (err_is e write_error.Failed is)) (λ is. as_err e write_error.Failed (err_is e write_error.Failed is)) works.causes;
  }

-- without a filter all are kept
all_pass : (ms : List Message) → filter (λ (m : Message). true) ms ≡ ms
all_pass [] = refl
all_pass (m ∷ rest) = ap (λ (l : List Message). m ∷ l) (all_pass rest)

pub kept_unfiltered : (k : Kept) → k.lets ≡ None → k.loaded.messages ≡ all_kept k
kept_unfiltered k none = rw none (sym (all_pass k.loaded.messages))

-- and with one those that it lets through
pub kept_filtered : (k : Kept) (l : Lets) (f : Filter) → k.lets ≡ Some l → l.filter.now ≡ f → passing f k.loaded ≡ all_kept k
kept_filtered k l f some is = rw some (subst (λ (g : Filter). passing g k.loaded ≡ passing l.filter.now k.loaded) is refl)

-- ---- what is answered

pub unsalvaged : (from to : List ℕ) (old new : StoreView) (e : LoadError) → (let r : Result Salvage LoadError = Err e in SalvageAnswer old new from r)
    → (let r : Result Recovered ToolError = Err (error_of_load e) in ToolAnswer salvage_of recovering from to old new r)
unsalvaged from to old new e a =
    not_read salvage_of recovering from to old new _ e (λ is. as_err e load_error.Store is) (λ is. err_is e load_error.Store is) a.refused a.same a.causes

pub unloaded : (f : Filter) (from to : List ℕ) (old new : StoreView) (e : LoadError) → (let r : Result Contents LoadError = Err e in LoadAnswer old new from r)
    → (let r : Result Parted ToolError = Err (error_of_load e) in ToolAnswer (record_of from) (splitting f) from to old new r)
unloaded f from to old new e a =
    not_read (record_of from) (splitting f) from to old new _ e (λ is. as_err e load_error.Store is) (λ is. err_is e load_error.Store is) a.refused a.same a.causes

module _ (from to : List ℕ) (old mid new : StoreView) (s : Salvage) (a : (let r : Result Salvage LoadError = Ok s in SalvageAnswer old mid from r)) where
  salvage_read : IsRead salvage_of recovering from to old.files s
  salvage_read = record { held = a.salvage; text = kept_text to s.met s.met.messages a.stand }

  untouched : mid ≡ old
  untouched = stays old mid a.same (a.causes.quiet (λ e. no_err s load_error.Store e))

  pub recovered : (told : Recovered) → (let r : Result Recovered WriteError = Ok told in DoesWork recovering to s mid new r)
      → (let r : Result Recovered ToolError = Ok told in ToolAnswer salvage_of recovering from to old new r)
  recovered told works =
      done salvage_of recovering from to old new s told salvage_read
      (subst (λ (v : StoreView). let r : Result Recovered WriteError = Ok told in DoesWork recovering to s v new r) untouched works)

  pub unrecovered : (e : WriteError) → (let r : Result Recovered WriteError = Err e in DoesWork recovering to s mid new r)
      → (let r : Result Recovered ToolError = Err (error_of_write e) in ToolAnswer salvage_of recovering from to old new r)
  unrecovered e works =
      not_done salvage_of recovering from to old new s e salvage_read
      (subst (λ (v : StoreView). let r : Result Recovered WriteError = Err e in DoesWork recovering to s v new r) untouched works)

module _ (f : Filter) (from to : List ℕ) (old mid new : StoreView) (c : Contents) (a : (let r : Result Contents LoadError = Ok c in LoadAnswer old mid from r)) where
  record_read : IsRead (record_of from) (splitting f) from to old.files c
  record_read = record { held = a.contents; text = kept_text to (met_in c) (passing f (met_in c)) (stand_filtered c.channels _ c.messages a.stand) }

  unchanged : mid ≡ old
  unchanged = stays old mid a.same (a.causes.quiet (λ e. no_err c load_error.Store e))

  pub parted : (told : Parted) → (let r : Result Parted WriteError = Ok told in DoesWork (splitting f) to c mid new r)
      → (let r : Result Parted ToolError = Ok told in ToolAnswer (record_of from) (splitting f) from to old new r)
  parted told works =
      done (record_of from) (splitting f) from to old new c told record_read
      (subst (λ (v : StoreView). let r : Result Parted WriteError = Ok told in DoesWork (splitting f) to c v new r) unchanged works)

  pub unparted : (e : WriteError) → (let r : Result Parted WriteError = Err e in DoesWork (splitting f) to c mid new r)
      → (let r : Result Parted ToolError = Err (error_of_write e) in ToolAnswer (record_of from) (splitting f) from to old new r)
  unparted e works =
      not_done (record_of from) (splitting f) from to old new c e record_read
      (subst (λ (v : StoreView). let r : Result Parted WriteError = Err e in DoesWork (splitting f) to c v new r) unchanged works)

-- ---- what each tool does with what it keeps

all_salvaged : (s : Salvage) (k : Kept) → k.loaded ≡ s.met → k.lets ≡ None → s.met.messages ≡ all_kept k
all_salvaged s k loaded none = ap (λ (m : Met). m.messages) (sym loaded) ∙ kept_unfiltered k none

pub salvage_works : (to : List ℕ) (s : Salvage) (k : Kept) (old new : StoreView) (n dropped : ℕ) → k.loaded ≡ s.met → k.lets ≡ None → dropped ≡ s.dropped
    → (let r : Result ℕ WriteError = Ok n in WritesKept to k old new r)
    → (let told : Recovered = record { messages = n; dropped = dropped } in let r : Result Recovered WriteError = Ok told in DoesWork recovering to s old new r)
salvage_works to s k old new n dropped loaded none is works =
    let kept = all_salvaged s k loaded none in
    let count : n ≡ length s.met.messages = works.count ∙ sym (ap length kept) in
    does recovering to s k old new n _ (sym loaded) kept (λ i. record { messages = count i; dropped = is i }) works

pub salvage_fails : (to : List ℕ) (s : Salvage) (k : Kept) (old new : StoreView) (e : WriteError) → k.loaded ≡ s.met → k.lets ≡ None
    → (let r : Result ℕ WriteError = Err e in WritesKept to k old new r) → (let r : Result Recovered WriteError = Err e in DoesWork recovering to s old new r)
salvage_fails to s k old new e loaded none works = does_not recovering to s k old new e (sym loaded) (all_salvaged s k loaded none) works

all_passing : (f : Filter) (c : Contents) (k : Kept) (l : Lets) → k.loaded ≡ met_in c → k.lets ≡ Some l → l.filter.now ≡ f → passing f (met_in c) ≡ all_kept k
all_passing f c k l loaded some is = ap (passing f) (sym loaded) ∙ kept_filtered k l f some is

pub passing_works : (f : Filter) (to : List ℕ) (c : Contents) (k : Kept) (l : Lets) (old new : StoreView) (n all : ℕ) → k.loaded ≡ met_in c → k.lets ≡ Some l → l.filter.now ≡ f → all ≡ length c.messages
    → (let r : Result ℕ WriteError = Ok n in WritesKept to k old new r)
    → (let told : Parted = record { messages = n; of = all } in let r : Result Parted WriteError = Ok told in DoesWork (splitting f) to c old new r)
passing_works f to c k l old new n all loaded some is counted works =
    let kept = all_passing f c k l loaded some is in
    let count : n ≡ length (passing f (met_in c)) = works.count ∙ sym (ap length kept) in
    does (splitting f) to c k old new n _ (sym loaded) kept (λ i. record { messages = count i; of = counted i }) works

pub passing_fails : (f : Filter) (to : List ℕ) (c : Contents) (k : Kept) (l : Lets) (old new : StoreView) (e : WriteError) → k.loaded ≡ met_in c → k.lets ≡ Some l → l.filter.now ≡ f
    → (let r : Result ℕ WriteError = Err e in WritesKept to k old new r) → (let r : Result Parted WriteError = Err e in DoesWork (splitting f) to c old new r)
passing_fails f to c k l old new e loaded some is works = does_not (splitting f) to c k old new e (sym loaded) (all_passing f c k l loaded some is) works

-- no memory for the table of the filter
pub passing_starved : (f : Filter) (to : List ℕ) (c : Contents) (old new : StoreView) (e : WriteError) → e ≡ write_error.Memory → new ≡ old
    → (let r : Result Parted WriteError = Err e in DoesWork (splitting f) to c old new r)
passing_starved f to c old new e memory same = subst (λ v. let r : Result Parted WriteError = Err e in DoesWork (splitting f) to c old v r) (sym same) record {
  makes = starved (kept_writes to (met_in c) (passing f (met_in c))) old e memory;
  tells = tt;
  unbroken = λ is. (let no : write_error.Memory ≡ write_error.Broken = sym memory ∙ err_is e write_error.Broken is in cc);
  causes = starved_causes old e memory;
}
