-- How `check` ends, at each place where it may.
use Rattle.std.proofs.Common.{ℕ, ◌≡◌, List, [], Option, Some, None, IfSome, Result, Ok, Err, refl, ap, arith}
use Rattle.cy_store.specs.Files.{Files}
use Rattle.cy_store.specs.Reads.{Reads, Accepts, ◌>>=◌}
use Rattle.cy_store.specs.Store.{StoreView}
use Rattle.cy_comp.specs.declared.wiring.Wiring.{Wiring}
use Rattle.cy_setup.specs.declared.configuration.Configuration.{Configuration}
use Rattle.cy_setup.specs.declared.error.Refusal.{Refusal}
use Rattle.cy_setup.specs.declared.error.SetupError.{SetupError}
use Rattle.cy_setup.specs.Comes.{ComesTo}
use Rattle.cy_setup.specs.Configuration.{Configured, IsAsked, configuration_in}
use Rattle.cy_setup.specs.Steps.{configured}
use Rattle.cy_setup.specs.Wiring.{wiring_in, IsWiredBy}
use Rattle.cy_setup.proofs.Coming.{comes_err, comes_ok, comes_then}
use Rattle.cy_commands.specs.declared.status.Status.{Status}
use Rattle.cy_commands.specs.declared.status.Status.TheVariants.{Done}
use Rattle.cy_args.specs.CheckWords.{CheckWords}
use Rattle.cy_args.specs.Command.{Check}
use Rattle.cy_commands.specs.Commands.CheckWork.{IsCheckWork, checked_in}
use Rattle.cy_commands.specs.private.CheckEnds.{IsTextOf}
use Rattle.cy_commands.specs.private.Unset.{IsDueUnset}
use Rattle.cy_commands.specs.Due.{IsDueFor}
use Rattle.cy_commands.proofs.Refusing as refusing

-- the names that are asked for
abbrev pub Asked : CheckWords → StoreView → List ℕ → Type 0
Asked w old = IsAsked w.dag w.sched old.files

-- what follows the files
abbrev pub wire_next : CheckWords → Configured → Files → Reads Refusal Configured
wire_next w c m = wiring_in w.dag [] c >>= λ wired. Accepts c

pub files_stop : (w : CheckWords) (old new : StoreView) (e : SetupError) → (let r : Result Configuration SetupError = Err e in ComesTo configured (configuration_in w.dag w.sched) (Asked w old) old new r)
    → (let r : Result Configuration SetupError = Err e in ComesTo configured (checked_in w) (Asked w old) old new r)
files_stop w old new e came = comes_err configured (configuration_in w.dag w.sched) (wire_next w) (Asked w old) old new e (λ file asked. asked) came

always : {P : Files → Type 0} (files : Option Files) → ((m : Files) → P m) → IfSome files P
always None h = tt
always (Some m) h = h m

wiring_stops : (w : CheckWords) (c : Configured) (P : List ℕ → Type 0) (view : StoreView) (e : SetupError) → (let r : Result Wiring SetupError = Err e in IsWiredBy (wiring_in w.dag [] c) r)
    → (let r : Result Configuration SetupError = Err e in ComesTo configured (wire_next w c) P view view r)
wiring_stops w c P view e wired = record {
  accepted = tt;
  refused = λ refusal is. (record { faults = refl; misses = refl }, always view.files (λ m. ap (λ q. q >>= λ wired. Accepts c) (wired.refused refusal (ap Err (err_is is)))));
  failed = λ file is. absurd (wired.unread file (ap Err (err_is is)));
  same = refl;
  faults_stay = omega arith;
  misses_stay = omega arith;
}
  where
    err_is : {T : Type 0} {a b : SetupError} → (let r : Result T SetupError = Err a in r ≡ Err b) → a ≡ b
    err_is e = cc

pub not_wired : (w : CheckWords) (says : Configuration) (old new : StoreView) (e : SetupError) → ComesTo configured (configuration_in w.dag w.sched) (Asked w old) old new (Ok says)
    → (let r : Result Wiring SetupError = Err e in IsWiredBy (wiring_in w.dag [] (configured says)) r) → (let r : Result Configuration SetupError = Err e in ComesTo configured (checked_in w) (Asked w old) old new r)
not_wired w says old new e came wired =
    comes_then configured (configuration_in w.dag w.sched) (wire_next w) (Asked w old) (Asked w old) old new new (configured says) (Err e) record { same = came.same; counts = came.accepted.0 } came.accepted.1 (λ file asked. asked)
    (wiring_stops w (configured says) (Asked w old) new e wired)

pub all_read : (w : CheckWords) (says : Configuration) (wiring : Wiring) (old new : StoreView) → ComesTo configured (configuration_in w.dag w.sched) (Asked w old) old new (Ok says)
    → (let r : Result Wiring SetupError = Ok wiring in IsWiredBy (wiring_in w.dag [] (configured says)) r) → ComesTo configured (checked_in w) (Asked w old) old new (Ok says)
all_read w says wiring old new came wired =
    comes_then configured (configuration_in w.dag w.sched) (wire_next w) (Asked w old) (Asked w old) old new new (configured says) (Ok says) record { same = came.same; counts = came.accepted.0 } came.accepted.1 (λ file asked. asked)
    (comes_ok configured (wire_next w (configured says)) (Asked w old) new new says record { same = refl; counts = record { faults = refl; misses = refl } } (always new.files (λ m. ap (λ q. q >>= λ wired. Accepts (configured says)) wired.accepted)))

-- the files are not accepted
pub unset : (w : CheckWords) (old new : StoreView) (e : SetupError) (due : Status) (line : List ℕ) → (let r : Result Configuration SetupError = Err e in ComesTo configured (checked_in w) (Asked w old) old new r) → IsDueUnset e due line
    → IsDueFor (Check w) old new due line
unset w old new e due line came told =
    refusing.unset (Check w) configured (checked_in w) (Asked w old) old new e due line record { asked = λ file a. a; refused = λ due line r. r; absent = λ file h. h } came told

-- the text is told
pub done : (w : CheckWords) (says : Configuration) (old new : StoreView) (text : List ℕ) → ComesTo configured (checked_in w) (Asked w old) old new (Ok says) → IsTextOf w (configured says) text → IsDueFor (Check w) old new Done text
done w says old new text came is =
    refusing.told (Check w) configured (checked_in w) (IsCheckWork w) (Asked w old) old new says text (λ work a. a) came (record { contexts = is.contexts; placed = is.placed; silent = refl; text = is.is })
