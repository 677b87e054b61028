-- The text of a trace that was read, or why it wasn't.
use Rattle.std.proofs.Common.{ℕ, ◌≡◌, ◌≤◌, ◌<◌, List, length, Some, Result, Ok, Err, refl, ap, ◌∙◌, arith, lt-ltb, Vec, Global}
use Rattle.std.specs.Prelude.{◌⊎◌}
use Rattle.std.proofs.lemmas.Bool.{le-ltb}
use Rattle.cy_store.specs.Files.{Holds}
use Rattle.cy_store.specs.Reads.{Refuses, judged}
use Rattle.cy_store.specs.Store.{StoreView}
use Rattle.cy_setup.specs.declared.error.Fault.{Fault}
use Rattle.cy_setup.specs.declared.error.Fault.TheVariants as fault
use Rattle.cy_setup.specs.declared.error.SetupError.{SetupError}
use Rattle.cy_setup.specs.declared.error.SetupError.TheVariants.{Refused, Memory}
use Rattle.cy_setup.specs.Comes.{ComesTo}
use Rattle.cy_setup.specs.TraceFile.{longest_trace, trace_by, trace_in}
use Rattle.cy_setup.proofs.Coming.{Stands, comes_fault, comes_ok}
use Rattle.cy_setup.proofs.Texts.{held_is_told}

long_trace : (name bytes : List ℕ) (size : ℕ) → 1073741824 < size → size ≡ length bytes → trace_by name bytes ≡ Err record { file = name; fault = fault.TraceTooLarge size }
long_trace name bytes size long is = rw (lt-ltb longest_trace (length bytes) (omega (arith, long, is)), is) refl

short_trace : (name bytes text : List ℕ) → length text ≤ 1073741824 → bytes ≡ text → trace_by name bytes ≡ Ok text
short_trace name bytes text short is = rw (is, le-ltb longest_trace (length text) short) refl

-- a text that is not too long
pub short_read : (name : List ℕ) (text : Vec ℕ Global) (old new : StoreView) → length text.items ≤ 1073741824 → Holds old.files name (λ file. file ≡ text.items) → Stands old new
    → ComesTo (λ (t : Vec ℕ Global). t.items) (trace_in name) (λ file. file ≡ name) old new (Ok text)
short_read name text old new short held stands =
    comes_ok (λ (t : Vec ℕ Global). t.items) (trace_in name) (λ file. file ≡ name) old new text stands
    (held_is_told name (trace_by name) old.files (λ bytes b. ap judged (short_trace name bytes text.items short b)) held)

-- and one that is
pub long_read : (name : List ℕ) (size : ℕ) (old new : StoreView) (answer : SetupError) → 1073741824 < size → Holds old.files name (λ file. size ≡ length file) → Stands old new
    → (answer ≡ Memory) ⊎ (answer ≡ Refused record { file = name; fault = fault.TraceTooLarge size })
    → (let r : Result (Vec ℕ Global) SetupError = Err answer in ComesTo (λ (t : Vec ℕ Global). t.items) (trace_in name) (λ file. file ≡ name) old new r)
long_read name size old new answer long held stands is =
    comes_fault (λ (t : Vec ℕ Global). t.items) (trace_in name) (λ file. file ≡ name) old new name (Some (fault.TraceTooLarge size)) answer stands is
    (λ f e. let same : fault.TraceTooLarge size ≡ f = cc in held_is_told name (trace_by name) old.files
    (λ bytes b. ap judged (long_trace name bytes size long b) ∙ ap (λ (g : Fault). Refuses record { file = name; fault = g }) same) held)
