-- No test refuses the component that passes messages on.
use Rattle.std.proofs.Common.{ℕ, zero, suc, ◌≡◌, ◌≤◌, ◌==◌, false, List, [], ◌∷◌, length, slice_get, Some, None, refl, sym, ap, ◌∙◌, arith}
use Rattle.std.proofs.lemmas.Bool.Decides.{nat_tests}
use Rattle.std.proofs.lemmas.Option.{same_Some, none-some}
use Rattle.cy_dag.specs.DagFile.{components_refusal, HaveQueues, HaveTicks}
use Rattle.cy_wiring.specs.Wiring.{AreConfigs}
use Rattle.cy_dag.specs.declared.dag.DagComponent.{DagComponent}
use Rattle.cy_dag.specs.declared.dag.DagReader.{DagReader}
use Rattle.cy_setup.specs.Passing.{pass_component, pass_config}

pub tested : (from : List ℕ) → 1 ≤ length from → components_refusal (pass_component from ∷ []) ≡ None
tested from some = rw (not_empty (length from) some) refl
  where
    not_empty : (n : ℕ) → 1 ≤ n → (n == 0) ≡ false
    not_empty n some = grind (arith, nat_tests)

-- what stands in a list of one
only_one : {X : Type 0} (x y : X) (i : ℕ) → slice_get (x ∷ []) i ≡ Some y → y ≡ x
only_one x y zero e = sym (same_Some x y e)
only_one x y (suc i) e = absurd (none-some y e)

pub queues : (from : List ℕ) → HaveQueues (pass_component from ∷ [])
queues from i c at j r reads =
    let is : c ≡ pass_component from = only_one (pass_component from) c i at in
    let reader : DagReader = record { channel = from; queue = 1 } in
    let same : r ≡ reader = only_one reader r j (sym (ap (λ (d : DagComponent). slice_get d.readers j) is) ∙ reads) in
    let one : r.queue ≡ 1 = ap (λ (x : DagReader). x.queue) same in
    omega (arith, one)

pub ticks : (from : List ℕ) → HaveTicks (pass_component from ∷ [])
ticks from i interval c at given =
    let is : c ≡ pass_component from = only_one (pass_component from) c i at in
    absurd (none-some interval (sym (ap (λ (d : DagComponent). d.interval) is) ∙ given))

pub fit : (from to message_type : List ℕ) → AreConfigs (pass_component from ∷ []) (pass_config to message_type ∷ [])
fit from to message_type = record {
  each = refl;
  fit = λ i c config at file. rw (only_one (pass_component from) c i at, only_one (pass_config to message_type) config i file) (refl, refl);
}
