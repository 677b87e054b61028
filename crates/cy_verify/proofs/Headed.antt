-- What a trace tells of components, and the trace of a run.
use Rattle.std.proofs.Common.{ℕ, zero, suc, ◌+◌, ◌≡◌, refl, sym, ◌∙◌, ap, subst, List, [], ◌∷◌, length, Some, slice_get}
use Rattle.cy_comp.specs.declared.plan.Plan.{Plan}
use Rattle.wake_core.specs.Run.{Run, routes_of, played_of}
use Rattle.cy_trace.specs.TraceOfRun.{trace_components, trace_of_run}
use Rattle.cy_trace.specs.declared.trace.Trace.{Trace}
use Rattle.cy_trace.specs.declared.trace.TraceComponent.{TraceComponent}
use Rattle.cy_verify.specs.private.Passes.{IsNamed, AreNamed, IsHeaded}

some_is : {X : Type 0} {a b : X} → Some a ≡ Some b → a ≡ b
some_is e = cc

many_told : (w : Run) (first : ℕ) (plans : List Plan) → length (trace_components w first plans) ≡ length plans
many_told w first [] = refl
many_told w first (p ∷ plans) = ap suc (many_told w (first + 1) plans)

each_named : (w : Run) (first : ℕ) (plans : List Plan) (c : ℕ) (p : Plan) (t : TraceComponent) → slice_get plans c ≡ Some p → slice_get (trace_components w first plans) c ≡ Some t → IsNamed p t
each_named w first [] c p t at on = cc
each_named w first (q ∷ plans) zero p t at on =
    let told = sym (some_is on) in
    let plan = some_is at in
    record { name = ap (λ (u : TraceComponent). u.name) told ∙ ap (λ (r : Plan). r.name) plan; overflow = ap (λ (u : TraceComponent). u.overflow) told ∙ ap (λ (r : Plan). r.overflow) plan }
each_named w first (q ∷ plans) (suc c) p t at on = each_named w (first + 1) plans c p t at on

-- The trace of a run tells of its components, in the version that is due.
pub trace_headed : (names : List (List ℕ)) (plans : List Plan) (plays shadows : ℕ) (w : Run) (trace : Trace) → trace ≡ trace_of_run names plans shadows w → length (played_of (routes_of plans) w.tape) ≡ plays → IsHeaded plans plays shadows trace
trace_headed names plans plays shadows w trace is played = record {
  version = ap (λ (t : Trace). t.version) is;
  played = ap (λ (t : Trace). t.played) is ∙ played;
  shadowed = ap (λ (t : Trace). t.shadowed) is;
  components = subst (AreNamed plans) (sym (ap (λ (t : Trace). t.components) is)) (record { many = many_told w 0 plans; each = each_named w 0 plans });
}
