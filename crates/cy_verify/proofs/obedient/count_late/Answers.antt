use Rattle.std.proofs.Common.{ℕ, zero, suc, ◌≡◌, ◌≤◌, ◌∙◌, sym, arith, List, [], ◌∷◌, length, None, slice_get}
use Rattle.cy_trace.specs.declared.trace.TraceCall.{TraceCall}
use Rattle.cy_verify.specs.private.Passes.{late_seqs}
use Rattle.cy_verify.proofs.OneLate.{passed_by, passed_more, passed_all}
use Rattle.cy_verify.proofs.obedient.count_late.Goals as goal

none_there : {X : Type 0} (xs : List X) (n : ℕ) → slice_get xs n ≡ None → length xs ≤ n
none_there [] n e = omega arith
none_there (x ∷ xs) zero e = cc
none_there (x ∷ xs) (suc n) e = omega (arith, none_there xs n e)

pub loop-place-init : goal.loop-place-init
loop-place-init c = record { few = omega arith; so_far = omega arith }

pub unreachable-requires : goal.unreachable-requires
unreachable-requires c = omega (arith, none_there c.args.told.now c.loop-place.place (sym c.get.ensures ∙ c.in_default.is), c.loop-place-test.true, c.count-place-end.ensures)

pub loop-place-preserved-then-not-has_late : goal.loop-place-preserved-then-not-has_late
loop-place-preserved-then-not-has_late c =
    passed_by (λ (x : TraceCall). late_seqs 0 x.seqs c.args.before) c.args.told.now c.loop-place.place c.loop-place.late c.in-Some.call c.loop-place.invariant (sym c.get.ensures ∙ c.in-Some.is) (sym c.has_late.ensures ∙ c.if-not-has_late.true)

pub loop-place-preserved : goal.loop-place-preserved
loop-place-preserved c =
    passed_more (λ (x : TraceCall). late_seqs 0 x.seqs c.args.before) c.args.told.now c.loop-place.place c.loop-place.late c.in-Some.call c.loop-place.invariant (sym c.get.ensures ∙ c.in-Some.is) (sym c.has_late.ensures ∙ c.if-not-has_late.false)

pub returns : goal.returns
returns c =
    passed_all (λ (x : TraceCall). late_seqs 0 x.seqs c.args.before) c.args.told.now c.loop-place.place c.loop-place.late c.loop-place.invariant (omega (arith, c.loop-place-test.false, c.loop-place.auto.place-end, c.count-place-end.ensures))
