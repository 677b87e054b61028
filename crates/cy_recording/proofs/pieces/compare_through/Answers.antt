use Rattle.std.proofs.Common.{rules, ◌+◌, ◌∙◌, arith, ◌-◌, ℕ, List, refl, length, take, drop, subst}
use Rattle.std.proofs.lemmas.List.{length-drop}
use Rattle.std.proofs.lemmas.Result.{err_from_is_err_and}
use Rattle.cy_recording.specs.private.Pieces.{IsFound, IsStep}
use Rattle.cy_recording.specs.private.Unlike.{Told}
use Rattle.cy_recording.specs.declared.pieces.Part.{Part}
use Rattle.cy_recording.specs.declared.pieces.Part.TheVariants.{Same, Unlike}
use Rattle.cy_recording.proofs.Unlikes.{rest_whole, so_far_start, told_on, told_unlike, told_all}
use Rattle.cy_recording.proofs.Kept.{causes_on, cause_causes, causes_none, counts_on}
use Rattle.cy_recording.proofs.pieces.compare_through.Goals as goal

pub loop-done-init : goal.loop-done-init
loop-done-init g c = record {
  within = omega arith;
  room = c.requires.room;
  files = refl;
  counts = record { faults = refl; misses = refl };
  so_far = λ m file is there. so_far_start c.args.at c.args.text.now file;
}

pub loop-done-smaller : goal.loop-done-smaller
loop-done-smaller g c =
    let some : IsStep _ (Same c.in-Same.n) = subst (IsStep _) c.in-Same.is c.in_ok-n.ensures.some in
    omega (arith, some.0, c.loop-done-test.true)

pub loop-done-preserved : goal.loop-done-preserved
loop-done-preserved g c =
    let at = c.args.at in
    let done = c.loop-done.done in
    let text = c.args.text.now in
    let mid = (g.S.Store.shows c.loop-done.store).files in
    let rest = rest_whole done text in
    let some : IsStep (length (drop done text)) (Same c.in-Same.n) = subst (λ (l : List ℕ). IsStep (length l) (Same c.in-Same.n)) rest (subst (IsStep (length (take (length text - done) (drop done text)))) c.in-Same.is c.in_ok-n.ensures.some) in
    record {
      within = omega (arith, some.1, length-drop done text, c.loop-done-test.true);
      room = search rules;
      files = c.in_ok-n.ensures.same ∙ c.loop-done.invariant.files;
      counts = counts_on _ _ _ c.loop-done.invariant.counts (c.in_ok-n.ensures.cause.quiet (λ e. cc));
      so_far = told_on at done c.in-Same.n text c.args.name.now _ _ c.loop-done.invariant.files c.loop-done.invariant.so_far
          (subst (λ (l : List ℕ). Told mid c.args.name.now (λ file. IsFound (at + done) l (drop (at + done) file) (Same c.in-Same.n))) rest
          (subst (λ (p : Part). Told mid c.args.name.now (λ file. IsFound (at + done) (take (length text - done) (drop done text)) (drop (at + done) file) p)) c.in-Same.is c.in_ok-n.ensures.found));
    }

pub returns-in_err-n : goal.returns-in_err-n
returns-in_err-n g c =
    let p = err_from_is_err_and c.from_residual.result c.from_residual.ensures.1 in
    rw (p.1, p.2) record {
      place = tt;
      same = c.in_err-n.ensures.same ∙ c.loop-done.invariant.files;
      causes = causes_on _ _ _ _ c.loop-done.invariant.files c.loop-done.invariant.counts (λ e. cc) (λ e. cc)
          (cause_causes _ _ _ _ (λ e. e) (λ e. e) c.in_err-n.ensures.cause);
    }

pub returns-in-Unlike : goal.returns-in-Unlike
returns-in-Unlike g c =
    let at = c.args.at in
    let done = c.loop-done.done in
    let text = c.args.text.now in
    let mid = (g.S.Store.shows c.loop-done.store).files in
    let rest = rest_whole done text in
    record {
      place = told_unlike at done c.in-Unlike.place text c.args.name.now _ _ c.loop-done.invariant.files c.loop-done.invariant.so_far
          (subst (λ (l : List ℕ). Told mid c.args.name.now (λ file. IsFound (at + done) l (drop (at + done) file) (Unlike c.in-Unlike.place))) rest
          (subst (λ (p : Part). Told mid c.args.name.now (λ file. IsFound (at + done) (take (length text - done) (drop done text)) (drop (at + done) file) p)) c.in-Unlike.is c.in_ok-n.ensures.found));
      same = c.in_ok-n.ensures.same ∙ c.loop-done.invariant.files;
      causes = causes_none _ _ _ (counts_on _ _ _ c.loop-done.invariant.counts (c.in_ok-n.ensures.cause.quiet (λ e. cc))) (λ e. cc);
    }

pub returns : goal.returns
returns g c = record {
  place = told_all c.args.at c.loop-done.done c.args.text.now c.args.name.now _ (omega (arith, c.loop-done-test.false)) c.loop-done.invariant.so_far;
  same = c.loop-done.invariant.files;
  causes = causes_none _ _ _ c.loop-done.invariant.counts (λ e. cc);
}
