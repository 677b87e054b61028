use Rattle.std.proofs.Common.{◌≡◌, ◌<◌, ◌∙◌, length, refl, sym, subst, arith, Option}
use Rattle.cy_store.specs.Files.{Files, Holds}
use Rattle.cy_store.proofs.Pieces.{held_by}
use Rattle.cy_store.proofs.ReadFront.{both_held, may_hold}
use Rattle.cy_cut.specs.private.Finding.{IsAt}
use Rattle.cy_cut.specs.private.Window.{IsRead}
use Rattle.cy_cut.proofs.Ahead.{end_found}
use Rattle.cy_cut.proofs.Judged.{judged_headed, judged_faulty}
use Rattle.cy_cut.proofs.Outcomes.{no_err}
use Rattle.cy_cut.proofs.cutting.found_at.Goals as goal

pub returns-then-at-size : goal.returns-then-at-size
returns-then-at-size g c =
    let files = (g.S.Store.shows c.args.store.now).files in
    let e : c.args.at ≡ c.args.size = omega (arith, c.if-at-size.true) in
    record {
      found = held_by files c.args.name.now (λ file here. end_found file c.args.at c.args.size here.0 e) c.requires.there;
      read = held_by files c.args.name.now (λ file here. here.1) c.requires.there;
      within = tt;
      same = refl;
      causes = record {
        faults_stay = omega arith;
        misses_stay = omega arith;
        failed = λ e. absurd (no_err _ _ e);
        quiet = λ _. record { faults = refl; misses = refl };
      };
    }

pub found_under-requires-clause-there : goal.found_under-requires-clause-there
found_under-requires-clause-there g c =
    let old = g.S.Store.shows c.args.store.now in
    let name = c.args.name.now in
    let at = c.args.at in
    let size = c.args.size in
    let head = c.in-Ok.head in
    let bytes = c.front.result.now in
    let window = c.reach.new.self in
    let told = may_hold (λ file. (size ≡ length file) × IsRead file c.args.window.now) old.files name c.requires.there in
    let hd = both_held old.files name (λ file here read. judged_headed file at size c.min-long.result bytes head here.0 c.requires.inside.0 c.min-long.ensures (c.front.ensures ∙ read) (sym c.in-Ok.ensures.head)) told c.in_ok-reach.ensures.reached in
    subst (λ (files : Option Files). Holds files name (IsAt at size head window)) (sym c.reach.ensures.same)
    (both_held old.files name (λ file here read. (here, read)) (may_hold _ old.files name hd) c.in_ok-reach.ensures.read)

pub returns-in-Err : goal.returns-in-Err
returns-in-Err g c =
    let old = g.S.Store.shows c.args.store.now in
    let name = c.args.name.now in
    let at = c.args.at in
    let size = c.args.size in
    let bytes = c.front.result.now in
    let before : at < size = omega (arith, c.requires.inside.0, c.if-at-size.false) in
    let causes = c.reach.ensures.causes in
    record {
      found = both_held old.files name (λ file here read. judged_faulty file at size c.min-long.result bytes c.in-Err.fault here.0 before c.min-long.ensures (c.front.ensures ∙ read) (sym c.in-Err.ensures.head))
          (may_hold (λ file. (size ≡ length file) × IsRead file c.args.window.now) old.files name c.requires.there) c.in_ok-reach.ensures.reached;
      read = c.in_ok-reach.ensures.read;
      within = tt;
      same = c.reach.ensures.same;
      causes = record {
        faults_stay = causes.faults_stay;
        misses_stay = causes.misses_stay;
        failed = λ e. absurd (no_err _ _ e);
        quiet = λ _. c.in_ok-reach.ensures.causes.quiet (λ e. no_err _ _ e);
      };
    }
