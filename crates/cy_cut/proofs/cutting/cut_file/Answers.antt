use Rattle.std.proofs.Common.{◌+◌, refl, ◌∙◌, arith}
use Rattle.cy_cut.proofs.CutTo.{nothing_cut, part_more, cut_end, index_within}
use Rattle.cy_cut.proofs.Outcomes.{same_counts, no_err}
use Rattle.cy_cut.proofs.cutting.cut_file.Goals as goal

pub loop-window-init : goal.loop-window-init
loop-window-init g c =
    rw c.new-parts.ensures.items
    (nothing_cut c.args.name.now c.args.size c.args.first.now c.in_ok-heads.heads.items c.new-window.result (g.S.Store.shows c.args.store.now) c.requires.inside.0 c.requires.there (c.in_ok-heads.ensures.items_if_clones_equal (λ x y e. e)) c.new-window.ensures)

pub loop-window-preserved : goal.loop-window-preserved
loop-window-preserved g c =
    let found = rw c.in-Section.is at c.in_ok-head.ensures.found in
    let within = rw c.in-Section.is at c.in_ok-head.ensures.within in
    part_more c.args.name.now c.args.size c.loop-window.at (c.loop-window.at + (16 + c.in-Section.head.size)) c.args.first.now c.loop-window.heads.items c.keep.new.heads.items c.loop-window.parts.items c.keep.new.parts.items
    c.in-Section.head c.in-Section.part c.loop-window.window c.found_at.new.window (g.S.Store.shows c.args.store.now) (g.S.Store.shows c.loop-window.store) (g.S.Store.shows c.found_at.new.store) c.requires.inside.1 c.loop-window.invariant found within
    c.in_ok-head.ensures.read c.found_at.ensures.same (c.in_ok-head.ensures.causes.quiet (λ e. no_err _ _ e)) refl c.in_ok-keep-in-Section.ensures.heads c.in_ok-keep-in-Section.ensures.parts

pub returns-in-Last : goal.returns-in-Last
returns-in-Last g c =
    let old = g.S.Store.shows c.args.store.now in
    let mid = g.S.Store.shows c.loop-window.store in
    let now = g.S.Store.shows c.found_at.new.store in
    let so_far = c.loop-window.invariant in
    let found = rw c.in-Last.is at c.in_ok-head.ensures.found in
    let within = rw c.in-Last.is at c.in_ok-head.ensures.within in
    let all = same_counts old mid now so_far.counts (c.in_ok-head.ensures.causes.quiet (λ e. no_err _ _ e)) in
    record {
      cut = cut_end c.args.name.now c.args.size c.loop-window.at c.args.first.now _ c.loop-window.window c.in-Last.end old mid refl refl so_far found;
      within = record { parts = so_far.within; all = omega (arith, so_far.all, so_far.inside, c.requires.inside.1); index = index_within c.loop-window.at c.args.size c.in-Last.end within };
      same = c.found_at.ensures.same ∙ so_far.same;
      causes = record {
        faults_stay = omega (arith, all.faults);
        misses_stay = omega (arith, all.misses);
        failed = λ e. absurd (no_err _ _ e);
        quiet = λ _. all;
      };
    }
