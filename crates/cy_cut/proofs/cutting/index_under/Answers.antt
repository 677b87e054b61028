use Rattle.std.proofs.Common.{◌+◌, length, refl, arith}
use Rattle.cy_store.proofs.Pieces.{held_by}
use Rattle.cy_store.proofs.ReadFront.{both_held, may_hold}
use Rattle.cy_cut.specs.declared.heads.KeptIndex.{KeptIndex}
use Rattle.cy_cut.specs.private.Finding.{IsAt}
use Rattle.cy_cut.proofs.Judged.{index_so, placed_so, short_body}
use Rattle.cy_cut.proofs.Outcomes.{no_err}
use Rattle.cy_cut.proofs.Windows.{front_stands}
use Rattle.cy_cut.proofs.cutting.index_under.Goals as goal

pub read_behind-requires-clause-front : goal.read_behind-requires-clause-front
read_behind-requires-clause-front g c =
    held_by (g.S.Store.shows c.args.store.now).files c.args.name.now
    (λ file here. front_stands file c.args.window.now (c.args.at + 16) c.min-held.result c.front-front.result.now here.1 c.front-front.ensures) c.requires.there

pub returns : goal.returns
returns g c =
    let old = g.S.Store.shows c.args.store.now in
    let name = c.args.name.now in
    let at = c.args.at in
    let size = c.args.size in
    let head = c.args.head in
    let inside = c.requires.fits.0.inside in
    let body = c.in_ok-body.body.items in
    let i : KeptIndex = record { at = at; size = head.size; body = c.from_vec.result } in
    record {
      found = both_held old.files name (λ file here read. index_so file at size c.min-held.result head body i here.0 c.requires.index (omega (arith, c.min-held.ensures)) inside read refl refl c.from_vec.ensures)
          (may_hold (IsAt at size head c.args.window.now) old.files name c.requires.there) c.in_ok-body.ensures.read;
      read = held_by old.files name (λ file here. here.1) c.requires.there;
      within = placed_so at size (length c.from_vec.result) c.min-held.result head.size c.requires.fits.1 inside c.min-held.ensures (short_body body c.from_vec.result c.min-held.result c.from_vec.ensures c.in_ok-body.ensures.within);
      same = c.read_behind.ensures.same;
      causes = record {
        faults_stay = c.read_behind.ensures.causes.faults_stay;
        misses_stay = c.read_behind.ensures.causes.misses_stay;
        failed = λ e. absurd (no_err _ _ e);
        quiet = λ _. c.in_ok-body.ensures.causes.quiet (λ e. no_err _ _ e);
      };
    }
