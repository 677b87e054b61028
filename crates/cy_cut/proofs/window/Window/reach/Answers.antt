use Rattle.std.proofs.Common.{◌≤◌, length, ap, refl, arith}
use Rattle.cy_store.proofs.Pieces.{held_by}
use Rattle.cy_cut.specs.private.Window.{rest}
use Rattle.cy_cut.proofs.Outcomes.{no_err}
use Rattle.cy_cut.proofs.Windows.{rest_stands, reached_so}
use Rattle.cy_cut.proofs.window.Window.reach.Goals as goal

pub returns-then-rest-need : goal.returns-then-rest-need
returns-then-rest-need g c =
    let old = g.S.Store.shows c.args.store.now in
    let name = c.args.name.now in
    let w = c.args.self.now in
    let enough : c.args.need ≤ length (rest w c.args.at) = omega (arith, ap length c.rest.ensures, c.if-rest-need.true) in
    record {
      reached = held_by old.files name (λ file read. reached_so file (rest w c.args.at) c.args.at c.args.need (rest_stands file w c.args.at read) enough) c.requires.read;
      read = c.requires.read;
      same = refl;
      causes = record {
        faults_stay = omega arith;
        misses_stay = omega arith;
        failed = λ e. absurd (no_err _ _ e);
        quiet = λ _. record { faults = refl; misses = refl };
      };
    }
