use Rattle.std.proofs.Common.{◌≤◌, ℕ, List, refl, subst, sym, arith}
use Rattle.cy_store.proofs.Pieces.{held_by}
use Rattle.cy_cut.specs.declared.window.Window.{Window}
use Rattle.cy_cut.specs.private.Window.{IsFrontAt}
use Rattle.cy_cut.proofs.Outcomes.{no_err}
use Rattle.cy_cut.proofs.Windows.{rest_stands, read_reached, read_front}
use Rattle.cy_cut.proofs.window.Window.read_ahead.Goals as goal

pub read_behind-requires-clause-front : goal.read_behind-requires-clause-front
read_behind-requires-clause-front g c =
    held_by (g.S.Store.shows c.args.store.now).files c.args.name.now (λ file read. subst (λ (l : List ℕ). IsFrontAt c.args.at l file) (sym c.rest.ensures) (rest_stands file c.args.self.now c.args.at read)) c.requires.read

pub returns : goal.returns
returns g c =
    let old = g.S.Store.shows c.args.store.now in
    let name = c.args.name.now in
    let ask = c.min-ask.result in
    let w : Window = record { at = c.args.at; bytes = c.in_ok-bytes.bytes; ahead = c.min-self.result } in
    let enough : c.args.need ≤ ask = omega (arith, c.min-ask.ensures, c.max.ensures, c.requires.inside.0) in
    record {
      reached = held_by old.files name (λ file read. read_reached file w c.args.at ask c.args.need refl enough read) c.in_ok-bytes.ensures.read;
      read = held_by old.files name (λ file read. read_front file w.bytes.items c.args.at ask read) c.in_ok-bytes.ensures.read;
      same = c.read_behind.ensures.same;
      causes = record {
        faults_stay = c.read_behind.ensures.causes.faults_stay;
        misses_stay = c.read_behind.ensures.causes.misses_stay;
        failed = λ e. absurd (no_err _ _ e);
        quiet = λ _. c.in_ok-bytes.ensures.causes.quiet (λ e. no_err _ _ e);
      };
    }
