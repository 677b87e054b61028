use Rattle.std.proofs.Common.{inr}
use Rattle.cy_reader.proofs.Refusals.{too_large}
use Rattle.cy_cut.proofs.Outcomes.{no_err}
use Rattle.cy_reader.proofs.record.file_bytes.Goals as goal

pub returns-in-Longer : goal.returns-in-Longer
returns-in-Longer g c =
    let read = rw c.in-Longer.is at c.in_ok-bytes.ensures.read in
    let within = rw c.in-Longer.is at c.in_ok-bytes.ensures.within in
    let causes = c.read_file.ensures.causes in
    record {
      whole = tt;
      refused = inr (inr (too_large (g.S.Store.shows c.args.store.now).files c.args.name.now c.in-Longer.size within read));
      same = c.read_file.ensures.same;
      causes = record {
        faults_stay = causes.faults_stay;
        misses_stay = causes.misses_stay;
        failed = λ e. absurd cc;
        quiet = λ _. c.in_ok-bytes.ensures.causes.quiet (λ e. no_err _ _ e);
      };
    }
