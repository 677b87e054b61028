use Rattle.std.proofs.Common.{inr}
use Rattle.cy_reader.proofs.Refusals.{too_large}
use Rattle.cy_cut.proofs.Outcomes.{no_err}
use Rattle.cy_reader.proofs.FrontRead.{front_answered}
use Rattle.cy_reader.proofs.front.front_of.Goals as goal

pub returns-then-size-gt-LONGEST_FILE : goal.returns-then-size-gt-LONGEST_FILE
returns-then-size-gt-LONGEST_FILE g c =
    let cause = c.size.ensures.cause in
    record {
      front = tt;
      sized = tt;
      refused = inr (inr (too_large (g.S.Store.shows c.args.store.now).files c.args.name.now c.in_ok-size.size c.if-size-gt-LONGEST_FILE.true c.in_ok-size.ensures.value));
      same = c.size.ensures.same;
      causes = record {
        faults_stay = cause.faults_stay;
        misses_stay = cause.misses_stay;
        failed = λ e. absurd cc;
        quiet = λ _. c.in_ok-size.ensures.cause.quiet (λ e. no_err _ _ e);
      };
    }

pub returns : goal.returns
returns g c =
    front_answered (g.S.Store.shows c.args.store.now) (g.S.Store.shows c.size.new.self) (g.S.Store.shows c.read_range.new.store) c.args.name.now c.in_ok-size.size c.min-long.result
    c.in_ok-bytes.bytes.items c.as_slice.result.now c.front_in.result c.in_ok-size.ensures.value c.if-size-gt-LONGEST_FILE.false c.min-long.ensures c.as_slice.ensures.value c.in_ok-bytes.ensures.read c.in_ok-bytes.ensures.within
    c.size.ensures.same c.read_range.ensures.same (c.in_ok-size.ensures.cause.quiet (λ e. no_err _ _ e)) (c.in_ok-bytes.ensures.causes.quiet (λ e. no_err _ _ e))
    c.front_in.ensures.header c.front_in.ensures.front c.front_in.ensures.not_store
