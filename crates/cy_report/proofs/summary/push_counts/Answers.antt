use Rattle.cy_report.proofs.SummaryLine.{counts_line-parts}
use Rattle.cy_report.proofs.summary.push_counts.Goals as goal

pub returns : goal.returns
returns c =
    rw (
      c.in_ok-write_all.ensures.bytes,
      c.in_ok-push_count-4.ensures,
      c.in_ok-push_count-3.ensures,
      c.in_ok-push_count-2.ensures,
      c.in_ok-push_count.ensures,
      c.from.ensures,
      c.from-2.ensures,
      c.from-3.ensures,
    )
    (counts_line-parts c.args.to.now.items c.args.front.now c.args.played c.args.shadowed c.args.calls c.args.written)
