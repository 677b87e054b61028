use Rattle.std.proofs.Common.{◌+◌, ◌<◌, length, sym, ◌∙◌, arith}
use Rattle.std.proofs.lemmas.Bool.{eqb-true, eqb-false}
use Rattle.std.proofs.lemmas.Option.{same_Some}
use Rattle.cy_trace_read.proofs.Prefixes.{no_newline, not_next, stepped, finishes_as, finished, ends_early, bad_at, failed, refused}
use Rattle.cy_trace_read.proofs.Order.{lines_so_far}
use Rattle.cy_trace_read.proofs.Taking.{has_room, read_further}
use Rattle.cy_trace_read.proofs.read.read_trace.Goals as goal
use Rattle.cy_trace.specs.declared.error.TraceError.TheVariants as trace_error

pub returns-in_default : goal.returns-in_default
returns-in_default c =
    let l = c.loop-rest in
    let some : 0 < length l.rest.now = omega (arith, eqb-false (length l.rest.now) 0 (sym c.loop-rest-test.ensures)) in
    refused c.args.bytes.now (trace_error.Bad l.line)
    (bad_at c.args.bytes.now l.line (length (lines_so_far l.building)) l.invariant.count
    (no_newline c.args.bytes.now l.rest.now l.building l.line l.invariant some c.in_default.ensures.parts))

pub next-requires : goal.next-requires
next-requires c = has_room c.args.bytes.now c.loop-rest.rest.now c.loop-rest.building c.loop-rest.line c.loop-rest.invariant c.requires

pub returns-in-Err : goal.returns-in-Err
returns-in-Err c =
    let l = c.loop-rest in
    refused c.args.bytes.now c.error_at.result
    (failed c.args.bytes.now l.line (length (lines_so_far l.building)) c.in-Err.fault c.error_at.result _ c.error_at.ensures c.in-Err.ensures l.invariant.count
    (not_next c.args.bytes.now l.rest.now l.building l.line l.invariant c.in-Some.text.now c.in-Some.more.now c.in-Some.ensures.parts))

pub loop-rest-preserved : goal.loop-rest-preserved
loop-rest-preserved c =
    let l = c.loop-rest in
    let at = stepped c.args.bytes.now l.rest.now l.building l.line l.invariant c.in-Some.text.now c.in-Some.more.now c.in-Ok.next c.in-Some.ensures.parts c.in-Ok.ensures in
    let read = c.read_on-read.result in
    read_further c.args.bytes.now c.in-Some.more.now read.rest.now c.in-Ok.next read.building (l.line + 1) read.line at c.read_on-read.ensures

pub returns-in-Some-finish : goal.returns-in-Some-finish
returns-in-Some-finish c =
    let l = c.loop-rest in
    let ends = eqb-true (length l.rest.now) 0 (sym c.loop-rest-test.ensures) in
    record {
      text = finished c.args.bytes.now l.rest.now l.building l.line l.invariant ends c.in-Some-finish.trace (sym c.in-Some-finish.ensures);
      bad = tt;
      back = λ t fits is.
          same_Some c.in-Some-finish.trace t (c.in-Some-finish.ensures ∙ finishes_as c.args.bytes.now l.rest.now l.building l.line l.invariant ends t fits is);
      memory = λ t fits is. tt;
    }

pub returns-in-None : goal.returns-in-None
returns-in-None c =
    let l = c.loop-rest in
    let ends = eqb-true (length l.rest.now) 0 (sym c.loop-rest-test.ensures) in
    refused c.args.bytes.now (trace_error.Bad l.line)
    (bad_at c.args.bytes.now l.line (length (lines_so_far l.building)) l.invariant.count
    (ends_early c.args.bytes.now l.rest.now l.building l.line l.invariant ends (sym c.in-None.ensures)))
