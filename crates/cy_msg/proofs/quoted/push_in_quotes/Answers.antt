use Rattle.std.proofs.Common.{rules}
use Rattle.cy_msg.specs.Quoted.{escaped}
use Rattle.cy_msg.proofs.Quoting.{quoted_more}
use Rattle.cy_msg.proofs.quoted.push_in_quotes.Goals as goal

pub loop-byte-preserved : goal.loop-byte-preserved
loop-byte-preserved c =
    quoted_more (escaped c.args.is_text) c.args.bytes.now c.loop-byte.byte-index _ 34 c.args.to.now.items c.loop-byte.to.items c.push_escaped.new.to.items
    c.loop-byte-test.true (search rules) c.loop-byte.invariant c.in_ok-push_escaped.ensures.ok
