use Rattle.std.proofs.Common.{◌≡◌, rules, arith, length, sym}
use Rattle.cy_trace.proofs.TapeLaws.{told_with, last_told}
use Rattle.cy_trace.proofs.tape.Tape.with.Goals as goal

pub returns : goal.returns
returns c =
    let inside = c.self.inside in
    let number : c.len-number.result ≡ length inside.names.items = omega (arith, c.len-number.ensures) in
    sym
    (told_with inside.names.items _ inside.messages.items _ c.in_ok-name_of.field-0 _ c.args.entry c.args.self (sym c.self.view_is) c.self.invariant.each c.in_ok-push.ensures.items c.in_ok-push-2.ensures.items (search (rules, last_told, number, c.in_ok-name_of.ensures)))
