use Rattle.std.proofs.Common.{refl, sym}
use Rattle.cy_trace.proofs.KeptApart.{calls_added, calls_none}
use Rattle.cy_trace.proofs.calls.Calls.is_added.Goals as goal

pub returns-in-Some-clause-added : goal.returns-in-Some-clause-added
returns-in-Some-clause-added c = λ done.
    let inside = c.self.inside in
    calls_added inside.numbers.items c.kept_of.new.numbers.items inside.kept.items c.is_added.new.items.items c.in-Some.kept c.args.call.now c.args.self.now (sym c.self.view_is) c.kept_of.ensures.begins c.self.invariant
    c.in-Some.ensures.kept (c.is_added.ensures.added done)

pub returns-in-Some-clause-same : goal.returns-in-Some-clause-same
returns-in-Some-clause-same c = λ failed.
    let inside = c.self.inside in
    calls_none inside.numbers.items c.kept_of.new.numbers.items inside.kept.items c.is_added.new.items.items c.args.self.now (sym c.self.view_is) c.kept_of.ensures.begins c.self.invariant (c.is_added.ensures.kept failed)

pub returns-in-None-clause-same : goal.returns-in-None-clause-same
returns-in-None-clause-same c = λ _.
    let inside = c.self.inside in
    calls_none inside.numbers.items c.kept_of.new.numbers.items inside.kept.items inside.kept.items c.args.self.now (sym c.self.view_is) c.kept_of.ensures.begins c.self.invariant refl
