use Rattle.std.proofs.Common.{rules, ◌∙◌, ap, List}
use Rattle.cy_trace_text.specs.Parts.{ArePartsOf, parts_text}
use Rattle.cy_trace_text.specs.TraceText.{trace_text}
use Rattle.cy_trace_text.specs.declared.parts.Part.{Part}
use Rattle.wake_core.specs.Rest.{run_shown}
use Rattle.wake_core.specs.WorldOf.{plain_of}
use Rattle.cy_writer.proofs.Puts.{created}
use Rattle.cy_commands.proofs.PiecesPut.{created_first, uncreated, unmade}
use Rattle.cy_commands.proofs.trace_file.write_trace.Goals as goal

pub returns-in_err-parts : goal.returns-in_err-parts
returns-in_err-parts g c =
    let text = trace_text c.args.wiring.now.names c.args.wiring.now.plans c.args.shadowed (run_shown (plain_of c.args.world.now)) in
    unmade c.args.name.now text (g.S.Store.shows c.args.store.now) c.from_residual.result (search rules) (λ e. search rules) (λ e. search rules)

pub returns-in_err-create : goal.returns-in_err-create
returns-in_err-create g c =
    let text = trace_text c.args.wiring.now.names c.args.wiring.now.plans c.args.shadowed (run_shown (plain_of c.args.world.now)) in
    uncreated c.args.name.now text (g.S.Store.shows c.args.store.now) (g.S.Store.shows c.create.new.self) c.create.result c.from_residual-in_err-create.result c.in_err-create.ensures.err c.create.ensures.cause
    (search rules) (λ e. search rules) (λ e. search rules) (λ e. search rules)

pub returns : goal.returns
returns g c =
    let run = run_shown (plain_of c.args.world.now) in
    let names = c.args.wiring.now.names in
    let plans = c.args.wiring.now.plans in
    let text = trace_text names plans c.args.shadowed run in
    let are : ArePartsOf names plans run c.in_ok-parts.parts = search rules in
    created_first c.args.name.now (parts_text names plans c.args.shadowed run c.as_slice.result.now) text (g.S.Store.shows c.args.store.now) (g.S.Store.shows c.create.new.self) (g.S.Store.shows c.put_parts.new.store) c.put_parts.result
    (ap (λ (ps : List Part). parts_text names plans c.args.shadowed run ps) c.as_slice.ensures ∙ are.whole c.args.shadowed) c.in_ok-create.ensures.made (c.create.ensures.cause.quiet (λ e. search rules)) c.put_parts.ensures

pub put_parts-requires-clause-empty : goal.put_parts-requires-clause-empty
put_parts-requires-clause-empty g c κs within = created c.args.name.now (g.S.Store.shows c.args.store.now).files (g.S.Store.shows c.create.new.self).files c.in_ok-create.ensures.made
