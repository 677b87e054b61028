use Rattle.std.proofs.Common.{rules, ◌≡◌, ◌++◌, ap, List, ℕ}
use Rattle.std.specs.List.{flat_map}
use Rattle.std.proofs.lemmas.List.Elements.{All-same, All-drop}
use Rattle.cy_trace_text.specs.Parts.{IsPartOf, part_text, parts_text}
use Rattle.cy_trace_text.specs.declared.parts.Part.{Part}
use Rattle.wake_core.specs.Rest.{run_shown}
use Rattle.wake_core.specs.WorldOf.{plain_of}
use Rattle.cy_commands.proofs.PiecesPut.{begun, cut_after, ended, has_place, no_more, put, starved, stopped}
use Rattle.cy_commands.proofs.trace_file.put_parts.Goals as goal

pub loop-rest-init : goal.loop-rest-init
loop-rest-init g c =
    let run = run_shown (plain_of c.args.world.now) in
    record { fit = c.requires.fit; far = begun c.args.name.now (parts_text c.args.wiring.now.names c.args.wiring.now.plans c.args.shadowed run c.args.parts.now) (g.S.Store.shows c.args.store.now) }

pub returns-in_err-map_err : goal.returns-in_err-map_err
returns-in_err-map_err g c =
    let run = run_shown (plain_of c.args.world.now) in
    let text : List Part → List ℕ = parts_text c.args.wiring.now.names c.args.wiring.now.plans c.args.shadowed run in
    starved c.args.name.now (text c.args.parts.now) (text c.loop-rest.rest.now) c.loop-rest.at (g.S.Store.shows c.args.store.now) (g.S.Store.shows c.loop-rest.store) c.from_residual.result c.loop-rest.invariant.far
    (search rules) (λ e. search rules) (λ e. search rules)

pub returns-in_err-end : goal.returns-in_err-end
returns-in_err-end g c =
    let run = run_shown (plain_of c.args.world.now) in
    let text : List Part → List ℕ = parts_text c.args.wiring.now.names c.args.wiring.now.plans c.args.shadowed run in
    starved c.args.name.now (text c.args.parts.now) (text c.loop-rest.rest.now) c.loop-rest.at (g.S.Store.shows c.args.store.now) (g.S.Store.shows c.loop-rest.store) c.from_residual-in_err-end.result c.loop-rest.invariant.far
    (search rules) (λ e. search rules) (λ e. search rules)

pub put_at-requires : goal.put_at-requires
put_at-requires g c =
    let run = run_shown (plain_of c.args.world.now) in
    let text : List Part → List ℕ = parts_text c.args.wiring.now.names c.args.wiring.now.plans c.args.shadowed run in
    has_place c.args.name.now (text c.args.parts.now) (text c.loop-rest.rest.now) c.loop-rest.at (g.S.Store.shows c.args.store.now) (g.S.Store.shows c.loop-rest.store) c.requires.empty c.loop-rest.invariant.far

pub returns-in_err-put_at : goal.returns-in_err-put_at
returns-in_err-put_at g c =
    let run = run_shown (plain_of c.args.world.now) in
    let part = part_text c.args.wiring.now.names c.args.wiring.now.plans c.args.shadowed run in
    let made : c.push_texts.new.to.items ≡ c.clear.new.self.items ++ flat_map part c.split_at.result.0.now = search rules in
    let text : List Part → List ℕ = parts_text c.args.wiring.now.names c.args.wiring.now.plans c.args.shadowed run in
    stopped c.args.name.now (text c.args.parts.now) (text c.loop-rest.rest.now) c.deref.result.now (text c.split_at.result.1.now) c.loop-rest.at (g.S.Store.shows c.args.store.now) (g.S.Store.shows c.loop-rest.store) (g.S.Store.shows c.put_at.new.self)
    c.put_at.result c.from_residual-in_err-put_at.result c.requires.empty c.loop-rest.invariant.far
    (cut_after part c.loop-rest.rest.now c.split_at.result.0.now c.split_at.result.1.now c.clear.new.self.items c.push_texts.new.to.items c.deref.result.now c.split_at.ensures.by_index.0 c.clear.ensures.items made c.deref.ensures.value)
    (λ e. c.put_at.ensures.torn e) (λ e. c.put_at.ensures.memory e) c.put_at.ensures.cause (search rules) (λ e. search rules) (λ e. search rules) (λ e. search rules) (λ e. search rules)

pub loop-rest-preserved : goal.loop-rest-preserved
loop-rest-preserved g c =
    let run = run_shown (plain_of c.args.world.now) in
    let part = part_text c.args.wiring.now.names c.args.wiring.now.plans c.args.shadowed run in
    let made : c.push_texts.new.to.items ≡ c.clear.new.self.items ++ flat_map part c.split_at.result.0.now = search rules in
    let text : List Part → List ℕ = parts_text c.args.wiring.now.names c.args.wiring.now.plans c.args.shadowed run in
    let P = IsPartOf c.args.wiring.now.plans run in
    record {
      fit = All-same P c.split_at.result.1.now _ c.split_at.ensures.back (All-drop P _ c.loop-rest.rest.now c.loop-rest.invariant.fit);
      far = put c.args.name.now (text c.args.parts.now) (text c.loop-rest.rest.now) c.deref.result.now (text c.split_at.result.1.now) c.loop-rest.at c.in_ok-end.end (g.S.Store.shows c.args.store.now) (g.S.Store.shows c.loop-rest.store) (g.S.Store.shows c.put_at.new.self)
          c.loop-rest.invariant.far
          (cut_after part c.loop-rest.rest.now c.split_at.result.0.now c.split_at.result.1.now c.clear.new.self.items c.push_texts.new.to.items c.deref.result.now c.split_at.ensures.by_index.0 c.clear.ensures.items made c.deref.ensures.value)
          (search rules) c.in_ok-put_at.ensures.put (c.put_at.ensures.cause.quiet (λ e. search rules));
    }

pub returns : goal.returns
returns g c =
    let run = run_shown (plain_of c.args.world.now) in
    let text : List Part → List ℕ = parts_text c.args.wiring.now.names c.args.wiring.now.plans c.args.shadowed run in
    ended c.args.name.now (text c.args.parts.now) (text c.loop-rest.rest.now) c.loop-rest.at (g.S.Store.shows c.args.store.now) (g.S.Store.shows c.loop-rest.store) c.loop-rest.invariant.far
    (ap text (no_more c.loop-rest.rest.now (search rules)))
