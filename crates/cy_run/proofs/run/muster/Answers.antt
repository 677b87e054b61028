use Rattle.std.proofs.Common.{rules, ◌≡◌, ◌∷◌, ◌∙◌, ap, arith, length}
use Rattle.std.specs.Vec.Iter.{into_iter_items}
use Rattle.cy_table.specs.Plays.{Thread}
use Rattle.cy_run.proofs.Mustered.{joins, rest_free, one_fewer}
use Rattle.cy_run.proofs.run.muster.Goals as goal

pub loop-worker-preserved : goal.loop-worker-preserved
loop-worker-preserved c = let i = c.loop-worker.invariant in let rest = into_iter_items c.next.new.self in
    let cut : into_iter_items c.loop-worker.worker-iterator ≡ c.in-Some.worker ∷ rest = search rules in let out = ap (λ (xs : _). length xs) cut in
    let t = c.args.table.now in let q = c.loop-worker.player in let u = c.join.new.pass in let w = c.in-Some.worker.pass in let told = c.join.ensures.thread in
    let all = rest_free t (into_iter_items c.loop-worker.worker-iterator) rest c.in-Some.worker cut i.8 in (
      search rules,
      search rules,
      search rules,
      joins t q u w i.3 c.join.ensures.same told,
      one_fewer q u w (length rest) told (omega (arith, i.4, out)),
      ap (λ (x : Thread). x.0.played) told ∙ i.5,
      ap (λ (x : Thread). x.0.clock) told ∙ i.6,
      ap (λ (x : Thread). x.0.raised) told ∙ i.7,
      all.1,
    )
