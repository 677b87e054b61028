use Rattle.std.proofs.Common.{length, refl, arith}
use Rattle.cy_reader.specs.declared.error.LoadError.TheVariants.{Memory}
use Rattle.cy_salvage.proofs.Salvaging.{sound_more, sound_until, sound_all, judged_at, all_judged}
use Rattle.cy_salvage.proofs.salvage.sound_count.Goals as goal

pub returns-then-faulty-clause-sound : goal.returns-then-faulty-clause-sound
returns-then-faulty-clause-sound g c = λ fault.
    let l = c.loop-count in
    let p = judged_at c.args.parts.now c.deref-told-items.result.now l.count c.in_ok-faulty.faulty Memory l.invariant.judged c.loop-count-test.true c.in_ok-faulty.ensures.value in
    sound_until c.args.parts.now l.count p.0 c.in_ok-faulty.faulty fault p.1.0 p.1.1.0 p.1.1.1 c.if-faulty.true (l.invariant.so_far fault)

pub loop-count-preserved : goal.loop-count-preserved
loop-count-preserved g c =
    let l = c.loop-count in
    let p = judged_at c.args.parts.now c.deref-told-items.result.now l.count c.in_ok-faulty.faulty Memory l.invariant.judged c.loop-count-test.true c.in_ok-faulty.ensures.value in
    record {
      judged = l.invariant.judged;
      so_far = λ fault. sound_more c.args.parts.now l.count p.0 c.in_ok-faulty.faulty fault p.1.0 p.1.1.0 p.1.1.1 c.if-faulty.false (l.invariant.so_far fault);
    }

pub returns-clause-sound : goal.returns-clause-sound
returns-clause-sound g c = λ fault.
    let l = c.loop-count in
    let many = all_judged c.args.parts.now c.deref-told-items.result.now l.invariant.judged in
    sound_all c.args.parts.now l.count (length c.args.parts.now) fault (omega (arith, c.loop-count-test.false, many)) refl (l.invariant.so_far fault)
