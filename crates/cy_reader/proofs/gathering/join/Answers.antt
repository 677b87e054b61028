use Rattle.std.proofs.Common.{◌≡◌, ◌≤◌, ◌+◌, ◌∷◌, length, arith, rules}
use Rattle.std.specs.Vec.Iter.{into_iter_items, into_iter_len}
use Rattle.cy_cut.specs.declared.cutting.Part.{Part}
use Rattle.cy_cut.specs.Sections.{longest_file}
use Rattle.cy_reader.specs.private.Loading.{met_of}
use Rattle.cy_cut.specs.Cutting.{seen_part}
use Rattle.cy_reader.proofs.Bodies.{one_met, rest_within}
use Rattle.cy_cut.proofs.PartBytes.{bytes_one}
use Rattle.cy_reader.proofs.Growing.{kept_grown}
use Rattle.cy_reader.proofs.Moved.{one_decoded}
use Rattle.cy_reader.proofs.gathering.join.Goals as goal

pub add_part-requires-clause-room : goal.add_part-requires-clause-room
add_part-requires-clause-room c =
    let i = c.loop-part.invariant in
    let left = into_iter_items c.loop-part.part-iterator in
    let rest = into_iter_items c.next.new.self in
    let is : left ≡ c.in-Some.part ∷ rest = search rules in
    let one = bytes_one c.in-Some.part left rest is in
    (omega (arith, i.bodies, one, c.requires.room.0), omega (arith, i.messages, one, c.requires.room.1))

pub loop-part-preserved : goal.loop-part-preserved
loop-part-preserved c =
    let i = c.loop-part.invariant in
    let p = c.in-Some.part in
    let left = into_iter_items c.loop-part.part-iterator in
    let rest = into_iter_items c.next.new.self in
    let is : left ≡ p ∷ rest = search rules in
    let one = bytes_one p left rest is in
    let old = c.loop-part.each in
    let new = c.next-in-loop-part.new.self in
    let both = one_decoded p left rest (into_iter_items old) (into_iter_items new) (into_iter_len old) (into_iter_len new) c.next-in-loop-part.result is c.next-in-loop-part.ensures.cases i.known i.decoded in
    record {
      so_far = one_met p left rest (met_of c.loop-part.bodies.items c.loop-part.loading) (met_of c.add_part.new.bodies.items c.add_part.new.loading) _ is c.in_ok-add_part.ensures.met i.so_far;
      sound = c.in_ok-add_part.ensures.still_sound;
      bodies = omega (arith, i.bodies, one, c.in_ok-add_part.ensures.bodies);
      messages = omega (arith, i.messages, one, kept_grown (seen_part p) c.loop-part.bodies.items c.add_part.new.bodies.items c.loop-part.loading c.add_part.new.loading c.in_ok-add_part.ensures.met);
      decoded = both.1;
      known = both.2;
      within = rest_within (λ (q : Part). q.body_at + length q.body ≤ longest_file) p left rest is i.within;
    }

pub returns-clause-grown : goal.returns-clause-grown
returns-clause-grown c = (omega (arith, c.loop-part.invariant.bodies), omega (arith, c.loop-part.invariant.messages))
