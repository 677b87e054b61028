use Rattle.std.proofs.Common.{◌≡◌, ◌≤◌, ◌+◌, ◌∙◌, length, inl, inr, refl, ap, arith, Result, Ok}
use Rattle.std.specs.Vec.Iter.{into_iter_items}
use Rattle.std.proofs.lemmas.Result.{err_from_is_err_and}
use Rattle.cy_cut.specs.declared.cutting.Part.{Part}
use Rattle.cy_reader.specs.declared.error.LoadError.{LoadError}
use Rattle.cy_reader.specs.declared.loading.Loading.{Loading}
use Rattle.cy_reader.specs.Record.{Met}
use Rattle.cy_cut.specs.Sections.{longest_file}
use Rattle.cy_reader.specs.private.Loading.{met_of}
use Rattle.cy_reader.proofs.Bodies.{add_group, group_wrong, group_within, behind_within}
use Rattle.cy_cut.proofs.PartBytes.{bytes_both}
use Rattle.cy_reader.proofs.Moved.{sound_same, met_same}
use Rattle.cy_reader.proofs.gathering.add_parts.Goals as goal

pub add_group-requires-clause-within : goal.add_group-requires-clause-within
add_group-requires-clause-within g c κs within =
    let left = into_iter_items c.loop-left.left in
    let behind = into_iter_items c.next_group.new.left in
    let is = c.in_ok-group.ensures.next in
    group_within (λ (p : Part). p.body_at + length p.body ≤ longest_file) c.in_ok-group.group.items behind left is c.loop-left.invariant.within

pub add_group-requires-clause-room : goal.add_group-requires-clause-room
add_group-requires-clause-room g c κs within =
    let room = c.loop-left.invariant.room in
    let both = bytes_both c.in_ok-group.group.items (into_iter_items c.next_group.new.left) (into_iter_items c.loop-left.left) c.in_ok-group.ensures.next in
    (omega (arith, room.0, both), omega (arith, room.1, both))

pub loop-left-preserved : goal.loop-left-preserved
loop-left-preserved g c =
    let i = c.loop-left.invariant in
    let left = into_iter_items c.loop-left.left in
    let behind = into_iter_items c.next_group.new.left in
    let is = c.in_ok-group.ensures.next in
    let both = bytes_both c.in_ok-group.group.items behind left is in
    let grown = c.in_ok-add_group.ensures.grown in
    let kept = c.add_group.new.loading in
    let now : Loading = record { channels = kept.channels; messages = c.expect_more.new.messages } in
    let same : met_of c.add_group.new.bodies.items kept ≡ met_of c.add_group.new.bodies.items now = met_same c.add_group.new.bodies.items kept now refl c.expect_more.ensures in
    record {
      so_far = add_group c.in_ok-group.group.items behind left (met_of c.loop-left.bodies.items c.loop-left.loading) (met_of c.add_group.new.bodies.items now) _ is
          (c.in_ok-add_group.ensures.met ∙ ap (λ (m : Met). let r : Result Met LoadError = Ok m in r) same) i.so_far;
      sound = sound_same (length c.add_group.new.bodies.items) kept now refl c.expect_more.ensures c.in_ok-add_group.ensures.still_sound;
      room = (omega (arith, i.room.0, both, grown.0), omega (arith, i.room.1, both, grown.1, ap length c.expect_more.ensures));
      within = behind_within (λ (p : Part). p.body_at + length p.body ≤ longest_file) c.in_ok-group.group.items behind left is i.within;
    }

pub returns-in_err-add_group-clause-met : goal.returns-in_err-add_group-clause-met
returns-in_err-add_group-clause-met g c =
    let left = into_iter_items c.loop-left.left in
    let behind = into_iter_items c.next_group.new.left in
    let is = c.in_ok-group.ensures.next in
    let p = err_from_is_err_and c.from_residual-in_err-add_group.result c.from_residual-in_err-add_group.ensures.1 in
    rw (p.1, p.2) (elim c.in_err-add_group.ensures.met [
      | inl memory ↦ inl memory
      | inr wrong ↦ inr (group_wrong c.in_ok-group.group.items behind left (met_of c.loop-left.bodies.items c.loop-left.loading) _ _ is wrong c.loop-left.invariant.so_far)
    ])
