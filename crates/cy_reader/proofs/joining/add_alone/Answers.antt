use Rattle.cy_reader.specs.declared.loading.Loading.{Loading}
use Rattle.cy_reader.proofs.Moved.{moved_leads, moved_sound}
use Rattle.cy_reader.proofs.joining.add_alone.Goals as goal

pub returns-clause-met : goal.returns-clause-met
returns-clause-met c before body many =
    let new : Loading = record { channels = c.mention_all.new.channels; messages = c.move_messages.new.messages } in
    moved_leads c.move_messages.result c.args.bodies before body c.args.alone.now c.args.loading.now new c.in_ok-numbers.numbers.items many c.requires.sound c.requires.closed
    (rw c.as_slice.ensures.value at c.in_ok-numbers.ensures.list) (rw c.as_slice.ensures.value at c.in_ok-numbers.ensures.numbers)
    (rw (c.as_slice-2.ensures.value, c.as_slice-others.ensures.value) at c.move_messages.ensures.moved) c.move_messages.ensures.only_memory

pub returns-clause-still_sound : goal.returns-clause-still_sound
returns-clause-still_sound c =
    let new : Loading = record { channels = c.mention_all.new.channels; messages = c.move_messages.new.messages } in
    moved_sound c.move_messages.result c.args.bodies c.args.alone.now c.args.loading.now new c.in_ok-numbers.numbers.items c.requires.sound c.requires.closed c.in_ok-numbers.ensures.kept
    (rw c.as_slice.ensures.value at c.in_ok-numbers.ensures.numbers) (rw (c.as_slice-2.ensures.value, c.as_slice-others.ensures.value) at c.move_messages.ensures.moved) c.requires.few
