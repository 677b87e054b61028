use Rattle.cy_reader.specs.declared.loading.Loading.{Loading}
use Rattle.cy_reader.proofs.Shifted.{bodies_in, numbers_in, shifted_leads, shifted_sound}
use Rattle.cy_reader.proofs.uniting.join_loading.Goals as goal

pub shift_messages-requires-clause-numbered : goal.shift_messages-requires-clause-numbered
shift_messages-requires-clause-numbered c =
    rw c.as_slice-2.ensures.value (numbers_in c.args.later c.args.more c.in_ok-numbers.numbers.items c.requires.sound.1 (rw c.as_slice.ensures.value at c.in_ok-numbers.ensures.numbers).many)

pub shift_messages-requires-clause-placed : goal.shift_messages-requires-clause-placed
shift_messages-requires-clause-placed c = bodies_in c.args.bodies c.args.more c.args.later c.requires.sound.1 c.requires.room

pub returns-clause-met : goal.returns-clause-met
returns-clause-met c before behind many more =
    let new : Loading = record { channels = c.join_channels.new.channels; messages = c.keep_messages.new.messages } in
    let all = rw c.as_slice-2.ensures.value at c.shift_messages.ensures in
    shifted_leads c.keep_messages.result c.args.bodies c.args.more before behind c.args.later c.args.loading.now new c.in_ok-numbers.numbers.items many c.requires.sound.0 c.requires.sound.1
    (rw c.as_slice.ensures.value at c.in_ok-numbers.ensures.list) (rw c.as_slice.ensures.value at c.in_ok-numbers.ensures.numbers)
    (rw all at c.keep_messages.ensures.kept) c.keep_messages.ensures.only_memory

pub returns-clause-still_sound : goal.returns-clause-still_sound
returns-clause-still_sound c =
    let new : Loading = record { channels = c.join_channels.new.channels; messages = c.keep_messages.new.messages } in
    let all = rw c.as_slice-2.ensures.value at c.shift_messages.ensures in
    shifted_sound c.keep_messages.result c.args.bodies c.args.more c.args.later c.args.loading.now new c.in_ok-numbers.numbers.items c.requires.sound.0 c.requires.sound.1 c.in_ok-numbers.ensures.kept
    (rw c.as_slice.ensures.value at c.in_ok-numbers.ensures.numbers) (rw all at c.keep_messages.ensures.kept) c.requires.few
