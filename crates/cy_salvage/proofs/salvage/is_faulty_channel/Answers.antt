use Rattle.cy_salvage.proofs.Salvaging.{channel_sound, channel_faulty}
use Rattle.cy_salvage.proofs.salvage.is_faulty_channel.Goals as goal

pub returns-in-Ok-clause-faulty : goal.returns-in-Ok-clause-faulty
returns-in-Ok-clause-faulty c = channel_sound c.args.part.now c.as_slice.result.now c.in-Ok.channel c.requires.channel c.as_slice.ensures c.in-Ok.ensures

pub returns-in-Err-clause-faulty : goal.returns-in-Err-clause-faulty
returns-in-Err-clause-faulty c =
    channel_faulty c.args.part.now c.as_slice.result.now c.in-Err.error c.is_fault.result c.requires.channel c.as_slice.ensures c.in-Err.ensures c.is_fault.ensures.fault
