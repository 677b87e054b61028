use Rattle.cy_setup.proofs.Records.{not_read}
use Rattle.cy_setup.proofs.listing.read_record.Goals as goal

pub returns-in-Err : goal.returns-in-Err
returns-in-Err g c = not_read c.args.name.now _ _ c.in-Err.fault _ c.record_fault.ensures c.in-Err.ensures
