use Rattle.cy_wire.proofs.FieldsBack.{fields_of-number, fields_of-bytes}
use Rattle.cy_wire.proofs.laws.fields_read_back.Goals as goal

pub returns-clause-number : goal.returns-clause-number
returns-clause-number c = fields_of-number

pub returns-clause-bytes : goal.returns-clause-bytes
returns-clause-bytes c = fields_of-bytes
