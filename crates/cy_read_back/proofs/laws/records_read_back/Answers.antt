use Rattle.cy_read_back.proofs.TextRead.{is_text, text_read}
use Rattle.cy_read_back.proofs.TextTold.{index_told, info_told}
use Rattle.cy_read_back.proofs.laws.records_read_back.Goals as goal

pub returns : goal.returns
returns c = record {
  text = λ name file channels messages text are. text_read name file channels text.chunks (is_text channels messages file text are);
  index = λ file channels messages text are. index_told channels text.chunks file (is_text channels messages file text are);
  same = λ name file channels messages text are. info_told name file channels text.chunks (is_text channels messages file text are);
}
