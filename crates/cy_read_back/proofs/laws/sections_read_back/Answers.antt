use Rattle.cy_read_back.proofs.HeadsRead.{head_at-head}
use Rattle.cy_read_back.proofs.IndexRead.{index_at-body}
use Rattle.cy_read_back.proofs.RowsRead.{header_at-body, chunk_header_at-body}
use Rattle.cy_read_back.proofs.WrittenRead.{channel_at-body, chunk_body_at-body}
use Rattle.cy_read_back.proofs.laws.sections_read_back.Goals as goal

pub returns : goal.returns
returns c = record {
  head = head_at-head;
  header = header_at-body;
  chunk_header = chunk_header_at-body;
  channel = channel_at-body;
  chunk_body = chunk_body_at-body;
  index = index_at-body;
}
