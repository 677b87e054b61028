use Rattle.std.proofs.Common.{◌≡◌, ◌<◌, ◌≤◌, ◌-◌, length, drop, IsTrue, slice_index}
use Rattle.cy_text.specs.Form.{read, read_text}
use Rattle.cy_text.specs.Tokens.{begins_token, tokens_from}
use Rattle.cy_text.specs.Views.{view_reading}
use Rattle.cy_text.proofs.text.read_text.Given as goal

abbrev pub invariant-loop-place : goal.invariant-loop-place
invariant-loop-place l = record {
  reads : read (view_reading l.reading) (tokens_from l.place 0 (drop l.place l.text)) ≡ read_text l.text;
  within : l.place ≤ length l.text;
  token : l.place < length l.text → IsTrue (begins_token (slice_index l.text l.place));
}

abbrev pub decreases-loop-place : goal.decreases-loop-place
decreases-loop-place l = length l.text - l.place
