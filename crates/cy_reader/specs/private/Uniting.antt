-- Messages that are joined to those of other records.
use Rattle.std.specs.Prelude.{ℕ, ◌+◌, List, slice_index}
use Rattle.cy_reader.specs.declared.loading.Message.{Message}

-- A message of a later record, whose bodies stand behind so many others, and whose channels have
-- these numbers.
abbrev pub shifted : ℕ → List ℕ → Message → Message
shifted bodies numbers m = record {
  channel = slice_index numbers m.channel;
  body = bodies + m.body;
  time = m.time;
  start = m.start;
  length = m.length;
}
