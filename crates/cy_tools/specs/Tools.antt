-- What each tool does.
use Rattle.std.specs.Prelude.{List, length}
use Rattle.cy_msg.specs.declared.filter.Filter.{Filter}
use Rattle.cy_reader.specs.Record.{Met, Message, Contents}
use Rattle.cy_salvage.specs.Salvage.{Salvage}
use Rattle.cy_tools.specs.declared.recovering.Recovered.{Recovered}
use Rattle.cy_tools.specs.declared.splitting.Parted.{Parted}
use Rattle.cy_tools.specs.Kept.{passing}

-- What a tool makes of what was read: the messages that it keeps, of those that were met, and what
-- it tells.
pub record Tool (A T : Type 0) : Type 0 where
  pub met : A → Met
  pub kept : A → List Message
  pub tells : A → T

-- All that is salvaged is kept, and told are the number of messages and that of the bytes that are
-- dropped.
abbrev pub recovering : Tool Salvage Recovered
recovering = record {
  met = λ s. s.met;
  kept = λ s. s.met.messages;
  tells = λ s. record { messages = length s.met.messages; dropped = s.dropped };
}

-- The channels and messages of a record.
abbrev pub met_in : Contents → Met
met_in c = record { channels = c.channels; messages = c.messages }

-- What a filter lets through is kept, and told are the numbers of these messages and of all.
abbrev pub splitting : Filter → Tool Contents Parted
splitting f = record {
  met = met_in;
  kept = λ c. passing f (met_in c);
  tells = λ c. record { messages = length (passing f (met_in c)); of = length c.messages };
}
