-- A channel of the program, without where its bytes lie in memory.
use Rattle.cy_section.specs.declared.read.ChannelView.{ChannelView}
use Rattle.cy_section.specs.declared.types.Channel.{Channel}

abbrev pub seen_channel : ChannelView → Channel
seen_channel c = record {
  name = c.name.now;
  message_type = c.message_type.now;
  proto_desc =
      c.proto_desc.now;
}
