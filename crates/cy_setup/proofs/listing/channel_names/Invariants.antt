use Rattle.std.proofs.Common.{◌≡◌, take}
use Rattle.cy_setup.specs.Listing.{channels_of}
use Rattle.cy_setup.proofs.listing.channel_names.Given as goal

abbrev pub invariant-loop-number : goal.invariant-loop-number
invariant-loop-number l = l.names.items ≡ channels_of (record l.recorded { channels = take l.number l.recorded.channels })
