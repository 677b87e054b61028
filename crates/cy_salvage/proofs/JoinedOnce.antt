-- Channels that are united have different names.
use Rattle.std.proofs.Common.{◌≡◌, ◌++◌, List, Ok, ap, subst}
use Rattle.std.specs.Prelude.{map}
use Rattle.cy_msg.specs.Once.{IsOnce}
use Rattle.cy_reader.specs.declared.known.Known.{Known}
use Rattle.cy_reader.specs.Record.{Met}
use Rattle.cy_reader.specs.Said.{names_of}
use Rattle.cy_reader.specs.United.{channels_joined, met_joined, on_united}
use Rattle.cy_reader.proofs.JoinedChannels.{joined_once}
use Rattle.cy_reader.proofs.Told.{bind_ok, ok_is}

-- all of a later record, once its channels are united with those before
abbrev finish : Met → Met → List Known → Met
finish later before channels = record { channels = channels; messages = before.messages ++ map (on_united later.channels channels) later.messages }

pub still_once : (later before new : Met) → met_joined later before ≡ Ok new → IsOnce (names_of before.channels) → IsOnce (names_of new.channels)
still_once later before new joined once =
    let b = bind_ok (channels_joined later.channels before.channels) (λ channels. Ok (finish later before channels)) new joined in
    let is : b.0 ≡ new.channels = ap (λ (m : Met). m.channels) (ok_is (finish later before b.0) new b.1.1) in
    subst (λ (l : List Known). IsOnce (names_of l)) is (joined_once later.channels before.channels b.0 b.1.0 once)
