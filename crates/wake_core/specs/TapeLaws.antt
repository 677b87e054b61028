-- Laws of the tape: of the outputs that are not there yet, and of one message more.
use Rattle.std.specs.Prelude.{ℕ, ◌+◌, ◌-◌, ◌≡◌, ◌≢◌, ◌≤◌, List, [], ◌∷◌, ◌++◌, length, take}
use Rattle.std.specs.Prelude.{Some, None, option_map, slice_get}
use Rattle.cy_msg.specs.declared.token.Token.{Token}
use Rattle.cy_msg.specs.Tokens.{on_channel}
use Rattle.cy_comp.specs.declared.call.Call.{Call}
use Rattle.cy_comp.specs.Calls.{output, outs}
use Rattle.wake_core.specs.Run.{Route, writes_from, played_of}
use Rattle.wake_core.specs.Plain.{Plain, hand, Asked, taped_of, unsent_of, to_play}
use Rattle.wake_core.specs.Sound.{IsWired, HeldIn}
use Rattle.wake_core.specs.Rest.{IsToPlay}

-- An output that is not sent yet is that of a component, the next one of its channel.
pub record IsUnsent (w : Plain) (c : ℕ) (t : Token) : Type 0 where
  pub route : Route
  pub at : slice_get w.routes c ≡ Some route
  pub next : slice_get (outs route.out (w.calls c)) (length (on_channel route.out w.tape)) ≡ Some t
  pub its : t.channel ≡ route.out
  pub number : t.seq ≡ length (on_channel route.out w.tape) + 1

-- Outputs that are not sent yet. One who asks has none; one call more puts out the next one, or
-- none; and the last call put out one at most.
pub record UnsentLaws : Type 0 where
  pub next : (w : Plain) (c : ℕ) (t : Token) → unsent_of w c ≡ Some t → IsUnsent w c t
  pub asked : (w : Plain) (p c : ℕ) → w.hands p ≡ hand c Asked → HeldIn w → unsent_of w c ≡ None
  pub called : (channel : ℕ) (calls : List Call) (x : Call)
      → slice_get (outs channel (calls ++ x ∷ [])) (length (outs channel calls))
      ≡ option_map (output channel (length (outs channel calls) + 1)) x.out
  pub one : (channel : ℕ) (calls : List Call) → length (outs channel calls)
      ≤ length (outs channel (take (length calls - 1) calls)) + 1

-- One message more on the tape. Of a channel that no component writes, it is one more of those that
-- were played, and no component's output; an output is none that was played, and that of no other
-- component. All that is to be played are the messages of a list that may be.
pub record PutLaws : Type 0 where
  pub played : (routes : List Route) (tape : List Token) (t : Token)
      → writes_from 0 routes t.channel ≡ None
      → played_of routes (tape ++ t ∷ []) ≡ played_of routes tape ++ t ∷ []
  pub no_output : (w : Plain) (t : Token) → writes_from 0 w.routes t.channel ≡ None → (c : ℕ)
      → taped_of w.routes (w.tape ++ t ∷ []) c ≡ taped_of w.routes w.tape c
  pub written : (w : Plain) (c : ℕ) (t : Token) → unsent_of w c ≡ Some t
      → IsWired w.routes w.counts → writes_from 0 w.routes t.channel ≡ Some c
  pub not_played : (routes : List Route) (tape : List Token) (t : Token) (c : ℕ)
      → writes_from 0 routes t.channel ≡ Some c
      → played_of routes (tape ++ t ∷ []) ≡ played_of routes tape
  pub others : (w : Plain) (c : ℕ) (t : Token) → unsent_of w c ≡ Some t
      → IsWired w.routes w.counts → (d : ℕ) → d ≢ c
      → taped_of w.routes (w.tape ++ t ∷ []) d ≡ taped_of w.routes w.tape d
  pub all : (w : Plain) (tokens : List Token) → IsToPlay w tokens → to_play w ≡ length tokens
