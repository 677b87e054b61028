-- Messages and ticks in the order in which they are played.
use Rattle.std.specs.Prelude.{◌≡◌, ◌⊎◌, ◌<◌, ◌≤◌, nat_lt, if◌then◌else◌, List, [], ◌∷◌, ◌++◌}
use Rattle.std.specs.Prelude.{length, Result, IfOk, OnOk, IfErr}
use Rattle.std.specs.List.{flat_map}
use Rattle.cy_msg.specs.Tokens.{most_played}
use Rattle.cy_msg.specs.declared.token.Token.{Token}
use Rattle.cy_msg.specs.declared.play_list.PlayList.{PlayList}
use Rattle.cy_timer.specs.Ticks.{ticks_of}
use Rattle.cy_timer.specs.declared.timer.Timer.{Timer}
use Rattle.cy_timer.specs.declared.error.TimerError.{TimerError}
use Rattle.cy_timer.specs.declared.error.TimerError.TheVariants.{TooManyPlayed, Memory}

-- A message in front of others that are ordered by time: behind those that are before it, and in
-- front of those of its own time.
abbrev pub placed : Token → List Token → List Token
placed t [] = t ∷ []
placed t (other ∷ rest) = if nat_lt other.time t.time then other ∷ placed t rest
    else t ∷ other ∷ rest

-- Messages ordered by time; those of one time stay in their order.
abbrev pub by_time : List Token → List Token
by_time [] = []
by_time (t ∷ rest) = placed t (by_time rest)

-- The messages, and behind them the ticks of each timer.
abbrev pub with_ticks : List Token → List Timer → List Token
with_ticks messages timers = messages ++ flat_map (ticks_of messages) timers

-- All that is played, in order: at one time messages first, then the ticks of the timers in their
-- order.
abbrev pub merged : List Token → List Timer → List Token
merged messages timers = by_time (with_ticks messages timers)

-- The play list of some messages with the ticks of timers among them.
pub record IsMerged (messages : PlayList) (timers : List Timer) (all : PlayList) : Type 0 where
  pub tokens : all.tokens ≡ merged messages.tokens timers
  pub places : all.places ≡ messages.places
  pub shadowed : all.shadowed ≡ messages.shadowed

-- Messages and ticks together are more than can be played, and this is their number.
abbrev pub IsTooMany : PlayList → List Timer → TimerError → Type 0
IsTooMany messages timers e = (most_played < length (merged messages.tokens timers))
    × (e ≡ TooManyPlayed (length (merged messages.tokens timers)))

-- What `merge` answers: the play list with the ticks where those are not too many, or their number
-- together; or that there is no memory for it.
pub record MergeAnswer (messages : PlayList) (timers : List Timer)
    (result : Result PlayList TimerError) : Type 0 where
  pub list : IfOk result (IsMerged messages timers)
  pub few : OnOk result (length (merged messages.tokens timers) ≤ most_played)
  pub refused : IfErr result (λ e. (e ≡ Memory) ⊎ IsTooMany messages timers e)
