-- The ticks of timers.
use Rattle.std.specs.Prelude.{ℕ, ◌+◌, ◌*◌, ◌/◌, nat_lt, not, pos, List, [], ◌∷◌, map, filter, Some}
use Rattle.std.specs.Prelude.{None}
use Rattle.std.specs.List.{range_with_len}
use Rattle.cy_msg.specs.declared.token.Token.{Token}
use Rattle.cy_timer.specs.declared.timer.Timer.{Timer}

-- The multiples of a period from a time to another, both included, in order: those up to the other
-- that are not before the first.
unfoldable pub multiples : (period begin end : ℕ) → List ℕ
multiples period begin end =
    filter (λ time. not (nat_lt time begin))
    (map (λ k. k * period) (range_with_len 0 (end / period + 1)))

-- The most multiples of a millisecond's period or a longer one, up to the greatest time of 64 bits.
abbrev pub most_ticks : ℕ
most_ticks = 18446744073710

-- The ticks on a channel at these times, numbered from a number on, which is their value too.
abbrev pub ticks_at : (channel number : ℕ) → List ℕ → List Token
ticks_at channel number [] = []
ticks_at channel number (time ∷ rest) = record {
  channel = channel;
  seq = number;
  time = time;
  whole = Some (pos number);
  origin = None;
} ∷ ticks_at channel (number + 1) rest

-- The time of the last of some messages.
abbrev pub last_time : Token → List Token → ℕ
last_time t [] = t.time
last_time t (next ∷ rest) = last_time next rest

-- The ticks of a timer from a time to another: at each multiple of its interval, which is in
-- milliseconds.
abbrev pub ticks_between : (begin end : ℕ) → Timer → List Token
ticks_between begin end timer =
    ticks_at timer.channel 1 (multiples (timer.interval * 1000000) begin end)

-- The ticks of a timer while these messages are played, whose times never fall: from the first
-- message's time to that of the last, and none where no message is played.
abbrev pub ticks_of : List Token → Timer → List Token
ticks_of [] timer = []
ticks_of (first ∷ rest) timer = ticks_between first.time (last_time first rest) timer
