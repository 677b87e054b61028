-- The serial run: one message is played, and components are resumed in the order of the scan until
-- none can be.
use Rattle.std.specs.Prelude.{ℕ, ◌-◌, ◌^◌, ◌==◌, ◌&&◌, ◌||◌, nat_lt, not, is_some, if◌then◌else◌}
use Rattle.std.specs.Prelude.{Bool, true}
use Rattle.std.specs.Prelude.{false, List, [], ◌∷◌, ◌++◌, length, Option, Some, None, option_map}
use Rattle.std.specs.Prelude.{slice_get, find, take, drop}
use Rattle.cy_msg.specs.declared.token.Token.{Token}
use Rattle.cy_msg.specs.declared.token.Tuple.{Tuple}
use Rattle.cy_msg.specs.declared.stop.Stop.{Stop}
use Rattle.cy_fuse.specs.Fusion.{Arrival, fused}
use Rattle.cy_comp.specs.declared.call.Out.{Out}
use Rattle.cy_comp.specs.declared.call.Outcome.{Outcome}
use Rattle.cy_comp.specs.declared.call.Outcome.TheVariants.{Emit, Hold, Last}
use Rattle.cy_comp.specs.Step.{outcome_after, out_of}
use Rattle.cy_comp.specs.Calls.{tuples_of, last_outcome, held_until, outs, output}
use Rattle.wake_core.specs.Run.{Route, Run, opening, set_at, put, tail_of, finds}
use Rattle.wake_core.specs.Plain.{of_role}
use Rattle.wake_core.specs.Settle.{Settles, Runs}

abbrev pub is_past : Option ℕ → ℕ → Bool
is_past None clock = false
is_past (Some until) clock = nat_lt until clock

-- A stop that was raised, and how many messages had come to the first reader of its component by
-- then.
pub record Raised : Type 0 where
  pub stop : Stop
  pub heard : ℕ

-- How many messages came to a component's first reader.
abbrev pub heard_by : List Arrival → ℕ
heard_by arrivals = length (of_role 0 arrivals)

abbrev pub raised_in : Stop → Run → Raised
raised_in s w = record { stop = s; heard = heard_by (w.arrivals s.component) }

-- The stop that was raised, for the component that it names.
abbrev pub stop_of : Option Raised → ℕ → Option Raised
stop_of None c = None
stop_of (Some r) c = if r.stop.component == c then Some r else None

-- Whether one that is stopped is to be resumed for that: its stop was raised before anything was
-- played, or a message came to its first reader since.
abbrev pub is_roused : Raised → List Arrival → Bool
is_roused r arrivals = r.stop.after == 0 || nat_lt r.heard (heard_by arrivals)

-- Whether there is something for a component to do that holds no output back: a fetch finds
-- something; or it is stopped, and is to be resumed for that.
abbrev pub can_go_on : Route → Option Raised → Run → ℕ → Bool
can_go_on x None w c = is_some (finds x w c)
can_go_on x (Some r) w c = is_roused r (w.arrivals c)

-- Whether a component, which this stop names or none, can be resumed: it has not ended, and either
-- its held output is due, or it holds none and there is something for it to do.
abbrev pub can_resume : Route → Option Raised → Run → ℕ → Bool
can_resume x stop w c =
    let last = last_outcome x.kind (w.calls c) in
    not (w.ended c) && (if w.unsent c then is_past (held_until last) w.clock else can_go_on x stop w
    c)

abbrev pub is_runnable : List Route → Option Raised → Run → ℕ → Bool
is_runnable routes stop w c = is_runnable_at (slice_get routes c)
  where
    is_runnable_at : Option Route → Bool
    is_runnable_at None = false
    is_runnable_at (Some x) = can_resume x stop w c

-- The output of a component's last call is sent, where it has one.
abbrev pub send : List Route → Route → ℕ → Option Out → Run → Run
send routes x c None w = w
send routes x c (Some out) w = put routes (output x.out (length (outs x.out (w.calls c))) out) w

abbrev pub last_out : Option Outcome → Option Out
last_out None = None
last_out (Some outcome) = out_of outcome

-- What follows a call: a held output waits, another one is sent at once. The last call of all ends
-- its component.
abbrev pub follow : List Route → Route → ℕ → Outcome → Run → Run
follow routes x c (Emit out) w = send routes x c out w
follow routes x c (Hold until out) w = record w { unsent = set_at c true w.unsent }
follow routes x c (Last out) w =
    send routes x c out (record w { ended = set_at c true w.ended })

-- A call on the tuple at a position.
abbrev pub with_call : List Route → Route → ℕ → ℕ → Option Tuple → Run → Run
with_call routes x c position None w = w
with_call routes x c position (Some tuple) w =
    let outcome = outcome_after x.kind (tuples_of (w.calls c)) tuple in
    follow routes x c outcome (record w {
      calls = set_at c (w.calls c
          ++ record {
            position = position;
            tail = tail_of x w c;
            tuple = tuple;
            out = out_of outcome;
          } ∷ []) w.calls;
    })

abbrev pub call_at : List Route → Route → ℕ → Option ℕ → Run → Run
call_at routes x c None w = w
call_at routes x c (Some position) w =
    with_call routes x c position
    (slice_get (fused (w.arrivals c) (length x.readers)) (position - 1)) w

-- A component ends.
abbrev pub end_of : ℕ → Run → Run
end_of c w = record w { ended = set_at c true w.ended }

-- A component that holds no output back is called on what a fetch finds; one that is stopped ends.
abbrev pub go_on : List Route → Route → Option Raised → ℕ → Run → Run
go_on routes x None c w = call_at routes x c (finds x w c) w
go_on routes x (Some r) c w = end_of c w

-- The output that it holds back is sent; one that is stopped ends after that.
abbrev pub sent : List Route → Route → ℕ → Run → Run
sent routes x c w = send routes x c (last_out (last_outcome x.kind (w.calls c)))
    (record w { unsent = set_at c false w.unsent })

abbrev pub send_held : List Route → Route → Option Raised → ℕ → Run → Run
send_held routes x None c w = sent routes x c w
send_held routes x (Some r) c w = end_of c (sent routes x c w)

-- A component is resumed.
abbrev pub resume_by : List Route → Route → Option Raised → ℕ → Run → Run
resume_by routes x stop c w =
    if w.unsent c then send_held routes x stop c w else go_on routes x stop c w

abbrev pub resume : List Route → Option Raised → Run → ℕ → Run
resume routes stop w c = resume_at (slice_get routes c)
  where
    resume_at : Option Route → Run
    resume_at None = w
    resume_at (Some x) = resume_by routes x stop c w

-- The first component of the scan that can be resumed is.
abbrev pub next : List Route → Option Raised → List ℕ → Run → Option Run
next routes stop scan w = option_map (λ c. resume routes (stop_of stop c) w c)
    (find (λ c. is_runnable routes (stop_of stop c) w c) scan)

-- A message is played: the clock is set to its time, and it is sent.
abbrev pub play : List Route → Token → Run → Run
play routes t w = put routes t (record w { clock = t.time })

-- After the last message the clock is set to its greatest value.
abbrev pub last_clock : ℕ
last_clock = 2 ^ 64 - 1

-- Messages are played one after another, while this stop is raised or none.
abbrev pub Plays : List Route → Option Raised → List ℕ → List Token → Run → Run → Type 0
Plays routes stop scan tokens = Runs (next routes stop scan) (play routes) tokens

-- What is left to do after the last of them is done at the greatest value of the clock.
abbrev pub Ends : List Route → Option Raised → List ℕ → Run → Run → Type 0
Ends routes stop scan w end = Settles (next routes stop scan) (record w { clock = last_clock }) end

-- The serial run of a list of messages ends here. A stop is raised when as many messages as it says
-- were played.
abbrev pub SerialRun : List Route → Option Stop → List ℕ → List Token → Run → Type 0
SerialRun routes None scan tokens end =
    (m : Run) × Plays routes None scan tokens opening m × Ends routes None scan m end
SerialRun routes (Some s) scan tokens end = (n : Run) × (m : Run)
    × Plays routes None scan (take s.after tokens) opening n
    × Plays routes (Some (raised_in s n)) scan (drop s.after tokens) n m
    × Ends routes (Some (raised_in s n)) scan m end
