-- Events that belong together, of component 0 in the hand of thread 1 and of the player: what each
-- group needs of a world, and the world that it leaves.
use Rattle.std.specs.Prelude.{ℕ, ◌≡◌, ◌≢◌, ◌≤◌, ◌<◌, [], ◌∷◌, length, Option, Some, None}
use Rattle.std.specs.Prelude.{true, false, option_map}
use Rattle.cy_msg.specs.declared.token.Token.{Token}
use Rattle.cy_comp.specs.declared.call.Call.{Call}
use Rattle.cy_comp.specs.Calls.{held_until}
use Rattle.wake_core.specs.declared.world.World.{World}
use Rattle.wake_core.specs.Run.{readers_of, writes_from}
use Rattle.wake_core.specs.Plain.{Plain, Stop, hand}
use Rattle.wake_core.specs.Plain.{last_of, unsent_of, played_count, stops}
use Rattle.cy_comp.specs.declared.state.State.{State}
use Rattle.cy_comp.specs.declared.state.State.TheVariants.{Ready}
use Rattle.wake_core.specs.declared.phase.Phase.TheVariants.{Known, Woken, Running}
use Rattle.wake_core.specs.Events.{OwesNothing, IsDue, IsNext, MayYield, next_call, state_after}
use Rattle.wake_core.specs.Events.{after_acquire, after_spend, after_ready, after_check, after_ask}
use Rattle.wake_core.specs.Events.{after_fetch, after_tape, after_send, after_fill, after_look}
use Rattle.wake_core.specs.Events.{after_clear, after_yield, after_release}
use Rattle.wake_core.specs.WorldOf.{plain_of, to_step}

-- No component is to be stepped in a world.
abbrev pub NoneToStep : World → Type 0
NoneToStep w = (c : ℕ) → to_step w c ≡ None

-- A world is this plain world, and no component is to be stepped in it.
pub record Shows (v : Plain) (w : World) : Type 0 where
  pub plain : plain_of w ≡ v
  pub stepped : NoneToStep w

-- A world became another one by this change of plain worlds. No component is to be stepped where
-- none was before.
pub record Becomes (change : Plain → Plain) (w v : World) : Type 0 where
  pub plain : plain_of v ≡ change (plain_of w)
  pub stepped : NoneToStep w → NoneToStep v

-- A message is played at its time: it comes to component 0 as its first reader, and the player
-- looks at the component's state.
abbrev pub after_message : Token → Plain → Plain
after_message t w =
    after_look 0 0 [] (after_fill 0 0 0 [] (after_tape 0 t record w { clock = t.time }))

pub record MayCome (t : Token) (w : Plain) : Type 0 where
  pub owes : OwesNothing 0 w
  pub later : w.clock ≤ t.time
  pub raised : (s : Stop) → w.stop ≡ Some s → played_count w ≡ s.after → w.raised ≡ true
  pub next : IsNext t w
  pub read : readers_of w.routes t.channel ≡ (0, 0) ∷ []

-- It comes while the component waits, whose flag the player clears.
abbrev pub after_news : Token → Plain → Plain
after_news t w = after_clear 0 0 [] (after_message t w)

pub record MayTell (t : Token) (w : Plain) : Type 0 where
  pub comes : MayCome t w
  pub told : (after_message t w).clearing 0 ≡ 0 ∷ []

-- Thread 1 takes the component, which nobody holds and which isn't due, and spends its flag.
abbrev pub after_take : Plain → Plain
after_take w = after_spend 1 0 (after_acquire 1 0 w)

pub record MayTake (w : Plain) : Type 0 where
  pub known : 0 < length w.routes
  pub nobody : (p : ℕ) → w.hands p ≡ None
  pub not_due : IsDue (w.states 0) w.clock → ⊥

-- It finds the flag clear, and makes the component READY.
abbrev pub after_wake : Plain → Plain
after_wake w = after_ready 1 0 (after_take w)

pub record MayTakeWoken (w : Plain) : Type 0 where
  pub takes : MayTake w
  pub woken : (after_take w).hands 1 ≡ hand 0 Woken

-- It looks whether the component, which is READY, is stopped, which it isn't, and asks for it.
abbrev pub after_asking : Plain → Plain
after_asking w = after_ask 1 0 (after_check 1 0 w)

-- It asks and fetches.
abbrev pub found_then : Plain → Option Call
found_then w = next_call (after_asking w) 0

abbrev pub after_fetching : Plain → Plain
after_fetching w = after_fetch 1 0 (found_then w) (after_asking w)

pub record MayAskAgain (w : Plain) : Type 0 where
  pub held : w.hands 1 ≡ hand 0 Known
  pub ready : w.states 0 ≡ Ready
  pub none_held : unsent_of w 0 ≡ None
  pub unstopped : stops w.stop w.raised 0 ≡ false

-- It yields in a state, and gives the component back.
abbrev pub after_back : State → Plain → Plain
after_back state w = after_release 1 (after_yield 1 0 state w)

pub record MayGiveBack (state : State) (w : Plain) : Type 0 where
  pub owes : OwesNothing 1 w
  pub held : MayYield 1 0 state w

-- It sends the output of the component's call, which nobody reads, and gives the component back.
abbrev pub after_output : Token → Plain → Plain
after_output t w = after_back Ready (after_send 1 0 Running t w)

pub record MaySendOn (t : Token) (w : Plain) : Type 0 where
  pub owes : OwesNothing 1 w
  pub held : w.hands 1 ≡ hand 0 Running
  pub at_once : held_until (last_of w.routes w.calls 0) ≡ None
  pub unsent : unsent_of w 0 ≡ Some t
  pub written : writes_from 0 w.routes t.channel ≢ None
  pub unread : readers_of w.routes t.channel ≡ []
  pub yields : option_map state_after (last_of w.routes w.calls 0) ≡ Some Ready
  pub all : unsent_of (after_send 1 0 Running t w) 0 ≡ None

-- It takes the component, calls it, and sends its output.
abbrev pub after_turn : Token → Plain → Plain
after_turn t w = after_output t (after_fetching (after_take w))

pub record MayTurn (t : Token) (w : Plain) : Type 0 where
  pub takes : MayTake w
  pub asks : MayAskAgain (after_take w)
  pub sends : MaySendOn t (after_fetching (after_take w))
