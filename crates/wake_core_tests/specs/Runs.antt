-- The worlds of worked runs, and what the runs come to.
use Rattle.std.specs.Prelude.{ℕ, ◌≡◌, ◌∷◌, [], List, map, Some, None}
use Rattle.cy_msg.specs.declared.token.Token.{Token}
use Rattle.cy_msg.specs.declared.token.Tuple.{Tuple}
use Rattle.cy_fuse.specs.declared.overflow.Overflow.TheVariants.{Newest}
use Rattle.cy_comp.specs.declared.kind.Kind.TheVariants.{Pass, Sum}
use Rattle.wake_core.specs.Plain.{Plain, Stop, opening_world}
use Rattle.wake_core.specs.Events.{after_stop}
use Rattle.wake_core.specs.declared.route.Route.{Route}
use Rattle.cy_comp.specs.declared.state.State.TheVariants.{DataWait}
use Rattle.wake_core_tests.specs.Groups.{after_message, after_news, after_take}
use Rattle.wake_core_tests.specs.Groups.{after_fetching, after_back, after_turn}

-- The component that passes messages of channel 0 on to channel 1 and keeps so many of them; and
-- the one that sums those of channels 0 and 1.
abbrev pub passing : (queue : ℕ) → Route
passing queue = record {
  kind = Pass;
  readers = 0 ∷ [];
  queue = queue;
  overflow = Newest;
  out = 1;
}

abbrev pub summing : Route
summing = record {
  kind = Sum;
  readers = 0 ∷ 1 ∷ [];
  queue = 1;
  overflow = Newest;
  out = 2;
}

-- The messages of channel 0, at times 1, 2 and so on; and such a message passed on as the first of
-- channel 1.
abbrev pub message : (seq : ℕ) → Token
message seq = record { channel = 0; seq = seq; time = seq; whole = None; origin = None }

abbrev pub passed_on : (time : ℕ) → Token
passed_on time = record { channel = 1; seq = 1; time = time; whole = None; origin = None }

-- A message was played and passed on. Thread 1 has taken the component again.
unfoldable pub called_once : Plain
called_once = after_take (after_turn (passed_on 1)
    (after_message (message 1) (opening_world (passing 1 ∷ []) (2 ∷ 0 ∷ []) None)))

-- It asks and finds nothing; then the second message comes, and only then is the component parked.
unfoldable pub parked_too_late : Plain
parked_too_late = after_back DataWait (after_news (message 2) (after_fetching called_once))

-- Four messages were played before the component was first resumed.
unfoldable pub four_came : Plain
four_came = after_message (message 4) (after_message (message 3) (after_message (message 2)
    (after_message (message 1) (opening_world (passing 4 ∷ []) (4 ∷ 0 ∷ []) None))))

-- A message came to the first of two readers, and the component was parked.
unfoldable pub parked_once : Plain
parked_once = after_back DataWait (after_fetching (after_take
    (after_message (message 1) (opening_world (summing ∷ []) (2 ∷ 0 ∷ 0 ∷ []) None))))

-- The first of two messages was played and passed on. Then the component was stopped, and the
-- second message came.
abbrev pub stop_after_one : Stop
stop_after_one = record { component = 0; after = 1 }

unfoldable pub stopped_once : Plain
stopped_once = after_message (message 2) (after_stop (after_turn (passed_on 1)
    (after_message (message 1)
    (opening_world (passing 1 ∷ []) (2 ∷ 0 ∷ []) (Some stop_after_one)))))

-- Component 0 had these calls, each told by its position, its tail and its tuple, and its next
-- fetch begins at this number.
pub record HadCalls (told : List (ℕ × ℕ × Tuple)) (next : ℕ) (w : Plain) : Type 0 where
  pub calls : map (λ x. (x.position, x.tail, x.tuple)) (w.calls 0) ≡ told
  pub cursor : w.cursors 0 ≡ next
