-- What a wiring keeps.
use Rattle.std.specs.Prelude.{ℕ, zero, suc, ◌+◌, ◌≡◌, ◌≤◌, ◌<◌, ◌==◌, if◌then◌else◌, true, List, []}
use Rattle.std.specs.Prelude.{◌∷◌, ◌++◌, length, slice_get, codes, Option, Some, None}
use Rattle.std.specs.Prelude.{option_and_then}
use Rattle.cy_comp.specs.declared.kind.Kind.TheVariants.{Pass}
use Rattle.cy_comp.specs.declared.plan.Plan.{Plan}
use Rattle.cy_comp.specs.Kind.{messages_needed, is_kind_in_range}

-- The first component, from a number on, that writes a channel, where `out` tells which one each
-- writes.
abbrev pub writer_from : {X : Type 0} → (X → ℕ) → ℕ → List X → ℕ → Option ℕ
writer_from out component [] channel = None
writer_from out component (x ∷ rest) channel =
    if out x == channel then Some component else writer_from out (component + 1) rest channel

-- The first component that writes a channel.
abbrev pub writer_of : List Plan → ℕ → Option ℕ
writer_of plans channel = writer_from (λ (p : Plan). p.out) 0 plans channel

-- The component that writes a component's first reader's channel, where one does.
abbrev pub trigger_of : List Plan → ℕ → Option ℕ
trigger_of plans c =
    option_and_then (λ (p : Plan). option_and_then (writer_of plans) (slice_get p.readers 0))
    (slice_get plans c)

-- The trigger of the trigger and so on, so many times.
abbrev pub trigger_after : List Plan → ℕ → ℕ → Option ℕ
trigger_after plans zero c = Some c
trigger_after plans (suc n) c = option_and_then (trigger_after plans n) (trigger_of plans c)

-- The name of the channel of a timer component's ticks.
abbrev pub tick_channel : List ℕ → List ℕ
tick_channel name = codes "@timer/" ++ name

-- What a component keeps to that is triggered by ticks of its own, one each so many milliseconds:
-- the ticks stand on the one channel that it reads, which is named after it and which no component
-- writes, and at most one of them waits.
pub record IsTimer (names : List (List ℕ)) (plans : List Plan) (a : Plan) (interval : ℕ)
    : Type 0 where
  pub some : 1 ≤ interval
  pub reader : length a.readers ≡ 1
  pub queue : a.queue ≡ 1
  pub named : (r : ℕ) → slice_get a.readers 0 ≡ Some r
      → slice_get names r ≡ Some (tick_channel a.name)
  pub unwritten : (j r : ℕ) (b : Plan) → slice_get plans j ≡ Some b → slice_get a.readers 0 ≡ Some r
      → b.out ≡ r → ⊥

-- Components over channels with these names are wired: at most 64 with names of their own; each has
-- parameters in the ranges of its class, reads one to four different channels, at least as many as
-- its class reads, keeps at least one tuple, and writes a channel that no other one writes;
-- following triggers never comes back to a component; and one with ticks is as such a component is,
-- and has a channel of its own for them.
pub record IsWiring (names : List (List ℕ)) (plans : List Plan) : Type 0 where
  pub few : length plans ≤ 64
  pub own_names : (i j : ℕ) (a b : Plan) → slice_get plans i ≡ Some a
      → slice_get plans j ≡ Some b → a.name ≡ b.name → i ≡ j
  pub in_range : (i : ℕ) (a : Plan) → slice_get plans i ≡ Some a → is_kind_in_range a.kind ≡ true
  pub needed : (i : ℕ) (a : Plan) → slice_get plans i ≡ Some a
      → messages_needed a.kind ≤ length a.readers
  pub some_reader : (i : ℕ) (a : Plan) → slice_get plans i ≡ Some a → 1 ≤ length a.readers
  pub few_readers : (i : ℕ) (a : Plan) → slice_get plans i ≡ Some a → length a.readers ≤ 4
  pub own_readers : (i : ℕ) (a : Plan) → slice_get plans i ≡ Some a
      → (j k r : ℕ) → slice_get a.readers j ≡ Some r → slice_get a.readers k ≡ Some r → j ≡ k
  pub readers_named : (i : ℕ) (a : Plan) → slice_get plans i ≡ Some a → (j r : ℕ)
      → slice_get a.readers j ≡ Some r → r < length names
  pub outs_named : (i : ℕ) (a : Plan) → slice_get plans i ≡ Some a → a.out < length names
  pub queues : (i : ℕ) (a : Plan) → slice_get plans i ≡ Some a → 1 ≤ a.queue
  pub own_outs : (i j : ℕ) (a b : Plan) → slice_get plans i ≡ Some a → slice_get plans j ≡ Some b
      → a.out ≡ b.out → i ≡ j
  pub timers : (i interval : ℕ) (a : Plan) → slice_get plans i ≡ Some a
      → a.interval ≡ Some interval → IsTimer names plans a interval
  pub own_ticks : (i j m n r : ℕ) (a b : Plan) → slice_get plans i ≡ Some a
      → slice_get plans j ≡ Some b → a.interval ≡ Some m → b.interval ≡ Some n
      → slice_get a.readers 0 ≡ Some r → slice_get b.readers 0 ≡ Some r → i ≡ j
  pub no_cycle : (n c : ℕ) → trigger_after plans (suc n) c ≡ Some c → ⊥

-- A component without ticks that passes the messages of channel 0 on to channel 1.
pub record PassesOn (plan : Plan) : Type 0 where
  pub kind : plan.kind ≡ Pass
  pub reader : plan.readers ≡ 0 ∷ []
  pub out : plan.out ≡ 1
  pub queue : 1 ≤ plan.queue
  pub no_ticks : plan.interval ≡ None
